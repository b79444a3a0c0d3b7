-- The entries of a row, read by rank: what a signature says, without its list.
--   Entry e i a p f u    entry i has name a, post p, ff f and fa u
--   Holds e f i up c     the entries from i on are those of the row f below entry up, c elements closed before it
use Rattle.std.specs.Prelude.{ℕ, ◌+◌, ◌≡◌}
use Rattle.trees.specs.Tree.{Forest, none, elem, size}
use Rattle.trees.specs.Signature.{Entries}

-- entry i has these four numbers
pub record Entry (e : Entries) (i a p f u : ℕ) : Type 0 where
  pub name_is : e.name i ≡ a
  pub post_is : e.post i ≡ p
  pub ff_is : e.ff i ≡ f
  pub fa_is : e.fa i ≡ u

-- the entries from i on are those of the row, as row_signature writes them
abbrev pub Holds : Entries → Forest → ℕ → ℕ → ℕ → Type 0
Holds e none i up c = Unit {0}
Holds e (elem a below after) i up c =
    Entry e i a (c + size below + 1) (i + 1 + size below) up
    × Holds e below (i + 1) i c
    × Holds e after (i + 1 + size below) up (c + size below + 1)
