-- A row: the elements with one parent, among the ranks after one rank, up to another.
--   between after last i       i comes after one rank, up to another
--   in_row e up after last i    and up is its parent
--   Row n e up j last          the rank after j, if there is one up to last, has the parent up, and none after last lies below up
use Rattle.std.specs.Prelude.{ℕ, ◌+◌, ◌≤◌, ◌<◌, ◌≡◌, Bool, ◌&&◌, ltb, leb, eqb}
use Rattle.trees.specs.Signature.{Entries}

-- after one rank, up to another
abbrev pub between : ℕ → ℕ → ℕ → Bool
between after last i = ltb after i && leb i last

-- between two ranks, and with this parent
abbrev pub in_row : Entries → ℕ → ℕ → ℕ → ℕ → Bool
in_row e up after last i = between after last i && eqb (e.fa i) up

-- the next rank is in the row, if there is one
pub record Row (n : ℕ) (e : Entries) (up j last : ℕ) : Type 0 where
  pub high : last ≤ n
  pub first : j < last → e.fa (j + 1) ≡ up
  pub inside : 1 ≤ up → last < e.ff up
