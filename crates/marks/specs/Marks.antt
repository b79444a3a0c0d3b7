-- Marks, one for each rank: how the code holds the ranks that pass a test.
--   marked m j          rank j has a mark
--   numbered m j        the same where marks are numbers: 1 is one
--   Marks n P m         just the ranks from 1 to n that pass P have a mark
--   Marked n P before m   just those have one that had one before or pass P
--   lesser a b          the lesser of two numbers
use Rattle.std.specs.Prelude.{ℕ, ◌≤◌, ◌≡◌, List, Bool, false, ◌||◌, length, slice_index_or, get_or, eqb, leb}
use Rattle.turns.specs.Pick.{pick}

-- the rank has a mark
abbrev pub marked : List Bool → ℕ → Bool
marked m j = slice_index_or m j false

-- the rank has a mark, where 1 is a mark and every other number is none
abbrev pub numbered : List ℕ → ℕ → Bool
numbered m j = eqb (get_or m j 0) 1

-- just these ranks have one
pub record Marks (n : ℕ) (P : ℕ → Bool) (m : List Bool) : Type 0 where
  pub long : length m ≡ 4097
  pub are : (j : ℕ) → 1 ≤ j → j ≤ n → marked m j ≡ P j

-- just these ranks have one, and those that had one before
abbrev pub Marked : ℕ → (ℕ → Bool) → List Bool → List Bool → Type 0
Marked n P before m = Marks n (λ j. marked before j || P j) m

-- the lesser of two numbers
unfoldable pub lesser : ℕ → ℕ → ℕ
lesser a b = pick (leb a b) a b
