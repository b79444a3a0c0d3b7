-- The ranks from 1 to n that pass a test, and tests on a list.
--   up_to n P      the ranks from 1 to n that pass P, ascending, each once
--   some P l      one of the list passes P
--   rises l       strictly ascending
--   within n l    each of the list is a rank from 1 to n
use Rattle.std.specs.Prelude.{ℕ, zero, suc, List, [], ◌∷◌, ◌++◌, Bool, true, false, ◌&&◌, ◌||◌, ltb, leb}
use Rattle.turns.specs.Pick.{pick}

-- the ranks from 1 to n that pass the test, in document order
unfoldable pub up_to : ℕ → (ℕ → Bool) → List ℕ
up_to zero P = []
up_to (suc n) P = pick (P (suc n)) (up_to n P ++ (suc n ∷ [])) (up_to n P)

-- one of the list passes the test
unfoldable pub some : (ℕ → Bool) → List ℕ → Bool
some P [] = false
some P (c ∷ l) = P c || some P l

-- "strictly ascending"
unfoldable pub rises : List ℕ → Bool
rises [] = true
rises (c ∷ []) = true
rises (c ∷ (d ∷ l)) = ltb c d && rises (d ∷ l)

-- no "rank of 0 or over n"
unfoldable pub within : ℕ → List ℕ → Bool
within n [] = true
within n (c ∷ l) = leb 1 c && leb c n && within n l
