-- How a signature is built, tag by tag, in a room of the reader's own: that room itself is the stack of the open elements.
--   open_room room n a top   what it holds after an element named a opened, n others before it, below top
--   lacks room top          it has no entry top
--   close_room room top p f  what it holds after the innermost open element closed, with post p and ff f
--   parent_in room top       the parent of that element
use Rattle.std.specs.Prelude.{ℕ, ◌-◌, ◌*◌, Bool, ◌||◌, List, [], ◌∷◌, length, get_or, ltb, eqb}
use Rattle.std.proofs.lemmas.List.Edits.{sets}
use Rattle.turns.specs.Pick.{pick}

-- an element that opens has its name and its parent
abbrev pub open_room : List ℕ → ℕ → ℕ → ℕ → List ℕ
open_room room n a top = sets room (4 * n) (a ∷ 0 ∷ 0 ∷ top ∷ [])

-- a room without the entry of an element
abbrev pub lacks : List ℕ → ℕ → Bool
lacks room top = eqb (4 * top) 0 || ltb (length room) (4 * top)

-- one that closes gets post and ff; a room without its entry is left alone
unfoldable pub close_room : List ℕ → ℕ → ℕ → ℕ → List ℕ
close_room room top p f = pick (lacks room top) room (sets room (4 * top - 3) (p ∷ f ∷ []))

-- its parent, the innermost open element then; a room without its entry has none
unfoldable pub parent_in : List ℕ → ℕ → ℕ
parent_in room top = pick (lacks room top) 0 (get_or room (4 * top - 1) 0)
