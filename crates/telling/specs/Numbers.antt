-- The numbers of the C interface.
--   Says number numbers r out  this number is returned, and these numbers stand in out
--   out_of t steps              a turn's out: stop, steps, entry
--   TurnTold t k r out         what stopped a turn and its steps, as the number returned and out tell them
--   AnswerTold a r out         what a call that writes into lent room answers: the length of the result, entry
--   LeftNumbers x r after out   the same, and the room at exit, of what a call answers and leaves
use Rattle.std.specs.Prelude.{ℕ, ◌≡◌, List, [], ◌∷◌}
use Rattle.terms.specs.Stops.{Told, Answered}
use Rattle.terms.specs.Room.{Left}

-- the refusal's number is returned, 0 where there is none; out takes the other numbers
pub record Says (number : ℕ) (numbers : List ℕ) (r : ℕ) (left : List ℕ) : Type 0 where
  pub number_is : r ≡ number
  pub out_is : left ≡ numbers

-- "says how many it took and what stopped it"
abbrev pub out_of : Told → ℕ → List ℕ
out_of t steps = t.reason ∷ steps ∷ t.entry ∷ []

-- "A refused turn returns its number", any other turn 0; out takes stop, steps, entry
abbrev pub TurnTold : Told → ℕ → ℕ → List ℕ → Type 0
TurnTold t steps r left = Says t.number (out_of t steps) r left

-- "A refused single call returns its number and 0 for every other number"; 3 to 6 from the check also name the entry
abbrev pub AnswerTold : Answered → ℕ → List ℕ → Type 0
AnswerTold a r left = Says a.number (a.length ∷ a.entry ∷ []) r left

-- what a call answers is told by the number returned and by out, and the room is as the call leaves it
pub record LeftNumbers (x : Left) (r : ℕ) (after out : List ℕ) : Type 0 where
  pub says : AnswerTold x.answer r out
  pub left : after ≡ x.room
