-- What a single call that writes into lent room answers, and what it leaves there.
--   Left                         the answer in numbers, and what the room holds at exit
--   front_with result room        the room with the result at its front
--   refused_left, written_left     what a refusal leaves; what a result that fits leaves
--   room_for room result          the result is written, or refused as 10
--   left_by …                     from the refusal before room (0: none) with its entry, the result, and the room at entry
--   Leaves x w after             the answer and the room at exit are those of x
use Rattle.std.specs.Prelude.{ℕ, ◌≡◌, List, ◌++◌, length, drop, leb, eqb}
use Rattle.turns.specs.Pick.{pick}
use Rattle.terms.specs.Stops.{Answered, Written, answered, worked, refused_as}

-- what a call answers and leaves
pub record Left : Type 0 where
  pub answer : Answered
  pub room : List ℕ

-- "Success writes the result at the front of the room and nothing beyond it."
abbrev pub front_with : List ℕ → List ℕ → List ℕ
front_with result room = result ++ drop (length result) room

-- "A refused single call returns its number and 0 for every other number, and writes nothing"
abbrev pub refused_left : List ℕ → ℕ → ℕ → Left
refused_left room number entry = record { answer = refused_as number entry; room = room }

-- the length of the result, which stands at the front
abbrev pub written_left : List ℕ → List ℕ → Left
written_left room result = record { answer = worked (length result); room = front_with result room }

-- "10 is given exactly if the result is longer than the room"
unfoldable pub room_for : List ℕ → List ℕ → Left
room_for room result = pick (leb (length result) (length room)) (written_left room result) (refused_left room 10 0)

-- room is judged after all else
unfoldable pub left_by : ℕ → ℕ → List ℕ → List ℕ → Left
left_by number entry result room = pick (eqb number 0) (room_for room result) (refused_left room number entry)

-- a call answers this and leaves this
pub record Leaves (x : Left) (w : Written) (after : List ℕ) : Type 0 where
  pub told : answered w ≡ x.answer
  pub left : after ≡ x.room
