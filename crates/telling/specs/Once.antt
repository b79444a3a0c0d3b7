-- Two results that a promise on bare numbers allows are equal: the number returned, out, and the room at exit.
--   one_said   of what is told by a number and out
--   one_left   of a call that writes into lent room
--   one_turn_said   of a turn that was told: the number, out, and the state's numbers
use Rattle.std.specs.Prelude.{ℕ, ◌≡◌, List}
use Rattle.std.proofs.Common.{◌∙◌, sym}
use Rattle.terms.specs.Room.{Left}
use Rattle.terms.specs.declared.Turn.{Turn}
use Rattle.telling.specs.Numbers.{Says, LeftNumbers}
use Rattle.telling.specs.States.{TurnSaid}

pub one_said : (number : ℕ) (numbers : List ℕ) (r q : ℕ) (o p : List ℕ) → Says number numbers r o → Says number numbers q p → (r ≡ q) × (o ≡ p)
one_said number numbers r q o p a b = (a.number_is ∙ sym b.number_is, a.out_is ∙ sym b.out_is)

pub one_left : (x : Left) (r q : ℕ) (after later o p : List ℕ) → LeftNumbers x r after o → LeftNumbers x q later p
    → ((r ≡ q) × (o ≡ p)) × (after ≡ later)
one_left x r q after later o p a b = (one_said _ _ r q o p a.says b.says, a.left ∙ sym b.left)

pub one_turn_said : {S : Type 0} (kept : S → List ℕ) (t : Turn S) (r q : ℕ) (left later o p : List ℕ) → TurnSaid kept t r left o
    → TurnSaid kept t q later p → ((r ≡ q) × (o ≡ p)) × (left ≡ later)
one_turn_said kept t r q left later o p a b = (one_said _ _ r q o p a.says b.says, a.state ∙ sym b.state)
