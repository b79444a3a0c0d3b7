-- A turn of the check on lent numbers.
--   CheckTurnPromise k s b l r l' out    what is returned and left is that turn's
use Rattle.std.specs.Prelude.{ℕ, ◌≡◌, List}
use Rattle.turns.specs.Turn.{Turned}
use Rattle.checking.specs.declared.CheckState.{CheckState}
use Rattle.checking.specs.Turn.{turn_of}
use Rattle.terms.specs.Stops.{halt_told}
use Rattle.terms.specs.Kinds.{kind_of}
use Rattle.telling.specs.Numbers.{TurnTold}
use Rattle.telling.specs.States.{check_state_of, check_numbers}

-- the number returned, the state and out are those of a turn t
pub record CheckLeft (t : Turned CheckState) (r : ℕ) (left out : List ℕ) : Type 0 where
  pub says : TurnTold (halt_told t.halt) t.steps r out
  pub state : left ≡ check_numbers t.state

-- the promise of a turn of the check on bare numbers, kind and state among them
abbrev pub CheckTurnPromise : ℕ → List ℕ → ℕ → List ℕ → ℕ → List ℕ → List ℕ → Type 0
CheckTurnPromise k s b l r left out = CheckLeft (turn_of (kind_of k) s b (check_state_of l)) r left out
