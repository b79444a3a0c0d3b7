-- The saved states of the check and of preparing as lent numbers, and what a turn leaves of a state's numbers.
--   check_state_of l          the state of the check that three numbers stand for: next, top, closed
--   check_numbers st          its three numbers
--   prepare_numbers st        the one number of a state of preparing
--   kept_over void numbers l st   the numbers that a turn leaves: those given, l, if they stand for no state, and else the state's
--   TurnSaid kept t r left out   what a turn hands back, as the number returned, the state and out tell it
--   CheckSaid, PrepareSaid    the same of a turn of the check, and of preparing
use Rattle.std.specs.Prelude.{ℕ, ◌≡◌, Bool, List, [], ◌∷◌, get_or}
use Rattle.turns.specs.Pick.{pick}
use Rattle.checking.specs.declared.CheckState.{CheckState}
use Rattle.checking.specs.Rule.{at}
use Rattle.terms.specs.Stops.{told}
use Rattle.preparing.specs.declared.Prep.{Prep}
use Rattle.telling.specs.Numbers.{TurnTold}
use Rattle.terms.specs.declared.Turn.{Turn}

-- "State: next entry i, innermost open element top (0 for none), number closed."
abbrev pub check_state_of : List ℕ → CheckState
check_state_of l = at (get_or l 0 0) (get_or l 1 0) (get_or l 2 0)

-- the three numbers of a state: next, top, closed
abbrev pub check_numbers : CheckState → List ℕ
check_numbers st = st.next.0 ∷ st.top.0 ∷ st.closed.0 ∷ []

-- the one number of a state of preparing: the next entry t
abbrev pub prepare_numbers : Prep → List ℕ
prepare_numbers st = st.next.0 ∷ []

-- numbers that stand for no state are left as they are
abbrev pub kept_over : {S : Type 0} → (List ℕ → Bool) → (S → List ℕ) → List ℕ → S → List ℕ
kept_over void numbers l st = pick (void l) l (numbers st)

-- a turn, as the number returned, the state and out tell it
pub record TurnSaid {S : Type 0} (kept : S → List ℕ) (t : Turn S) (r : ℕ) (left out : List ℕ) : Type 0 where
  pub says : TurnTold (told t.stop) t.steps r out
  pub state : left ≡ kept t.state

-- a turn of the check, as the number returned, the state and out tell it
abbrev pub CheckSaid : Turn CheckState → ℕ → List ℕ → List ℕ → Type 0
CheckSaid t r left out = TurnSaid check_numbers t r left out

-- a turn of preparing, as the number returned, the state and out tell it
abbrev pub PrepareSaid : Turn Prep → ℕ → List ℕ → List ℕ → Type 0
PrepareSaid t r left out = TurnSaid prepare_numbers t r left out
