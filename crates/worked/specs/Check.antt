-- The starred cases of the check. Each is a turn from the fresh state, as the promise cites it: reason (1 the end, 3 a refusal), number, entry, steps,
-- and the state handed back.
use Rattle.std.specs.Prelude.{ℕ, List, [], ◌∷◌}
use Rattle.turns.specs.Turn.{Turned}
use Rattle.checking.specs.declared.CheckState.{CheckState}
use Rattle.terms.specs.declared.Kind.{Kind}
use Rattle.checking.specs.Rule.{fresh}
use Rattle.terms.specs.Stops.{halt_told}
use Rattle.checking.specs.Turn.{turn_of}
use Rattle.worked.specs.Case.{Case}
use Rattle.checked.specs.Menus.{ten, single, two_roots, wrong_post, wrong_ff}

-- a turn in numbers
abbrev pub turned : Turned CheckState → List ℕ
turned t =
    (halt_told t.halt).reason ∷ (halt_told t.halt).number ∷ (halt_told t.halt).entry ∷ t.steps
    ∷ t.state.next.0 ∷ t.state.top.0 ∷ t.state.closed.0 ∷ []

-- a data tree checked with more than enough to spend
abbrev pub checked : List ℕ → List ℕ → Case
checked s wanted = record { got = turned (turn_of Kind.Data s 8193 fresh); wanted = wanted }

-- Ten is accepted in 20 steps and the one entry in 2; the three faulty lists are refused 4, 5 and 6, each at entry 2
abbrev pub cases : List Case
cases =
    checked ten (1 ∷ 0 ∷ 0 ∷ 20 ∷ 11 ∷ 0 ∷ 10 ∷ [])
    ∷ checked single (1 ∷ 0 ∷ 0 ∷ 2 ∷ 2 ∷ 0 ∷ 1 ∷ [])
    ∷ checked two_roots (3 ∷ 4 ∷ 2 ∷ 1 ∷ 2 ∷ 1 ∷ 0 ∷ [])
    ∷ checked wrong_post (3 ∷ 5 ∷ 2 ∷ 2 ∷ 3 ∷ 2 ∷ 0 ∷ [])
    ∷ checked wrong_ff (3 ∷ 6 ∷ 2 ∷ 2 ∷ 3 ∷ 2 ∷ 0 ∷ [])
    ∷ []
