-- A turn of the check: "whole length (1, then 7)", state (9), then the steps.
--   run_of any n e b st         the steps, as the rule writes them
--   turn_of k s b st            the whole turn
--   TurnPromise k s b st r     r says and leaves what that turn does
use Rattle.std.specs.Prelude.{ℕ, ◌/◌, ◌≡◌, List, Bool, length, eqb}
use Rattle.turns.specs.Pick.{pick}
use Rattle.turns.specs.Turn.{Turned, Halt, turn}
use Rattle.trees.specs.Signature.{Entries, entries_of, width}
use Rattle.checking.specs.declared.CheckState.{CheckState}
use Rattle.terms.specs.declared.Kind.{Kind}
use Rattle.terms.specs.Kinds.{any_name, most}
use Rattle.terms.specs.Length.{length_fault}
use Rattle.checking.specs.Rule.{step_of, accepted, in_range}
use Rattle.terms.specs.Stops.{Handed}
use Rattle.terms.specs.declared.Turn.{Turn}

-- at most b steps of the rule
abbrev pub run_of : Bool → ℕ → Entries → ℕ → CheckState → Turned CheckState
run_of any n e b st = turn CheckState (accepted n) (step_of any n e) b st

-- refused before any step: the state as given, no step
abbrev pub refused_at : {S : Type 0} → S → ℕ → Turned S
refused_at st number = record { state = st; steps = 0; halt = Halt.refusal number 0 }

-- a turn over any greatest size, name 0 allowed or not
unfoldable pub turn_within : Bool → ℕ → List ℕ → ℕ → CheckState → Turned CheckState
turn_within any most s b st =
    pick (eqb (length_fault most width (length s)) 0)
    (pick (in_range (length s / width) st) (run_of any (length s / width) (entries_of width s) b st) (refused_at st 9))
    (refused_at st (length_fault most width (length s)))

-- a turn of the check of a tree of kind k
abbrev pub turn_of : Kind → List ℕ → ℕ → CheckState → Turned CheckState
turn_of k s b st = turn_within (any_name k) (most k) s b st

-- the promise of a turn of the check
abbrev pub TurnPromise : Kind → List ℕ → ℕ → CheckState → Turn CheckState → Type 0
TurnPromise k s b st r = Handed r (turn_of k s b st)
