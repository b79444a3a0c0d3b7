-- The whole check: what a check begun fresh comes to, with one step more than the largest tree takes.
--   whole_of k s          its stop, in numbers
--   WholePromise k s v   v says what the whole check says
use Rattle.std.specs.Prelude.{ℕ, ◌+◌, ◌*◌, ◌≡◌, List}
use Rattle.terms.specs.declared.Kind.{Kind}
use Rattle.terms.specs.Kinds.{most}
use Rattle.checking.specs.Rule.{fresh}
use Rattle.checking.specs.Turn.{turn_of}
use Rattle.terms.specs.Stops.{Told, halt_told, verdict_told, Verdict}

-- the stop of a turn from the fresh state that its budget never stops
abbrev pub whole_of : Kind → List ℕ → Told
whole_of k s = halt_told (turn_of k s (2 * most k + 1) fresh).halt

-- the promise of the whole check
abbrev pub WholePromise : Kind → List ℕ → Verdict → Type 0
WholePromise k s v = verdict_told v ≡ whole_of k s
