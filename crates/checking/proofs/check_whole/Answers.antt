-- What stops a check begun fresh is never its budget and never an answer, so what is no refusal is the end.
use Rattle.terms.specs.Kinds.{any_name, most}
use Rattle.checking.proofs.Runs.{whole_stops, whole_told, stop_accepted}
use mathlib.Core.Path.{◌∙◌}
use Rattle.checking.proofs.check_whole.Goals as goal

pub returns-in_default : goal.returns-in_default
returns-in_default c =
    let a = c.args in
    let e = rw c.fresh.ensures at c.turn.ensures.stop in
    stop_accepted c.turn.result.stop _ (e ∙ whole_told a.kind a.sig.now _ (c.from-most.ensures ∙ c.most.ensures))
    (whole_stops (any_name a.kind) (most a.kind) a.sig.now) c.in_default.not-Refused
