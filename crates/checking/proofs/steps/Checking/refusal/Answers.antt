-- Where no step is taken and rule 1 refuses nothing, rules 3 and 4 refuse: a close that is not refused would have been a step.
use Rattle.terms.specs.Faults.{some_number, tested}
use Rattle.checking.proofs.Plain.{step_entry, step_close, step_stuck, close_err}
use mathlib.Core.Path.{refl, sym, ap, ◌∙◌}
use Rattle.checking.proofs.steps.Checking.refusal.Goals as goal

pub returns-in-Err : goal.returns-in-Err
returns-in-Err c = rw c.at.ensures (step_entry _ _ _ _ _ _ _ c.in-Err.ensures (some_number _))

pub unwrap_err-fault-requires : goal.unwrap_err-fault-requires
unwrap_err-fault-requires c =
    close_err _ _ _ _ _ _ c.requires.stuck _ (ap tested (sym c.in_default.is) ∙ c.test_entry.ensures) refl _ c.test_close.ensures

pub returns : goal.returns
returns c =
    let f = ap tested (sym c.in_default.is) ∙ c.test_entry.ensures in
    let g = ap tested (sym c.unwrap_err-fault.ensures) ∙ c.test_close.ensures in
    rw c.at-2.ensures (step_close _ _ _ _ _ _ _ f refl (step_stuck _ _ _ _ _ _ c.requires.stuck) _ _ g c.close_entry.ensures)
