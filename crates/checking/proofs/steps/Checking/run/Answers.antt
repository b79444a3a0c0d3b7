-- A step that was taken counts one; where steps stop, the run says why.
use Rattle.turns.specs.Laws.{run_counted, run_end, run_budget, run_refused}
use Rattle.terms.proofs.Handing.{handed_as}
use Rattle.checking.proofs.Inverse.{step_ranges, step_before}
use Rattle.checking.proofs.Plain.{taken_moved}
use mathlib.Core.Path.{refl, sym, ◌∙◌}
use native.Mathlib.Omega.{arith}
use Rattle.checking.proofs.steps.Checking.run.Goals as goal

pub refusal-requires : goal.refusal-requires
refusal-requires c = record { ranges = c.loop-steps.invariant.within; stuck = sym c.step.ensures ∙ c.in_default.is }

pub returns-then-is_accepted : goal.returns-then-is_accepted
returns-then-is_accepted c =
    let l = c.loop-steps in
    handed_as _ _ _ _ refl (l.invariant.same ∙ run_end _ _ _ _ _ _ (sym c.is_accepted.ensures ∙ c.if-is_accepted.true))
    (record { state = refl; steps = refl; stop = refl })

pub returns-else-is_accepted : goal.returns-else-is_accepted
returns-else-is_accepted c =
    let l = c.loop-steps in
    handed_as _ _ _ _ refl
    (l.invariant.same ∙ run_refused _ _ _ _ _ (sym c.is_accepted.ensures ∙ c.if-is_accepted.false) _ _ _ (omega arith) c.refusal.ensures)
    (record { state = refl; steps = refl; stop = refl })

pub loop-steps-preserved : goal.loop-steps-preserved
loop-steps-preserved c =
    let l = c.loop-steps in
    let e = taken_moved _ _ (sym c.step.ensures ∙ c.in-Some.is) in
    record {
      within = step_ranges _ _ _ _ _ l.invariant.within e;
      same = l.invariant.same ∙ run_counted _ _ _ _ _ (step_before _ _ _ _ _ e) _ _ (omega arith) e;
    }

pub returns-then-is_accepted-2 : goal.returns-then-is_accepted-2
returns-then-is_accepted-2 c =
    let l = c.loop-steps in
    handed_as _ _ _ _ refl (l.invariant.same ∙ run_end _ _ _ _ _ _ (sym c.is_accepted-2.ensures ∙ c.if-is_accepted-2.true))
    (record { state = refl; steps = omega arith; stop = refl })

pub returns-else-is_accepted-2 : goal.returns-else-is_accepted-2
returns-else-is_accepted-2 c =
    let l = c.loop-steps in
    handed_as _ _ _ _ refl
    (l.invariant.same ∙ run_budget _ _ _ _ _ (sym c.is_accepted-2.ensures ∙ c.if-is_accepted-2.false) _ (omega arith))
    (record { state = refl; steps = omega arith; stop = refl })
