-- A step is refused by rule 1, opens by rule 2, or closes or is refused by rules 3 and 4.
use Rattle.terms.specs.Faults.{tested}
use Rattle.terms.proofs.Tests.{tested_none, tested_some}
use Rattle.checking.specs.Plain.{taken}
use Rattle.checking.proofs.Plain.{close_some, step_entry, step_opens, step_shuts, step_close, stuck_close}
use mathlib.Core.Path.{refl, sym, ap, ◌∙◌}
use native.Mathlib.Omega.{arith}
use Rattle.checking.proofs.steps.Checking.step.Goals as goal

pub returns-in_err-ok : goal.returns-in_err-ok
returns-in_err-ok c =
    let z = tested_none _ _ c.ok.ensures.value c.in_err-ok.was in
    c.from_residual.ensures ∙ sym (ap taken (step_entry _ _ _ _ _ _ _ c.test_entry.ensures z))

pub returns-then-opens : goal.returns-then-opens
returns-then-opens c =
    let z = tested_some _ _ _ c.ok.ensures.value c.in_ok-ok.was in
    sym (ap taken (step_opens _ _ _ _ _ _ _ c.test_entry.ensures z _ c.opens.ensures c.if-opens.true))

pub returns-in_err-ok-2 : goal.returns-in_err-ok-2
returns-in_err-ok-2 c =
    let z = tested_some _ _ _ c.ok.ensures.value c.in_ok-ok.was in
    let y = tested_none _ _ c.ok-2.ensures.value c.in_err-ok-2.was in
    let stuck = stuck_close _ _ _ _ _ _ _ c.test_entry.ensures z _ c.opens.ensures c.if-opens.false _ c.test_close.ensures y in
    c.from_residual-in_err-ok-2.ensures ∙ sym (ap taken (step_close _ _ _ _ _ _ _ c.test_entry.ensures z stuck _ _ c.test_close.ensures refl))

pub number-requires : goal.number-requires
number-requires c =
    let y = tested_some _ _ _ c.ok-2.ensures.value c.in_ok-ok-2.was in
    (close_some _ _ _ _ (sym c.test_close.ensures ∙ y), omega arith, omega arith)

pub returns : goal.returns
returns c =
    let z = tested_some _ _ _ c.ok.ensures.value c.in_ok-ok.was in
    let y = tested_some _ _ _ c.ok-2.ensures.value c.in_ok-ok-2.was in
    rw c.number.ensures (sym (ap taken (step_shuts _ _ _ _ _ _ _ c.test_entry.ensures z _ c.opens.ensures c.if-opens.false _ c.test_close.ensures y)))
