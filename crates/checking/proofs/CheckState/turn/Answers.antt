-- A turn is refused by the length, refused by the state, or run. What the two tests have shown is what the run asks for.
use Rattle.terms.specs.Faults.{some_number, tested}
use Rattle.terms.proofs.Handing.{handed_as}
use Rattle.checking.specs.Turn.{refused_at}
use Rattle.checking.proofs.Cases.{range_inverse}
use Rattle.checking.proofs.Stopping.{start_sized}
use Rattle.checking.proofs.Runs.{run_any, turn_length, turn_range, turn_run}
use mathlib.Core.Path.{refl, sym, ap, ◌∙◌}
use native.Mathlib.Omega.{arith}
use Rattle.checking.proofs.CheckState.turn.Goals as goal

pub returns-in-Err : goal.returns-in-Err
returns-in-Err c =
    let f = c.in-Err.ensures in
    handed_as _ _ _ _ (rw c.into.ensures at c.refused.ensures)
    (turn_length _ _ _ _ _ (λ w. some_number _ (f ∙ w)) ∙ ap (refused_at _) (sym f))
    (record { state = refl; steps = refl; stop = refl })

pub overflow_cast-n : goal.overflow_cast-n
overflow_cast-n c =
    let z = start_sized c.args.kind _ _ (ap tested (sym c.in_default.is) ∙ c.test_length.ensures) refl in
    omega (arith, z.1)

pub is_in_range-requires : goal.is_in_range-requires
is_in_range-requires c =
    let z = start_sized c.args.kind _ _ (ap tested (sym c.in_default.is) ∙ c.test_length.ensures) refl in
    z.1

pub returns-then-not-is_in_range : goal.returns-then-not-is_in_range
returns-then-not-is_in_range c =
    let f = ap tested (sym c.in_default.is) ∙ c.test_length.ensures in
    handed_as _ _ _ _ (rw c.into-then-not-is_in_range.ensures at c.refused-then-not-is_in_range.ensures)
    (turn_range _ _ _ _ _ (sym f) (sym c.is_in_range.ensures ∙ c.if-not-is_in_range.true))
    (record { state = refl; steps = refl; stop = refl })

pub invariant_of-run-clause-sized : goal.invariant_of-run-clause-sized
invariant_of-run-clause-sized c =
    let z = start_sized c.args.kind _ _ (ap tested (sym c.in_default.is) ∙ c.test_length.ensures) refl in
    omega (arith, z.0)

pub invariant_of-run-clause-small : goal.invariant_of-run-clause-small
invariant_of-run-clause-small c =
    let z = start_sized c.args.kind _ _ (ap tested (sym c.in_default.is) ∙ c.test_length.ensures) refl in
    z.1

pub run-requires : goal.run-requires
run-requires c = range_inverse _ _ (sym c.is_in_range.ensures ∙ c.if-not-is_in_range.false)

pub returns : goal.returns
returns c =
    let f = ap tested (sym c.in_default.is) ∙ c.test_length.ensures in
    handed_as _ _ _ _ refl
    (turn_run _ _ _ _ _ (sym f) (sym c.is_in_range.ensures ∙ c.if-not-is_in_range.false) ∙ run_any _ _ _ _ _ _ c.any_name-any_name.ensures) c.run.ensures
