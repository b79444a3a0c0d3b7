-- The axis is judged first, then the contexts.
use Rattle.std.proofs.Common.{sym, ap, ◌∙◌, ◌≤◌, arith}
use Rattle.std.proofs.lemmas.Result.{err_from_is_err_and}
use Rattle.std.specs.Prelude.{Ok, Err}
use Rattle.marks.proofs.Calls.{fine_high, fine_low, fine_left, fine_right, axis_small, as_numbered}
use Rattle.marks.proofs.fine_axis.Goals as goal

pub returns-in_err-axis : goal.returns-in_err-axis
returns-in_err-axis c =
    let p = err_from_is_err_and c.from_residual.result c.from_residual.ensures.1 in
    let bad = as_numbered _ _ c.in_err-axis.ensures in
    rw (p.1, p.2) (ap Err bad.0 ∙ sym (fine_left _ _ _ (fine_high _ _ _ bad.1)))

pub returns-then-not-is_ascending : goal.returns-then-not-is_ascending
returns-then-not-is_ascending c =
    let low : c.args.axis ≤ 10 = omega (arith, axis_small c.in_ok-axis.axis, as_numbered c.args.axis (Ok c.in_ok-axis.axis) c.in_ok-axis.ensures) in
    sym (fine_left _ _ _ (fine_low _ _ _ low ∙ sym c.is_ascending.ensures ∙ c.if-not-is_ascending.true))

pub returns : goal.returns
returns c =
    let low : c.args.axis ≤ 10 = omega (arith, axis_small c.in_ok-axis.axis, as_numbered c.args.axis (Ok c.in_ok-axis.axis) c.in_ok-axis.ensures) in
    c.in_ok-axis.ensures ∙ sym (fine_right _ _ _ (fine_low _ _ _ low ∙ sym c.is_ascending.ensures ∙ c.if-not-is_ascending.false))
