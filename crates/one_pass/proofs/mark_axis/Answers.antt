-- Each arm is one axis; two of them mark the elements themselves too.
use Rattle.one_pass.proofs.Unions.{same_arm, none_or, or_same_below, or_same_above}
use Rattle.one_pass.proofs.mark_axis.Goals as goal

pub returns-in-Itself : goal.returns-in-Itself
returns-in-Itself c = rw c.in-Itself.is (same_arm _ _ _ c.requires _ _ c.mark_same.ensures)

pub returns-in-DescendantOrSelf : goal.returns-in-DescendantOrSelf
returns-in-DescendantOrSelf c =
    rw c.in-DescendantOrSelf.is
    (none_or _ _ _ c.requires _ (or_same_below _ _ _ _ _ _ c.mark_same-in-DescendantOrSelf.ensures c.mark_below-in-DescendantOrSelf.ensures))

pub returns-in-AncestorOrSelf : goal.returns-in-AncestorOrSelf
returns-in-AncestorOrSelf c =
    rw c.in-AncestorOrSelf.is
    (none_or _ _ _ c.requires _ (or_same_above _ _ _ _ _ _ c.mark_same-in-AncestorOrSelf.ensures c.mark_above-in-AncestorOrSelf.ensures))
