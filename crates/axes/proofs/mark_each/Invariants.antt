-- What is kept for the contexts so far has a mark.
use Rattle.trees.specs.Signature.{entries_of, width}
use Rattle.xpath.specs.Axes.{kept, chosen}
use Rattle.marks.specs.Axis.{axis_number}
use Rattle.one_pass.proofs.Contexts.{Each}
use Rattle.axes.proofs.mark_each.Given as goal

abbrev pub invariant-loop-c : goal.invariant-loop-c
invariant-loop-c l =
    Each l.request.tree.n
    (λ x. kept (axis_number l.request.axis) l.p (chosen (axis_number l.request.axis) l.request.tree.n (entries_of width l.request.tree.sig.now).fa (entries_of width l.request.tree.sig.now).name l.request.name x))
    l.request.contexts.now l.c-index l.marks
