-- Contexts, axis and names, one after the other, give the answer.
use Rattle.marks.proofs.Marking.{marks_none}
use Rattle.one_pass.proofs.Unions.{union_marks}
use Rattle.one_pass.proofs.mark_union.Goals as goal

pub mark_contexts-requires : goal.mark_contexts-requires
mark_contexts-requires c = marks_none _ c.args.request.now.tree.small

pub returns : goal.returns
returns c = union_marks _ _ _ _ _ _ _ _ _ c.args.request.now.ranks c.mark_contexts.ensures c.mark_axis.ensures c.keep_named.ensures
