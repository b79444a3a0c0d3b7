-- The whole check comes first, then the arguments; where they refuse, the room is as it was. The marked ranks are the answer, so that writing them writes
-- the answer.
use Rattle.marks.proofs.Marking.{marks_none}
use Rattle.marks.proofs.Calls.{judged_leaves}
use Rattle.one_pass.proofs.Unions.{marks_written}
use Rattle.one_pass.proofs.axis_without_position.Goals as goal

pub mark_union-requires : goal.mark_union-requires
mark_union-requires c = marks_none _ c.in_ok-request.request.tree.small

pub returns : goal.returns
returns c =
    let q = c.in_ok-request.request in
    judged_leaves c.in_ok-request.ensures q.tree.counted 0 _ _ _
    (marks_written _ q.tree.small _ _ _ _ _ c.mark_union.ensures c.write_ranks.ensures)
