-- The whole check comes first, then the arguments; where they refuse, the room is as it was. The marked ranks are the answer, so that writing them writes
-- the answer.
use Rattle.std.proofs.Common.{refl}
use Rattle.std.proofs.lemmas.Result.{err_from_is_err_and}
use Rattle.marks.proofs.Marking.{marks_none}
use Rattle.marks.proofs.Calls.{leaves_as, judged_leaves}
use Rattle.one_pass.proofs.Unions.{marks_written}
use Rattle.axes.proofs.axis_with_position.Goals as goal

pub returns-in_err-request : goal.returns-in_err-request
returns-in_err-request c =
    let p = err_from_is_err_and c.from_residual.result c.from_residual.ensures.1 in
    rw (p.1, p.2) (leaves_as _ _ _ _ (c.in_err-request.ensures.left c.args.position c.args.room.now) (record { told = refl; left = refl }))

pub mark_each-requires : goal.mark_each-requires
mark_each-requires c = (c.requires, marks_none _ c.in_ok-request.request.tree.small)

pub returns : goal.returns
returns c =
    let q = c.in_ok-request.request in
    judged_leaves c.in_ok-request.ensures q.tree.counted c.args.position _ _ _
    (marks_written _ q.tree.small _ _ _ _ _ c.mark_each.ensures c.write_ranks.ensures)
