use Rattle.std.proofs.Common.{arith, ◌∙◌}
use Rattle.std.proofs.lemmas.List.{length-set}
use Rattle.blocks.proofs.Calls.{ready}
use Rattle.marks.proofs.Marking.{upward_beside}
use Rattle.one_pass.specs.Reached.{reached}
use Rattle.one_pass.proofs.Passes.{child_is, parent_small}
use Rattle.one_pass.proofs.handed.mark_children.Goals as goal

pub is_marked_above-requires : goal.is_marked_above-requires
is_marked_above-requires c =
    let t = c.args.tree.now in
    omega (arith, c.parent-up.ensures, parent_small t.sig.now t.n (ready _ _ t.accepted t.counted) c.args.from.now c.loop-j.j (omega arith) (omega arith))

pub loop-j-preserved : goal.loop-j-preserved
loop-j-preserved c =
    let t = c.args.tree.now in
    let from = c.args.from.now in
    let l = c.loop-j in
    let i = l.invariant in
    record {
      long = length-set l.found l.j _ ∙ i.long;
      done = upward_beside t.n (reached 1 t.sig.now t.n from) c.args.found.now l.j (omega arith) (omega arith) l.found (omega (arith, i.long, t.small)) _
          (child_is t.sig.now t.n (ready _ _ t.accepted t.counted) from l.j (omega arith) (omega arith) _ _ c.parent-up.ensures c.is_marked_above.ensures) i.done;
    }
