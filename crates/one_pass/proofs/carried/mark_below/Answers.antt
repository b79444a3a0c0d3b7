use Rattle.std.proofs.Common.{arith, ◌∙◌}
use Rattle.std.proofs.lemmas.List.{length-set}
use Rattle.trees.specs.Signature.{entries_of, width}
use Rattle.blocks.proofs.Calls.{ready}
use Rattle.marks.proofs.Marking.{upward_beside}
use Rattle.one_pass.specs.Reached.{reached}
use Rattle.one_pass.proofs.Passes.{raised_up, below_is}
use Rattle.one_pass.proofs.carried.mark_below.Goals as goal

pub loop-j-preserved : goal.loop-j-preserved
loop-j-preserved c =
    let t = c.args.tree.now in
    let from = c.args.from.now in
    let l = c.loop-j in
    let i = l.invariant in
    record {
      long = length-set l.found l.j _ ∙ i.long;
      carried = raised_up from l.j l.reach _ _ (entries_of width t.sig.now).ff (omega arith) c.first_past.ensures c.raised-reach.ensures i.carried;
      done = upward_beside t.n (reached 2 t.sig.now t.n from) c.args.found.now l.j (omega arith) (omega arith) l.found (omega (arith, i.long, t.small)) _
          (below_is t.sig.now t.n (ready _ _ t.accepted t.counted) from l.j (omega arith) (omega arith) l.reach i.carried) i.done;
    }
