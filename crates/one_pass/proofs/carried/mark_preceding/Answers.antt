use Rattle.std.proofs.Common.{arith, ◌∙◌, ◌-◌, ◌+◌, ◌≡◌}
use Rattle.std.proofs.lemmas.List.{length-set}
use Rattle.blocks.proofs.Calls.{ready}
use Rattle.marks.proofs.Marking.{downward_beside}
use Rattle.one_pass.specs.Reached.{reached}
use Rattle.one_pass.proofs.Passes.{raised_down, preceding_is}
use Rattle.one_pass.proofs.carried.mark_preceding.Goals as goal

pub loop-j-preserved : goal.loop-j-preserved
loop-j-preserved c =
    let t = c.args.tree.now in
    let from = c.args.from.now in
    let l = c.loop-j in
    let i = l.invariant in
    let k = l.j - 1 in
    let e : l.j ≡ k + 1 = omega arith in
    record {
      long = length-set l.found k _ ∙ i.long;
      carried = raised_down from k l.last _ k t.n l.j e (omega arith) c.raised-last.ensures i.carried;
      done = downward_beside t.n (reached 8 t.sig.now t.n from) c.args.found.now k (omega arith) (omega arith) l.found (omega (arith, i.long, t.small)) _
          (preceding_is t.sig.now t.n (ready _ _ t.accepted t.counted) from k (omega arith) (omega arith) l.last l.j e _ c.first_past-past.ensures i.carried) l.j e i.done;
    }
