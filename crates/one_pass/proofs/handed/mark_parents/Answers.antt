use Rattle.std.proofs.Common.{arith}
use Rattle.blocks.proofs.Calls.{ready}
use Rattle.one_pass.proofs.Passes.{parent_small, parents_are}
use Rattle.one_pass.proofs.handed.mark_parents.Goals as goal

pub bounds-found-up : goal.bounds-found-up
bounds-found-up c =
    let t = c.args.tree.now in
    omega (
      arith,
      c.loop-j.invariant.long,
      c.parent-up.ensures,
      parent_small t.sig.now t.n (ready _ _ t.accepted t.counted) c.args.from.now c.loop-j.j (omega arith) (omega arith),
    )

pub bounds-found-up-in-loop-j : goal.bounds-found-up-in-loop-j
bounds-found-up-in-loop-j c =
    let t = c.args.tree.now in
    omega (
      arith,
      c.loop-j.invariant.long,
      c.parent-up.ensures,
      parent_small t.sig.now t.n (ready _ _ t.accepted t.counted) c.args.from.now c.loop-j.j (omega arith) (omega arith),
    )

pub returns : goal.returns
returns c =
    let t = c.args.tree.now in
    let i = c.loop-j.invariant in
    parents_are t.sig.now t.n (ready _ _ t.accepted t.counted) c.args.from.now _ c.loop-j.j (omega arith) i.long i.handed
