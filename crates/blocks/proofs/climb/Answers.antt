use Rattle.std.proofs.Common.{ap, arith}
use Rattle.trees.specs.Signature.{entries_of, width}
use Rattle.xpath.specs.Axes.{level_of}
use Rattle.xpath.specs.Levels.{level_root, level_up, level_high}
use Rattle.blocks.proofs.Calls.{ready}
use Rattle.blocks.proofs.climb.Goals as goal

pub overflow_add-level : goal.overflow_add-level
overflow_add-level c =
    let t = c.args.tree.now in
    let r = ready t.sig.now t.n t.accepted t.counted in
    let (i, low, high, up, level) = c.loop-up.invariant in
    omega (
      arith,
      level_high t.n (entries_of width t.sig.now).fa c.args.start,
      r.small,
      level_up _ _ r.facts i low high (omega (arith, up)),
      level,
    )

pub loop-up-smaller : goal.loop-up-smaller
loop-up-smaller c =
    let t = c.args.tree.now in
    let r = ready t.sig.now t.n t.accepted t.counted in
    let (i, low, high, up, level) = c.loop-up.invariant in
    omega (arith, up, (r.facts.each i low high).fa_high, (r.facts.each c.loop-up.up (omega arith) (omega (arith, up, (r.facts.each i low high).fa_high, high))).fa_high)

pub loop-up-preserved : goal.loop-up-preserved
loop-up-preserved c =
    let t = c.args.tree.now in
    let r = ready t.sig.now t.n t.accepted t.counted in
    let (i, low, high, up, level) = c.loop-up.invariant in (
      c.loop-up.up,
      omega arith,
      omega (arith, up, (r.facts.each i low high).fa_high, high),
      omega arith,
      omega (arith, level, level_up _ _ r.facts i low high (omega (arith, up)), ap (level_of t.n (entries_of width t.sig.now).fa) up),
    )

pub returns : goal.returns
returns c =
    let t = c.args.tree.now in
    let r = ready t.sig.now t.n t.accepted t.counted in
    let (i, low, high, up, level) = c.loop-up.invariant in
    omega (arith, level, level_root _ _ r.facts i low high (omega (arith, up)))
