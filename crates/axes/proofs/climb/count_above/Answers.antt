use Rattle.std.proofs.Common.{arith}
use Rattle.trees.specs.Signature.{entries_of, width}
use Rattle.xpath.specs.SelectLaws.{up_length}
use Rattle.xpath.specs.Axes.{chosen}
use Rattle.blocks.proofs.Calls.{ready}
use Rattle.axes.proofs.Climbs.{way_start, climb_start, climb_count, climb_next, top}
use Rattle.axes.proofs.climb.count_above.Goals as goal

pub loop-j-init : goal.loop-j-init
loop-j-init c =
    let q = c.args.request.now in
    let t = q.tree in
    let e = entries_of width t.sig.now in
    let f = (ready _ _ t.accepted t.counted).facts in
    (way_start t.n e f q.name _ c.requires, omega (arith, climb_start t.n e f q.name _ c.requires (top _ _ f)))

pub overflow_add-met : goal.overflow_add-met
overflow_add-met c =
    let q = c.args.request.now in
    let t = q.tree in
    let e = entries_of width t.sig.now in
    let f = (ready _ _ t.accepted t.counted).facts in
    let i = c.loop-j.invariant in
    omega (
      arith,
      climb_count t.n e f q.name _ c.requires c.loop-j.j (omega arith) i.0 _ c.is_named.ensures,
      c.from-met.ensures,
      i.1,
      up_length (chosen 6 t.n e.fa e.name q.name c.args.start) t.n,
      t.small,
    )

pub loop-j-smaller : goal.loop-j-smaller
loop-j-smaller c =
    let q = c.args.request.now in
    let t = q.tree in
    let e = entries_of width t.sig.now in
    let f = (ready _ _ t.accepted t.counted).facts in
    omega (arith, c.parent-j.ensures, (f.each c.loop-j.j (omega arith) (omega (arith, c.loop-j.invariant.0.high, c.requires))).fa_high)

pub loop-j-preserved : goal.loop-j-preserved
loop-j-preserved c =
    let q = c.args.request.now in
    let t = q.tree in
    let e = entries_of width t.sig.now in
    let f = (ready _ _ t.accepted t.counted).facts in
    let i = c.loop-j.invariant in
    let k = climb_next t.n e f q.name _ c.requires c.loop-j.j (omega arith) i.0 _ c.is_named.ensures _ c.parent-j.ensures in
    (k.0, omega (arith, k.1, i.1, c.from-met.ensures))

pub returns : goal.returns
returns c =
    let q = c.args.request.now in
    let t = q.tree in
    let e = entries_of width t.sig.now in
    let f = (ready _ _ t.accepted t.counted).facts in
    omega (arith, c.loop-j.invariant.1, up_length (chosen 6 t.n e.fa e.name q.name c.args.start) c.loop-j.j)
