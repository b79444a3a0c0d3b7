use Rattle.std.proofs.Common.{arith}
use Rattle.trees.specs.Signature.{entries_of, width}
use Rattle.xpath.specs.SelectLaws.{up_length}
use Rattle.xpath.specs.Axes.{chosen}
use Rattle.blocks.proofs.Calls.{ready}
use Rattle.axes.proofs.Climbs.{way_start, climb_start, climb_count, climb_next, climb_hit, climb_miss, top}
use Rattle.axes.proofs.climb.find_above.Goals as goal

pub loop-left-init : goal.loop-left-init
loop-left-init c =
    let q = c.args.request.now in
    let t = q.tree in
    let e = entries_of width t.sig.now in
    let f = (ready _ _ t.accepted t.counted).facts in
    let k = climb_start t.n e f q.name _ c.requires.1 (top _ _ f) in
    (way_start t.n e f q.name _ c.requires.1, omega (arith, k, c.count_above-left.ensures), λ x. omega (arith, c.count_above-left.ensures))

pub overflow_sub-left : goal.overflow_sub-left
overflow_sub-left c =
    let q = c.args.request.now in
    let t = q.tree in
    let e = entries_of width t.sig.now in
    let f = (ready _ _ t.accepted t.counted).facts in
    let i = c.loop-left.invariant in
    let u = up_length (chosen 6 t.n e.fa e.name q.name c.args.start) c.loop-left.j in
    omega (arith, i.1, climb_count t.n e f q.name _ c.requires.1 c.loop-left.j (omega (arith, u, i.1, c.requires.0)) i.0 _ c.is_named.ensures, c.from-left.ensures)

pub returns-then-left-p : goal.returns-then-left-p
returns-then-left-p c =
    let q = c.args.request.now in
    let t = q.tree in
    let e = entries_of width t.sig.now in
    let f = (ready _ _ t.accepted t.counted).facts in
    let i = c.loop-left.invariant in
    let u = up_length (chosen 6 t.n e.fa e.name q.name c.args.start) c.loop-left.j in
    climb_hit t.n e f q.name _ c.requires.1 c.args.p c.requires.0 c.loop-left.j (omega (arith, u, i.1, c.requires.0)) i.0 _ c.is_named.ensures (omega (arith, i.1))
    (omega (arith, i.1, c.from-left.ensures))

pub loop-left-smaller : goal.loop-left-smaller
loop-left-smaller c =
    let q = c.args.request.now in
    let t = q.tree in
    let e = entries_of width t.sig.now in
    let f = (ready _ _ t.accepted t.counted).facts in
    let i = c.loop-left.invariant in
    let u = up_length (chosen 6 t.n e.fa e.name q.name c.args.start) c.loop-left.j in
    omega (arith, c.parent-j.ensures, (f.each c.loop-left.j (omega (arith, u, i.1, c.requires.0)) (omega (arith, i.0.high, c.requires.1))).fa_high)

pub loop-left-preserved : goal.loop-left-preserved
loop-left-preserved c =
    let q = c.args.request.now in
    let t = q.tree in
    let e = entries_of width t.sig.now in
    let f = (ready _ _ t.accepted t.counted).facts in
    let i = c.loop-left.invariant in
    let u = up_length (chosen 6 t.n e.fa e.name q.name c.args.start) c.loop-left.j in
    let k = climb_next t.n e f q.name _ c.requires.1 c.loop-left.j (omega (arith, u, i.1, c.requires.0)) i.0 _ c.is_named.ensures _ c.parent-j.ensures in
    (k.0, omega (arith, k.1, i.1, c.from-left.ensures), λ x. omega arith)

pub returns : goal.returns
returns c =
    let q = c.args.request.now in
    let t = q.tree in
    let e = entries_of width t.sig.now in
    let f = (ready _ _ t.accepted t.counted).facts in
    climb_miss t.n e f q.name _ c.requires.1 c.args.p c.requires.0 c.loop-left.left c.loop-left-test.false c.loop-left.invariant.2
