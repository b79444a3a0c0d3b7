use Rattle.std.proofs.Common.{◌+◌, ◌&&◌, arith}
use Rattle.trees.specs.Names.{passes}
use Rattle.trees.specs.Signature.{entries_of, width}
use Rattle.blocks.proofs.Calls.{ready}
use Rattle.searching.proofs.Found.{count_start, count_below}
use Rattle.axes.specs.Row.{in_row}
use Rattle.axes.proofs.Rows.{row_early, row_next, met_small, met_here, met_next, none_left}
use Rattle.axes.proofs.along.find_row.Goals as goal

pub loop-j-init : goal.loop-j-init
loop-j-init c =
    let q = c.args.request.now in
    let t = q.tree in
    let e = entries_of width t.sig.now in
    let f = (ready _ _ t.accepted t.counted).facts in
    let a = c.args in (
      c.requires.1,
      omega arith,
      count_start (λ i. in_row e a.up a.after a.last i && passes q.name (e.name i)) a.after (λ i l h. row_early t.n e f q.name a.up a.after a.last i h),
      c.requires.0,
    )

pub overflow_add-j : goal.overflow_add-j
overflow_add-j c = omega (arith, c.loop-j.invariant.0.high, c.args.request.now.tree.small)

pub overflow_add-met : goal.overflow_add-met
overflow_add-met c =
    let q = c.args.request.now in
    let t = q.tree in
    let e = entries_of width t.sig.now in
    let f = (ready _ _ t.accepted t.counted).facts in
    let a = c.args in
    let (row, low, met, less) = c.loop-j.invariant in
    omega (arith, met_small t.n e f q.name a.up a.after a.last c.loop-j.j row low c.loop-j.met met (omega arith) _ c.is_named.ensures, c.from-met.ensures, t.small)

pub returns-then-met-p : goal.returns-then-met-p
returns-then-met-p c =
    let q = c.args.request.now in
    let t = q.tree in
    let e = entries_of width t.sig.now in
    let f = (ready _ _ t.accepted t.counted).facts in
    let a = c.args in
    let (row, low, met, less) = c.loop-j.invariant in
    met_here t.n e f q.name a.up a.after a.last c.loop-j.j row low c.loop-j.met met (omega arith) _ c.is_named.ensures a.p c.requires.0 less
    (rw c.from-met.ensures at c.if-met-p.true)

pub overflow_sub-j : goal.overflow_sub-j
overflow_sub-j c =
    let q = c.args.request.now in
    let t = q.tree in
    let e = entries_of width t.sig.now in
    let f = (ready _ _ t.accepted t.counted).facts in
    omega (arith, c.first_past-j.ensures, (f.each (c.loop-j.j + 1) (omega arith) (omega (arith, c.loop-j.invariant.0.high))).ff_low)

pub loop-j-smaller : goal.loop-j-smaller
loop-j-smaller c =
    let q = c.args.request.now in
    let t = q.tree in
    let e = entries_of width t.sig.now in
    let f = (ready _ _ t.accepted t.counted).facts in
    omega (arith, c.first_past-j.ensures, (f.each (c.loop-j.j + 1) (omega arith) (omega (arith, c.loop-j.invariant.0.high))).ff_low)

pub loop-j-preserved : goal.loop-j-preserved
loop-j-preserved c =
    let q = c.args.request.now in
    let t = q.tree in
    let e = entries_of width t.sig.now in
    let f = (ready _ _ t.accepted t.counted).facts in
    let a = c.args in
    let j = c.loop-j.j in
    let x = c.first_past-j.ensures in
    let (row, low, met, less) = c.loop-j.invariant in
    rw c.from-met.ensures (
      row_next t.n e f q.name a.up a.after a.last j row (omega arith) _ x,
      omega (arith, x, (f.each (j + 1) (omega arith) (omega (arith, row.high))).ff_low, low),
      met_next t.n e f q.name a.up a.after a.last j row low c.loop-j.met met (omega arith) _ c.is_named.ensures _ x,
      count_below _ _ c.loop-j.met a.p c.is_named.ensures less (rw c.from-met.ensures at c.if-met-p.false),
    )

pub returns : goal.returns
returns c =
    let q = c.args.request.now in
    let t = q.tree in
    let e = entries_of width t.sig.now in
    let f = (ready _ _ t.accepted t.counted).facts in
    let a = c.args in
    let (row, low, met, less) = c.loop-j.invariant in
    none_left t.n e f q.name a.up a.after a.last c.loop-j.j row low c.loop-j.met met a.p c.requires.0 less c.loop-j-test.false
