use Rattle.std.proofs.Common.{arith, ℕ, Bool}
use Rattle.trees.specs.Signature.{entries_of, width}
use Rattle.xpath.specs.Axes.{kept, chosen}
use Rattle.xpath.specs.Rising.{within_at}
use Rattle.marks.specs.Axis.{axis_number}
use Rattle.one_pass.proofs.Contexts.{each_none, each_more, each_done}
use Rattle.searching.proofs.Found.{only_marks}
use Rattle.axes.proofs.mark_each.Goals as goal

pub loop-c-init : goal.loop-c-init
loop-c-init c =
    let q = c.args.request.now in
    let e = entries_of width q.tree.sig.now in
    let K : ℕ → ℕ → Bool = λ x. kept (axis_number q.axis) c.args.p (chosen (axis_number q.axis) q.tree.n e.fa e.name q.name x) in
    each_none q.tree.n K q.contexts.now _ c.requires.1

pub find_kept-at-requires : goal.find_kept-at-requires
find_kept-at-requires c =
    let q = c.args.request.now in
    let r = within_at q.tree.n q.contexts.now q.ranks c.loop-c.c-index (omega arith) in
    (c.requires.0, r.low, r.high)

pub bounds-marks-at : goal.bounds-marks-at
bounds-marks-at c = omega (arith, c.find_kept-at.ensures.high, c.args.request.now.tree.small, c.loop-c.invariant.long)

pub loop-c-preserved : goal.loop-c-preserved
loop-c-preserved c =
    let q = c.args.request.now in
    let e = entries_of width q.tree.sig.now in
    let l = c.loop-c in
    let K : ℕ → ℕ → Bool = λ x. kept (axis_number q.axis) c.args.p (chosen (axis_number q.axis) q.tree.n e.fa e.name q.name x) in
    each_more q.tree.n K q.contexts.now l.c-index l.marks _ (omega arith) l.invariant
    (only_marks q.tree.n (K _) _ l.marks q.tree.small l.invariant.long c.find_kept-at.ensures)

pub returns : goal.returns
returns c =
    let q = c.args.request.now in
    let e = entries_of width q.tree.sig.now in
    let K : ℕ → ℕ → Bool = λ x. kept (axis_number q.axis) c.args.p (chosen (axis_number q.axis) q.tree.n e.fa e.name q.name x) in
    each_done q.tree.n K q.contexts.now c.loop-c.c-index _ (omega arith) c.loop-c.invariant
