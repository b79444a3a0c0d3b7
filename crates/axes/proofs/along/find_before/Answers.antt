use Rattle.std.proofs.Common.{refl, ap, sym, subst, ◌∙◌, ◌+◌, ◌&&◌, ℕ, arith, leb}
use Rattle.trees.specs.Names.{passes}
use Rattle.trees.specs.Signature.{entries_of, width}
use Rattle.xpath.specs.Axes.{chosen}
use Rattle.blocks.proofs.Calls.{ready}
use Rattle.searching.proofs.Found.{count_start, count_below}
use Rattle.axes.specs.Kept.{Kept}
use Rattle.axes.proofs.Ranges.{before_count, before_small, before_here, none_before}
use Rattle.axes.proofs.along.find_before.Goals as goal

pub loop-j-init : goal.loop-j-init
loop-j-init c =
    let q = c.args.request.now in
    let t = q.tree in
    let e = entries_of width t.sig.now in
    let f = (ready _ _ t.accepted t.counted).facts in
    (0, refl, count_start (chosen 8 t.n e.fa e.name q.name c.args.c) 0 (λ i l h. absurd (omega arith)), c.requires.0)

pub overflow_add-met : goal.overflow_add-met
overflow_add-met c =
    let q = c.args.request.now in
    let t = q.tree in
    let e = entries_of width t.sig.now in
    let f = (ready _ _ t.accepted t.counted).facts in
    let (i, at, met, less) = c.loop-j.invariant in
    omega (
      arith,
      before_small t.n e f c.args.c c.requires.2 q.name i _ met (omega (arith, at)) _ _ (c.first_past-past.ensures ∙ ap e.ff at)
          (c.is_named.ensures ∙ ap (λ (x : ℕ). passes q.name (e.name x)) at),
      c.from-met.ensures,
      t.small,
    )

pub returns-then-met-p : goal.returns-then-met-p
returns-then-met-p c =
    let q = c.args.request.now in
    let t = q.tree in
    let e = entries_of width t.sig.now in
    let f = (ready _ _ t.accepted t.counted).facts in
    let (i, at, met, less) = c.loop-j.invariant in
    subst (Kept 8 t.sig.now t.n q.name c.args.p c.args.c) (sym at)
    (
    before_here t.n e f c.args.c c.requires.2 q.name i _ met (omega (arith, at)) _ _ (c.first_past-past.ensures ∙ ap e.ff at)
    (c.is_named.ensures ∙ ap (λ (x : ℕ). passes q.name (e.name x)) at) c.args.p c.requires.0 less (rw c.from-met.ensures at c.if-met-p.true)
    )

pub loop-j-preserved : goal.loop-j-preserved
loop-j-preserved c =
    let q = c.args.request.now in
    let t = q.tree in
    let e = entries_of width t.sig.now in
    let f = (ready _ _ t.accepted t.counted).facts in
    let (i, at, met, less) = c.loop-j.invariant in
    rw c.from-met.ensures (
      i + 1,
      ap (λ (x : ℕ). x + 1) at,
      before_count t.n e f c.args.c c.requires.2 q.name i _ met (omega (arith, at)) _ _ (c.first_past-past.ensures ∙ ap e.ff at)
          (c.is_named.ensures ∙ ap (λ (x : ℕ). passes q.name (e.name x)) at),
      count_below (leb c.first_past-past.result c.args.c && c.is_named.result) _ _ c.args.p refl less (rw c.from-met.ensures at c.if-met-p.false),
    )

pub returns : goal.returns
returns c =
    let q = c.args.request.now in
    let t = q.tree in
    let e = entries_of width t.sig.now in
    let f = (ready _ _ t.accepted t.counted).facts in
    let (i, at, met, less) = c.loop-j.invariant in
    none_before t.n e f c.args.c c.requires.2 q.name i _ met c.args.p c.requires.0 less (omega (arith, at))
