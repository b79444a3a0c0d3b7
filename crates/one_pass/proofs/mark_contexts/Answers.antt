use Rattle.std.proofs.Common.{arith, ◌∙◌, eqb}
use Rattle.std.proofs.lemmas.List.{length-set}
use Rattle.xpath.specs.Rising.{within_at}
use Rattle.one_pass.proofs.Contexts.{each_none, each_more, marked_set}
use Rattle.one_pass.proofs.mark_contexts.Goals as goal

pub loop-c-init : goal.loop-c-init
loop-c-init c = each_none c.args.request.now.tree.n (λ x j. eqb x j) c.args.request.now.contexts.now _ c.requires

pub bounds-from-c : goal.bounds-from-c
bounds-from-c c =
    let q = c.args.request.now in
    omega (arith, (within_at q.tree.n q.contexts.now q.ranks c.loop-c.c-index (omega arith)).high, q.tree.small, c.loop-c.invariant.long)

pub loop-c-preserved : goal.loop-c-preserved
loop-c-preserved c =
    let l = c.loop-c in
    let q = c.args.request.now in
    let r = within_at q.tree.n q.contexts.now q.ranks l.c-index (omega arith) in
    let s = l.invariant.long in
    each_more q.tree.n (λ x j. eqb x j) q.contexts.now l.c-index l.from _ (omega arith) l.invariant
    (record { long = length-set l.from _ _ ∙ s; are = λ j x y. marked_set l.from _ j (omega (arith, s, r.high, q.tree.small)) })
