use Rattle.std.proofs.Common.{◌+◌, ◌∙◌, sym, arith}
use Rattle.trees.specs.Signature.{entries_of, width}
use Rattle.xpath.specs.SelectLaws.{up_length}
use Rattle.searching.specs.Only.{named_after}
use Rattle.searching.proofs.Found.{count_next, count_start}
use Rattle.searching.proofs.Named.{after_early, after_late, named_below, named_at, named_none}
use Rattle.searching.proofs.find_named.Goals as goal

pub loop-before-init : goal.loop-before-init
loop-before-init c =
    let a = c.args in
    let name = (entries_of width a.sig.now).name in
    (count_start (named_after a.after a.test name) a.after (λ i l h. after_early a.after a.test name i h), λ l. l)

pub overflow_add-met : goal.overflow_add-met
overflow_add-met c =
    let a = c.args in
    let l = c.loop-before in
    let name = (entries_of width a.sig.now).name in
    let b = c.is_named-named.ensures ∙ sym (after_late a.after a.test name (l.before + 1) (omega arith)) in
    omega (
      arith,
      c.from-met.ensures,
      count_next (named_after a.after a.test name) l.before l.met _ l.invariant.0 b,
      up_length (named_after a.after a.test name) (l.before + 1),
    )

pub returns-then-named-met : goal.returns-then-named-met
returns-then-named-met c =
    let a = c.args in
    let l = c.loop-before in
    let name = (entries_of width a.sig.now).name in
    let b = c.is_named-named.ensures ∙ sym (after_late a.after a.test name (l.before + 1) (omega arith)) in
    named_at (named_after a.after a.test name) a.p a.last l.before l.met _ (omega arith) l.invariant.0 b (rw c.from-met.ensures at c.if-named-met.true)

pub loop-before-preserved : goal.loop-before-preserved
loop-before-preserved c =
    let a = c.args in
    let l = c.loop-before in
    let name = (entries_of width a.sig.now).name in
    let b = c.is_named-named.ensures ∙ sym (after_late a.after a.test name (l.before + 1) (omega arith)) in
    rw c.from-met.ensures (
      count_next (named_after a.after a.test name) l.before l.met _ l.invariant.0 b,
      named_below l.met a.p c.is_named-named.result l.invariant.1 (rw c.from-met.ensures at c.if-named-met.false),
    )

pub returns : goal.returns
returns c =
    let a = c.args in
    let l = c.loop-before in
    named_none (named_after a.after a.test (entries_of width a.sig.now).name) a.p a.last l.before l.met c.loop-before-test.false l.invariant.0 l.invariant.1
