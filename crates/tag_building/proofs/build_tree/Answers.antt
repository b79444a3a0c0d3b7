-- What the tag at the cursor is follows from the invariant, the end that is not come to, the test that found no fault, and the mark.
use mathlib.Core.Path.{sym, ◌∙◌}
use native.Mathlib.Omega.{arith}
use Rattle.tag_building.proofs.Passing.{passing_start, starts_open, passing_end, passing_fault, opened_here, closed_here, passing_open, passing_close}
use Rattle.tag_building.proofs.build_tree.Goals as goal

pub loop-limits-init : goal.loop-limits-init
loop-limits-init c = (passing_start _ _ _ _ _ _, starts_open _ _ _)

pub returns-then-is_err : goal.returns-then-is_err
returns-then-is_err c = let l = c.loop-limits in passing_fault _ _ _ _ _ _ _ _ _ l.invariant.0 l.invariant.1 _ c.test_tag-verdict.ensures _ c.is_err.ensures.value c.if-is_err.true

pub name_at-requires : goal.name_at-requires
name_at-requires c =
    let l = c.loop-limits in
    omega (arith, (opened_here _ _ _ _ _ _ _ _ _ l.invariant.0 l.invariant.1 _ c.test_tag-verdict.ensures _ c.is_err.ensures.value c.if-is_err.false _ c.is_marked.ensures c.if-is_marked.true).body)

pub open_entry-requires : goal.open_entry-requires
open_entry-requires c =
    let l = c.loop-limits in
    omega (arith, (opened_here _ _ _ _ _ _ _ _ _ l.invariant.0 l.invariant.1 _ c.test_tag-verdict.ensures _ c.is_err.ensures.value c.if-is_err.false _ c.is_marked.ensures c.if-is_marked.true).few, l.invariant.0.made.long)

pub overflow_add-cursor : goal.overflow_add-cursor
overflow_add-cursor c =
    let l = c.loop-limits in
    omega (arith, (opened_here _ _ _ _ _ _ _ _ _ l.invariant.0 l.invariant.1 _ c.test_tag-verdict.ensures _ c.is_err.ensures.value c.if-is_err.false _ c.is_marked.ensures c.if-is_marked.true).body)

pub loop-limits-smaller-then-is_marked : goal.loop-limits-smaller-then-is_marked
loop-limits-smaller-then-is_marked c =
    let l = c.loop-limits in
    omega (arith, (opened_here _ _ _ _ _ _ _ _ _ l.invariant.0 l.invariant.1 _ c.test_tag-verdict.ensures _ c.is_err.ensures.value c.if-is_err.false _ c.is_marked.ensures c.if-is_marked.true).body)

pub loop-limits-preserved-then-is_marked : goal.loop-limits-preserved-then-is_marked
loop-limits-preserved-then-is_marked c =
    let l = c.loop-limits in
    passing_open _ _ _ _ _ _ _ _ _ l.invariant.0 l.invariant.1 _ c.test_tag-verdict.ensures _ c.is_err.ensures.value c.if-is_err.false _ c.is_marked.ensures c.if-is_marked.true
    _ _ c.name_at.ensures c.open_entry.ensures

pub overflow_add-cursor-else-is_marked : goal.overflow_add-cursor-else-is_marked
overflow_add-cursor-else-is_marked c =
    let l = c.loop-limits in
    omega (arith, (closed_here _ _ _ _ _ _ _ _ _ l.invariant.0 l.invariant.1 _ c.test_tag-verdict.ensures _ c.is_err.ensures.value c.if-is_err.false _ c.is_marked.ensures c.if-is_marked.false).mark)

pub overflow_sub-cursor : goal.overflow_sub-cursor
overflow_sub-cursor c =
    let l = c.loop-limits in
    (closed_here _ _ _ _ _ _ _ _ _ l.invariant.0 l.invariant.1 _ c.test_tag-verdict.ensures _ c.is_err.ensures.value c.if-is_err.false _ c.is_marked.ensures c.if-is_marked.false).some_open

pub overflow_add-result : goal.overflow_add-result
overflow_add-result c =
    let l = c.loop-limits in
    omega (arith, (closed_here _ _ _ _ _ _ _ _ _ l.invariant.0 l.invariant.1 _ c.test_tag-verdict.ensures _ c.is_err.ensures.value c.if-is_err.false _ c.is_marked.ensures c.if-is_marked.false).mark)

pub loop-limits-smaller : goal.loop-limits-smaller
loop-limits-smaller c =
    let l = c.loop-limits in
    omega (arith, (closed_here _ _ _ _ _ _ _ _ _ l.invariant.0 l.invariant.1 _ c.test_tag-verdict.ensures _ c.is_err.ensures.value c.if-is_err.false _ c.is_marked.ensures c.if-is_marked.false).mark)

pub loop-limits-preserved : goal.loop-limits-preserved
loop-limits-preserved c =
    let l = c.loop-limits in (
      passing_close _ _ _ _ _ _ _ _ _ l.invariant.0 l.invariant.1 _ c.test_tag-verdict.ensures _ c.is_err.ensures.value c.if-is_err.false _ c.is_marked.ensures c.if-is_marked.false
          _ _ c.close_entry-top.ensures.0 c.close_entry-top.ensures.1,
      sym c.is_tree_end.ensures ∙ c.if-is_tree_end.false,
    )

pub returns-then-is_tree_end : goal.returns-then-is_tree_end
returns-then-is_tree_end c =
    let l = c.loop-limits in
    passing_end _ _ _ _ _ _ _ _ _
    (passing_close _ _ _ _ _ _ _ _ _ l.invariant.0 l.invariant.1 _ c.test_tag-verdict.ensures _ c.is_err.ensures.value c.if-is_err.false _ c.is_marked.ensures c.if-is_marked.false
    _ _ c.close_entry-top.ensures.0 c.close_entry-top.ensures.1)
    _ c.is_tree_end.ensures c.if-is_tree_end.true (omega arith)
