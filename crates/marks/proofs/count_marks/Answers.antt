use Rattle.std.proofs.Common.{refl, ap, ◌∙◌, sym, ℕ, ◌+◌, arith, length}
use mir.Val.{bool_byte}
use Rattle.xpath.specs.Select.{up_to}
use Rattle.xpath.specs.SelectLaws.{up_length}
use Rattle.marks.specs.Marks.{marked}
use Rattle.marks.proofs.Marking.{count_next}
use Rattle.marks.proofs.count_marks.Goals as goal

pub loop-j-init : goal.loop-j-init
unfolding up_to
loop-j-init c = (0, refl, refl)

pub overflow_add-count : goal.overflow_add-count
overflow_add-count c =
    let m = c.args.marks.now in
    let (i, at, count) = c.loop-j.invariant in
    omega (
      arith,
      up_length (marked m) (i + 1),
      count_next (marked m) i _ _ (c.from-count.ensures ∙ ap (λ (x : ℕ). bool_byte (marked m x)) at) count,
    )

pub loop-j-preserved : goal.loop-j-preserved
loop-j-preserved c =
    let m = c.args.marks.now in
    let (i, at, count) = c.loop-j.invariant in (
      c.loop-j.j,
      refl,
      count_next (marked m) i _ _ (c.from-count.ensures ∙ ap (λ (x : ℕ). bool_byte (marked m x)) at) count
          ∙ ap (λ (x : ℕ). length (up_to x (marked m))) (sym at),
    )
