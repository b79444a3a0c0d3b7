use Rattle.std.proofs.Common.{refl, ap, ◌∙◌, sym, ℕ, true, false, ◌≡◌, ◌+◌, ◌<◌, arith, length, slice_set}
use Rattle.xpath.specs.Select.{up_to}
use Rattle.xpath.specs.SelectLaws.{front}
use Rattle.marks.specs.Marks.{marked}
use Rattle.marks.proofs.Marking.{count_yes, count_no, count_room, write_yes, write_no}
use Rattle.marks.proofs.write_marks.Goals as goal
use Rattle.marks.proofs.write_marks.Goals.{then-marks-j, else-marks-j}

pub loop-j-init : goal.loop-j-init
unfolding up_to
loop-j-init c = (0, refl, refl, refl)

pub bounds-room-at : goal.bounds-room-at
bounds-room-at c =
    let P = marked c.args.marks.now in
    let (i, at, count, written) = c.loop-j.invariant in
    let h : P (i + 1) ≡ true = sym (ap P at) ∙ c.if-marks-j.true in
    omega (arith, count_room P i c.args.n h (omega (arith, at)), count, c.requires.1, c.loop-j.auto.room)

pub loop-j-preserved : goal.loop-j-preserved
loop-j-preserved c =
    let P = marked c.args.marks.now in
    let (i, at, count, written) = c.loop-j.invariant in
    elim c.if-marks-j.branch [
      | then-marks-j w ↦
          let h : P (i + 1) ≡ true = sym (ap P at) ∙ w.if-marks-j.true in
          let fits : length (up_to i P) < length c.args.room.now = omega (arith, count_room P i c.args.n h (omega (arith, at)), c.requires.1) in (
            c.loop-j.j,
            refl,
            w.at-is ∙ count_yes P i _ h count ∙ ap (λ (x : ℕ). length (up_to x P)) (sym at),
            w.room-is ∙ ap (slice_set c.loop-j.room c.loop-j.at) at ∙ write_yes P i _ _ _ h count fits written
                ∙ ap (λ (x : ℕ). front (up_to x P) c.args.room.now) (sym at),
          )
      | else-marks-j w ↦
          let h : P (i + 1) ≡ false = sym (ap P at) ∙ w.if-marks-j.false in (
            c.loop-j.j,
            refl,
            w.at-is ∙ count_no P i _ h count ∙ ap (λ (x : ℕ). length (up_to x P)) (sym at),
            w.room-is ∙ write_no P i _ _ h written ∙ ap (λ (x : ℕ). front (up_to x P) c.args.room.now) (sym at),
          )
    ]
