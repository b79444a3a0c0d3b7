-- Counting first tells whether the ranks fit; nothing is written before that is known.
use Rattle.std.proofs.Common.{ap, ◌∙◌, ℕ, length, arith}
use Rattle.xpath.specs.Select.{up_to}
use Rattle.xpath.specs.SelectLaws.{front}
use Rattle.marks.specs.Marks.{marked, lesser}
use Rattle.marks.proofs.Marking.{min_is}
use Rattle.marks.proofs.Calls.{short_leaves, fits_leaves}
use Rattle.marks.proofs.write_ranks.Goals as goal

pub returns-then-room-count : goal.returns-then-room-count
returns-then-room-count c =
    let a = c.args in
    let last = c.min-last.ensures ∙ min_is a.n 4096 in
    short_leaves a.room.now (up_to (lesser a.n 4096) (marked a.marks.now)) c.count_marks-count.result
    (c.count_marks-count.ensures ∙ ap (λ (x : ℕ). length (up_to x (marked a.marks.now))) last)
    (omega arith) _ c.into.ensures

pub returns : goal.returns
returns c =
    let a = c.args in
    let last = c.min-last.ensures ∙ min_is a.n 4096 in
    fits_leaves a.room.now (up_to (lesser a.n 4096) (marked a.marks.now)) c.count_marks-count.result
    (c.count_marks-count.ensures ∙ ap (λ (x : ℕ). length (up_to x (marked a.marks.now))) last)
    (omega arith) _
    (c.write_marks.ensures ∙ ap (λ (x : ℕ). front (up_to x (marked a.marks.now)) a.room.now) last)
