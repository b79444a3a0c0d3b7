-- The room holds the marked ranks before j at its front, and is as it was beyond them.
use Rattle.std.proofs.Common.{◌≡◌, ℕ, ◌+◌, length}
use Rattle.xpath.specs.Select.{up_to}
use Rattle.xpath.specs.SelectLaws.{front}
use Rattle.marks.specs.Marks.{marked}
use Rattle.marks.proofs.write_marks.Given as goal

abbrev pub invariant-loop-j : goal.invariant-loop-j
invariant-loop-j l =
    (i : ℕ) × (l.j ≡ i + 1) × (l.at ≡ length (up_to i (marked l.marks))) × (l.room ≡ front (up_to i (marked l.marks)) l.initial.room)
