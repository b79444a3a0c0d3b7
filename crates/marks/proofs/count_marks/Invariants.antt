-- The count is that of the marked ranks before j.
use Rattle.std.proofs.Common.{◌≡◌, ℕ, ◌+◌, length}
use Rattle.xpath.specs.Select.{up_to}
use Rattle.marks.specs.Marks.{marked}
use Rattle.marks.proofs.count_marks.Given as goal

abbrev pub invariant-loop-j : goal.invariant-loop-j
invariant-loop-j l = (i : ℕ) × (l.j ≡ i + 1) × (l.count ≡ length (up_to i (marked l.marks)))
