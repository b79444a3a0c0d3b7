-- Of the ranks before j those that have a mark in the first marks have one in the others.
use Rattle.std.proofs.Common.{◌≡◌, ◌||◌, length, ltb}
use Rattle.marks.specs.Marks.{marked}
use Rattle.marks.proofs.Marking.{Done}
use Rattle.one_pass.proofs.mark_same.Given as goal

abbrev pub invariant-loop-j : goal.invariant-loop-j
invariant-loop-j l = record {
  long : length l.found ≡ 4097;
  done : Done l.tree.n (λ i. ltb i l.j) (λ i. marked l.initial.found i || marked l.from i) l.initial.found l.found;
}
