-- Of the ranks before j those keep their mark whose names pass.
use Rattle.std.proofs.Common.{◌≡◌, ◌&&◌, length, ltb}
use Rattle.trees.specs.Names.{passes}
use Rattle.trees.specs.Signature.{entries_of, width}
use Rattle.marks.specs.Marks.{marked}
use Rattle.marks.proofs.Marking.{Done}
use Rattle.one_pass.proofs.keep_named.Given as goal

abbrev pub invariant-loop-j : goal.invariant-loop-j
invariant-loop-j l = record {
  long : length l.found ≡ 4097;
  done : Done l.request.tree.n (λ i. ltb i l.j) (λ i. marked l.initial.found i && passes l.request.name ((entries_of width l.request.tree.sig.now).name i)) l.initial.found l.found;
}
