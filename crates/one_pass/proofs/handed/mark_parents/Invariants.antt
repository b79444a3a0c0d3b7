-- The marks are at just the parents of the marked ranks before j.
use Rattle.std.proofs.Common.{◌≡◌, length}
use Rattle.trees.specs.Signature.{entries_of, width}
use Rattle.xpath.specs.Spread.{Seen}
use Rattle.xpath.proofs.SpreadKids.{Kids}
use Rattle.marks.specs.Marks.{marked}
use Rattle.one_pass.proofs.handed.mark_parents.Given as goal

abbrev pub invariant-loop-j : goal.invariant-loop-j
invariant-loop-j l = record {
  long : length l.found ≡ 4097;
  handed : Kids (Seen (marked l.from) 1 l.j) (entries_of width l.tree.sig.now).fa l.tree.n (marked l.found);
}
