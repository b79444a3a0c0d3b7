-- The number is the greatest ff of the marked ranks before j, so that it is above j exactly if one of them has j below it.
use Rattle.std.proofs.Common.{◌≡◌, length}
use Rattle.trees.specs.Signature.{entries_of, width}
use Rattle.xpath.specs.Spread.{Seen, Greatest}
use Rattle.marks.specs.Marks.{marked}
use Rattle.one_pass.proofs.Passes.{Upward}
use Rattle.one_pass.proofs.carried.mark_below.Given as goal

abbrev pub invariant-loop-j : goal.invariant-loop-j
invariant-loop-j l = record {
  long : length l.found ≡ 4097;
  carried : Greatest (Seen (marked l.from) 1 l.j) (entries_of width l.tree.sig.now).ff l.reach;
  done : Upward 2 l.tree.sig.now l.tree.n l.from l.initial.found l.j l.found;
}
