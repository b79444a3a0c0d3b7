-- The handed marks are at the parents of the marked ranks from j on, so that one at the parent of the rank before j tells a later sibling.
use Rattle.std.proofs.Common.{◌≡◌, ◌+◌, length}
use Rattle.trees.specs.Signature.{entries_of, width}
use Rattle.xpath.specs.Spread.{Seen}
use Rattle.xpath.proofs.SpreadKids.{Kids}
use Rattle.marks.specs.Marks.{marked}
use Rattle.one_pass.proofs.Passes.{Downward}
use Rattle.one_pass.proofs.handed.mark_earlier.Given as goal

abbrev pub invariant-loop-j : goal.invariant-loop-j
invariant-loop-j l = record {
  long : length l.found ≡ 4097;
  seen_long : length l.seen ≡ 4097;
  handed : Kids (Seen (marked l.from) l.j (l.tree.n + 1)) (entries_of width l.tree.sig.now).fa l.tree.n (marked l.seen);
  done : Downward 10 l.tree.sig.now l.tree.n l.from l.initial.found l.j l.found;
}
