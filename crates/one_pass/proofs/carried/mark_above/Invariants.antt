-- The number is the least marked rank from j on, so that it lies before the ff of the rank before j exactly if one is below that rank.
use Rattle.std.proofs.Common.{◌≡◌, ◌+◌, length}
use Rattle.xpath.specs.Spread.{Seen, Least}
use Rattle.marks.specs.Marks.{marked}
use Rattle.one_pass.proofs.Passes.{Downward}
use Rattle.one_pass.proofs.carried.mark_above.Given as goal

abbrev pub invariant-loop-j : goal.invariant-loop-j
invariant-loop-j l = record {
  long : length l.found ≡ 4097;
  carried : Least (Seen (marked l.from) l.j (l.tree.n + 1)) (λ c. c) l.next;
  done : Downward 5 l.tree.sig.now l.tree.n l.from l.initial.found l.j l.found;
}
