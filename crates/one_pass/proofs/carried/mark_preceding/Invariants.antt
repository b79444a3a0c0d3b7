-- The number is the greatest marked rank from j on, so that it is at or past the ff of the rank before j exactly if that rank comes wholly before one.
use Rattle.std.proofs.Common.{◌≡◌, ◌+◌, length}
use Rattle.xpath.specs.Spread.{Seen, Greatest}
use Rattle.marks.specs.Marks.{marked}
use Rattle.one_pass.proofs.Passes.{Downward}
use Rattle.one_pass.proofs.carried.mark_preceding.Given as goal

abbrev pub invariant-loop-j : goal.invariant-loop-j
invariant-loop-j l = record {
  long : length l.found ≡ 4097;
  carried : Greatest (Seen (marked l.from) l.j (l.tree.n + 1)) (λ c. c) l.last;
  done : Downward 8 l.tree.sig.now l.tree.n l.from l.initial.found l.j l.found;
}
