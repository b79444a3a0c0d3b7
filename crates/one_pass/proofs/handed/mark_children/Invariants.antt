-- Of the ranks before j those are marked whose parent has a mark.
use Rattle.std.proofs.Common.{◌≡◌, length}
use Rattle.one_pass.proofs.Passes.{Upward}
use Rattle.one_pass.proofs.handed.mark_children.Given as goal

abbrev pub invariant-loop-j : goal.invariant-loop-j
invariant-loop-j l = record {
  long : length l.found ≡ 4097;
  done : Upward 1 l.tree.sig.now l.tree.n l.from l.initial.found l.j l.found;
}
