-- A signature that is accepted has few entries.
use Rattle.std.proofs.Common.{arith, refl}
use Rattle.blocks.proofs.Calls.{ready_of}
use Rattle.blocks.proofs.accepted.Accepted.check.Goals as goal

pub overflow_cast-n : goal.overflow_cast-n
overflow_cast-n c = omega (arith, (ready_of c.args.sig.now _ c.in_ok-check_whole.ensures refl).small)

pub invariant_of-result : goal.invariant_of-result
invariant_of-result c = record {
  accepted = c.in_ok-check_whole.ensures;
  counted = refl;
  small = (ready_of c.args.sig.now _ c.in_ok-check_whole.ensures refl).small;
}
