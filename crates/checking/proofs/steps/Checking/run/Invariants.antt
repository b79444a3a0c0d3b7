-- The invariant: the state is within its ranges, and what was asked at the start is what is still asked now, with the steps taken and the state reached.
use Rattle.trees.specs.Signature.{entries_of, width}
use Rattle.checking.specs.Rule.{Ranges}
use Rattle.checking.specs.Plain.{rest_of}
use mathlib.Core.Path.{◌≡◌}
use Prim.Native.Nat.{◌-◌}
use Rattle.checking.proofs.steps.Checking.run.Given as goal

abbrev pub invariant-loop-steps : goal.invariant-loop-steps
invariant-loop-steps l = record {
  within : Ranges l.self.n l.state;
  same : rest_of l.self.any_name l.self.n (entries_of width l.self.sig.now) l.budget 0 l.fn.start ≡ rest_of l.self.any_name l.self.n (entries_of width l.self.sig.now) (l.budget - l.steps) l.steps l.state;
}
