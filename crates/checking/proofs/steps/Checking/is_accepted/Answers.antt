-- The test is the written one.
use Rattle.checking.specs.Rule.{accepted}
use mathlib.Core.Path.{refl}
use Rattle.checking.proofs.steps.Checking.is_accepted.Goals as goal

pub returns : goal.returns
unfolding accepted
returns c = refl
