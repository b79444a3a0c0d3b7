-- The tests are the written ones.
use Rattle.checking.specs.Rule.{in_range}
use mathlib.Core.Path.{refl}
use Rattle.checking.proofs.CheckState.is_in_range.Goals as goal

pub returns : goal.returns
unfolding in_range
returns c = refl
