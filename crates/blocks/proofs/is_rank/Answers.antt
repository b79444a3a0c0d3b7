use Rattle.std.proofs.Common.{refl}
use Rattle.blocks.specs.Checked.{is_rank}
use Rattle.blocks.proofs.is_rank.Goals as goal

pub returns : goal.returns
unfolding is_rank
returns c = refl
