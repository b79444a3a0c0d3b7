-- An entry's place is four numbers for each entry before it; rank 0 reads like rank 1.
use mathlib.Core.Path.{◌∙◌}
use Rattle.trees.specs.Signature.{cell}
use Rattle.entries.proofs.Numbers.{number_first}
use native.Mathlib.Omega.{arith}
use borrow.Author.Rules.{rules}
use Rattle.entries.proofs.entry_number.Goals as goal

pub returns-then-rank-eq0 : goal.returns-then-rank-eq0
returns-then-rank-eq0 c = c.number_or_zero.ensures ∙ number_first _ _ _ (omega arith)

pub returns-else-rank-eq0 : goal.returns-else-rank-eq0
unfolding cell
returns-else-rank-eq0 c = search rules
