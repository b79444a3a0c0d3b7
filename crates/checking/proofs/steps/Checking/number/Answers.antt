-- The place of the number lies within the list, because entry i ends where its numbers do.
use Rattle.trees.specs.Signature.{cell}
use Rattle.checking.proofs.Cases.{entry_ends}
use native.Mathlib.Omega.{arith}
use borrow.Author.Rules.{rules}
use Rattle.checking.proofs.steps.Checking.number.Goals as goal

pub overflow_mul-result : goal.overflow_mul-result
overflow_mul-result c = omega (arith, entry_ends 4 c.args.i c.requires.0)

pub overflow_add-result : goal.overflow_add-result
overflow_add-result c = omega (arith, entry_ends 4 c.args.i c.requires.0)

pub offset_bounds-self-i : goal.offset_bounds-self-i
offset_bounds-self-i c = omega (arith, entry_ends 4 c.args.i c.requires.0)

pub bounds-self-i : goal.bounds-self-i
bounds-self-i c = omega (arith, entry_ends 4 c.args.i c.requires.0)

pub returns : goal.returns
unfolding cell
returns c = search rules
