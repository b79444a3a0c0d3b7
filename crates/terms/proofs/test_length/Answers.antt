-- Each return is one case of the length's rule, in its order.
use Rattle.terms.proofs.Lengths.{length_cut, length_whole, length_over, length_fine}
use mathlib.Core.Path.{sym}
use native.Mathlib.Omega.{arith}
use Rattle.terms.proofs.test_length.Goals as goal

pub returns-then-len : goal.returns-then-len
returns-then-len c = sym (length_cut _ _ _ c.if-len.true)

pub returns-then-most-len : goal.returns-then-most-len
returns-then-most-len c = let w = length_whole _ _ c.if-len.false in sym (length_over _ _ _ w.0 w.1 (omega arith))

pub returns-else-most-len : goal.returns-else-most-len
returns-else-most-len c = let w = length_whole _ _ c.if-len.false in sym (length_fine _ _ _ w.0 w.1 (omega arith))
