-- Past the last entry nothing opens; else the test is the written one, of the fa that was read.
use Rattle.checking.proofs.Plain.{opened_past, opened_there}
use borrow.Author.Tests.{lt-leb}
use mathlib.Core.Path.{◌∙◌}
use native.Mathlib.Omega.{arith}
use Rattle.checking.proofs.steps.Checking.opens.Goals as goal

pub returns-then-i-self : goal.returns-then-i-self
returns-then-i-self c = opened_there _ _ _ _ (omega arith) _ c.number.ensures

pub returns-else-i-self : goal.returns-else-i-self
returns-else-i-self c = lt-leb _ _ c.if-i-self.false ∙ opened_past _ _ _ _ c.if-i-self.false
