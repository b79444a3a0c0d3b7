-- Each return is one case of the entry that a refused close names.
use Rattle.checking.proofs.Plain.{names_next, names_none, names_top}
use native.Mathlib.Omega.{arith}
use Rattle.checking.proofs.steps.close_entry.Goals as goal

pub returns-then-top-eq0 : goal.returns-then-top-eq0
returns-then-top-eq0 c = names_next _ _ _ c.if-top-eq0.true

pub returns-then-closed-i : goal.returns-then-closed-i
returns-then-closed-i c = names_none _ _ _ c.if-top-eq0.false (omega arith)

pub returns-else-closed-i : goal.returns-else-closed-i
returns-else-closed-i c = names_top _ _ _ c.if-top-eq0.false (omega arith)
