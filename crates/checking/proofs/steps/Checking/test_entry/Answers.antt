-- Each return is one case of rule 1.
use Rattle.checking.proofs.Plain.{fault_past, fault_name, fault_parent, fault_none}
use mathlib.Core.Path.{sym}
use native.Mathlib.Omega.{arith}
use Rattle.checking.proofs.steps.Checking.test_entry.Goals as goal

pub returns-then-self-i : goal.returns-then-self-i
returns-then-self-i c = sym (fault_past _ _ _ _ (omega arith))

pub returns-then-self-number : goal.returns-then-self-number
returns-then-self-number c = sym (fault_name _ _ _ _ (omega arith) _ c.number.ensures c.if-self-number.true)

pub returns-then-i-fa : goal.returns-then-i-fa
returns-then-i-fa c =
    sym (fault_parent _ _ _ _ (omega arith) _ c.number.ensures c.if-self-number.false _ c.number-fa.ensures c.if-i-fa.true)

pub returns-else-i-fa : goal.returns-else-i-fa
returns-else-i-fa c =
    sym (fault_none _ _ _ _ (omega arith) _ c.number.ensures c.if-self-number.false _ c.number-fa.ensures c.if-i-fa.false)
