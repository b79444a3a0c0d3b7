use Rattle.std.proofs.Common.{sym, ◌∙◌, arith}
use Rattle.xpath.specs.Rising.{rising_is, rising_end, rising_low, rising_high, rising_step}
use Rattle.marks.proofs.is_ascending.Goals as goal
use Rattle.marks.proofs.is_ascending.Goals.{then-c-last-via-then-c-last, then-c-last-via-else-c-last+then-n-c}

pub loop-c-init : goal.loop-c-init
loop-c-init c = rising_is _ _

pub returns-then-c-last : goal.returns-then-c-last
returns-then-c-last c =
    elim c.then-c-last.branch [
      | then-c-last-via-then-c-last w ↦ sym (c.loop-c.invariant ∙ rising_low _ _ _ _ c.loop-c-test.true (omega arith))
      | then-c-last-via-else-c-last+then-n-c w ↦ sym (c.loop-c.invariant ∙ rising_high _ _ _ _ c.loop-c-test.true (omega arith))
    ]

pub loop-c-preserved : goal.loop-c-preserved
loop-c-preserved c = c.loop-c.invariant ∙ rising_step _ _ _ _ c.loop-c-test.true (omega arith) (omega arith)

pub returns : goal.returns
returns c = sym (c.loop-c.invariant ∙ rising_end _ _ _ _ c.loop-c-test.false)
