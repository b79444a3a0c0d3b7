-- Where the mark is set, the number is the library's min.
use Rattle.std.proofs.Common.{sym, ap, ◌∙◌, Bool}
use Rattle.xpath.specs.Spread.{lowered_to}
use Rattle.one_pass.proofs.Passes.{lower_on}
use Rattle.one_pass.proofs.carried.lowered.Goals as goal

pub returns-then-mark : goal.returns-then-mark
returns-then-mark c =
    let a = c.args in
    c.min.ensures ∙ lower_on a.x a.y ∙ ap (λ (b : Bool). lowered_to b a.x a.y) (sym c.if-mark.true)

pub returns-else-mark : goal.returns-else-mark
unfolding lowered_to
returns-else-mark c =
    let a = c.args in
    ap (λ (b : Bool). lowered_to b a.x a.y) (sym c.if-mark.false)
