-- Where the mark is set, the number is the library's max.
use Rattle.std.proofs.Common.{sym, ap, ◌∙◌, Bool}
use Rattle.xpath.specs.Spread.{raised_to}
use Rattle.one_pass.proofs.Passes.{raise_on}
use Rattle.one_pass.proofs.carried.raised.Goals as goal

pub returns-then-mark : goal.returns-then-mark
returns-then-mark c =
    let a = c.args in
    c.max.ensures ∙ raise_on a.x a.y ∙ ap (λ (b : Bool). raised_to b a.x a.y) (sym c.if-mark.true)

pub returns-else-mark : goal.returns-else-mark
unfolding raised_to
returns-else-mark c =
    let a = c.args in
    ap (λ (b : Bool). raised_to b a.x a.y) (sym c.if-mark.false)
