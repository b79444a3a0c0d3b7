-- Each return is one case of rules 3 and 4, and the tests on the way there are that case's premises.
use Rattle.trees.specs.Signature.{cell, width}
use Rattle.checking.proofs.Cases.{close_none, close_full, close_post, close_ff, close_fa, close_moved}
use Rattle.checking.proofs.Plain.{number_is, number_moved}
use mathlib.Core.Path.{◌≡◌, sym, ◌∙◌}
use native.Mathlib.Omega.{arith}
use Rattle.checking.proofs.steps.Checking.test_close.Goals as goal

pub returns-then-top-eq0 : goal.returns-then-top-eq0
returns-then-top-eq0 c = sym (number_is _ _ _ (close_none _ _ c.if-top-eq0.true))

pub returns-then-closed-i : goal.returns-then-closed-i
returns-then-closed-i c = sym (number_is _ _ _ (close_full _ _ c.if-top-eq0.false c.if-closed-i.true))

pub number-post-requires : goal.number-post-requires
number-post-requires c = (omega arith, omega arith, c.requires.0)

pub returns-then-post-closed : goal.returns-then-post-closed
returns-then-post-closed c =
    sym (number_is _ _ _ (close_post _ _ c.if-top-eq0.false c.if-closed-i.false (λ w. c.if-post-closed.true (c.number-post.ensures ∙ w))))

pub number-ff-requires : goal.number-ff-requires
number-ff-requires c = (omega arith, omega arith, c.requires.0)

pub returns-then-ff-i : goal.returns-then-ff-i
returns-then-ff-i c =
    let post = sym c.number-post.ensures ∙ c.if-post-closed.false in
    sym (number_is _ _ _ (close_ff _ _ c.if-top-eq0.false c.if-closed-i.false post (λ w. c.if-ff-i.true (c.number-ff.ensures ∙ w))))

pub number-up-requires : goal.number-up-requires
number-up-requires c = (omega arith, omega arith, c.requires.0)

pub returns-then-up-top : goal.returns-then-up-top
returns-then-up-top c =
    let post = sym c.number-post.ensures ∙ c.if-post-closed.false in
    let ff : cell width c.args.self.sig.now c.args.top 2 ≡ c.args.i = omega (arith, c.number-ff.ensures) in
    sym (number_moved _ _ (close_moved _ _ c.if-top-eq0.false c.if-closed-i.false post ff (omega arith)))

pub returns-else-up-top : goal.returns-else-up-top
returns-else-up-top c =
    let post = sym c.number-post.ensures ∙ c.if-post-closed.false in
    let ff : cell width c.args.self.sig.now c.args.top 2 ≡ c.args.i = omega (arith, c.number-ff.ensures) in
    sym (number_is _ _ _ (close_fa _ _ c.if-top-eq0.false c.if-closed-i.false post ff (omega arith)))
