-- The whole check comes first, then the rank.
use Rattle.std.proofs.Common.{sym, ap, ◌∙◌, refl, ℕ, List}
use Rattle.std.proofs.lemmas.Result.{err_from_is_err_and}
use Rattle.blocks.specs.Level.{level_refused, level_within, level_answer}
use Rattle.blocks.proofs.Calls.{after_accepted, after_refused}
use Rattle.blocks.proofs.level.Goals as goal

pub returns-in_err-tree : goal.returns-in_err-tree
returns-in_err-tree c =
    let p = err_from_is_err_and c.from_residual.result c.from_residual.ensures.1 in
    rw (p.1, p.2) (sym (after_refused _ _ _ _ _ c.in_err-tree.ensures refl))

pub returns : goal.returns
returns c =
    let t = c.in_ok-tree.tree in
    c.level_within.ensures ∙ sym (after_accepted t.sig.now level_refused (level_within t.sig.now c.args.rank.0) _ t.accepted refl)
    ∙ ap (λ (s : List ℕ). level_answer s c.args.rank.0) c.in_ok-tree.ensures
