-- A rank over n is refused; the level of any other is climbed.
use Rattle.std.proofs.Common.{sym, ap, ◌∙◌, ℕ, true, false}
use Rattle.terms.specs.declared.Refusal.{Refusal}
use Rattle.trees.specs.Signature.{entries_of, width}
use Rattle.xpath.specs.Axes.{level_of}
use Rattle.blocks.specs.Checked.{is_rank}
use Rattle.blocks.specs.Level.{level_worked, level_refused}
use Rattle.blocks.proofs.Calls.{level_yes, level_no, rank_inverse}
use Rattle.blocks.proofs.level_within.Goals as goal

pub returns-then-not-is_rank : goal.returns-then-not-is_rank
returns-then-not-is_rank c =
    let t = c.args.tree.now in
    ap (λ (r : Refusal). level_refused r.number r.entry.0) c.into.ensures
    ∙ sym (level_no _ _ (ap (λ (n : ℕ). is_rank n c.args.i) (sym t.counted) ∙ sym c.is_rank.ensures ∙ c.if-not-is_rank.true))

pub climb-requires : goal.climb-requires
climb-requires c =
    let k = rank_inverse _ _ (sym c.is_rank.ensures ∙ c.if-not-is_rank.false) in
    (k.low, k.high)

pub returns : goal.returns
returns c =
    let t = c.args.tree.now in
    ap level_worked (c.climb.ensures ∙ ap (λ (n : ℕ). level_of n (entries_of width t.sig.now).fa c.args.i) t.counted)
    ∙ sym (level_yes _ _ (ap (λ (n : ℕ). is_rank n c.args.i) (sym t.counted) ∙ sym c.is_rank.ensures ∙ c.if-not-is_rank.false))
