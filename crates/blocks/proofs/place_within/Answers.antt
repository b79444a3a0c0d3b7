-- A rank over n is refused; ff says where the block of any other ends.
use Rattle.std.proofs.Common.{sym, ap, ◌∙◌, ◌≡◌, ℕ, ◌*◌, ◌-◌, arith}
use Rattle.trees.specs.Signature.{entries_of, width}
use Rattle.terms.specs.declared.Refusal.{Refusal}
use Rattle.blocks.specs.Checked.{is_rank}
use Rattle.blocks.specs.Block.{place_worked, place_refused}
use Rattle.blocks.proofs.Calls.{place_yes, place_no, rank_inverse, ready}
use Rattle.blocks.proofs.place_within.Goals as goal

pub returns-then-not-is_rank : goal.returns-then-not-is_rank
returns-then-not-is_rank c =
    ap (λ (r : Refusal). place_refused r.number r.entry.0) c.into.ensures
    ∙ sym (place_no _ _ (ap (λ (n : ℕ). is_rank n c.args.i) (sym c.args.tree.now.counted) ∙ sym c.is_rank.ensures ∙ c.if-not-is_rank.true))

pub overflow_sub-result : goal.overflow_sub-result
overflow_sub-result c =
    let k = rank_inverse _ _ (sym c.is_rank.ensures ∙ c.if-not-is_rank.false) in
    omega (arith, k.low, c.from-first.ensures)

pub overflow_sub-result-2 : goal.overflow_sub-result-2
overflow_sub-result-2 c =
    let t = c.args.tree.now in
    let k = rank_inverse _ _ (sym c.is_rank.ensures ∙ c.if-not-is_rank.false) in
    omega (arith, ((ready t.sig.now t.n t.accepted t.counted).facts.each c.args.i k.low k.high).ff_low)

pub returns : goal.returns
returns c =
    let past : c.from-past.result ≡ (entries_of width c.args.tree.now.sig.now).ff c.args.i = omega arith in
    (λ i. place_worked (4 * (c.from-first.ensures i - 1)) (4 * (past i - c.from-first.ensures i)))
    ∙ sym (place_yes _ _ (ap (λ (n : ℕ). is_rank n c.args.i) (sym c.args.tree.now.counted) ∙ sym c.is_rank.ensures ∙ c.if-not-is_rank.false))
