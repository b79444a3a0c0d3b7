-- Climbing counts the elements on the ancestor axis.
--   level_root    an entry with no parent has level 0
--   level_up      any other is one level below its parent
--   level_high    no level is over n
--   above_other   but for its parent, the ancestors of an entry are those of its parent
use Rattle.std.specs.Prelude.{ℕ, ◌+◌, ◌≤◌, ◌<◌, ◌≡◌, ◌⊎◌}
use Rattle.std.proofs.Math.Path.{ap}
use Rattle.std.proofs.Common.{◌∙◌, sym, inl, inr, ⊎_elim, arith}
use Rattle.std.proofs.Math.ListN.{length}
use Rattle.trees.specs.Signature.{Entries}
use Rattle.trees.specs.Facts.{Inside, Follows, Facts}
use Rattle.trees.specs.Order.{lt_or_ge}
use Rattle.xpath.specs.SelectLaws.{up_none, up_one, up_length}
use Rattle.xpath.specs.Axes.{met, on_axis, level_of}
use Rattle.xpath.specs.Ancestors.{inside_yes, inside_no}

pub level_high : (n : ℕ) (parent : ℕ → ℕ) (i : ℕ) → level_of n parent i ≤ n
unfolding level_of
level_high n parent i = up_length (λ j. on_axis 5 n parent i j) n

module _ (n : ℕ) (e : Entries) (f : Facts n e) where
  pub level_root : (i : ℕ) → 1 ≤ i → i ≤ n → e.fa i ≡ 0 → level_of n e.fa i ≡ 0
  unfolding level_of on_axis
  level_root i l h z =
      ap length (up_none (λ j. met e.fa n j i) n (λ j lj hj. inside_no n e f n j i lj l h (λ m. absurd (omega (arith, f.inner i (omega arith) h)))))

  module _ (i : ℕ) (l : 1 ≤ i) (h : i ≤ n) (up : 1 ≤ e.fa i) where
    low : e.fa i < i
    low = (f.each i l h).fa_high

    own : Inside e (e.fa i) i
    own = f.own i (omega (arith, low)) h

    pub above_other : (j : ℕ) → 1 ≤ j → j ≤ n → (j ≡ e.fa i → ⊥) → met e.fa n j i ≡ met e.fa n j (e.fa i)
    above_other j lj hj ne =
        ⊎_elim (λ (m : j < e.fa i). above m (f.pair j (e.fa i) lj m (omega (arith, low))))
        (λ (g : e.fa i ≤ j). inside_no n e f n j i lj l h (λ m. below g m (f.pair j i lj m h))
        ∙ sym (inside_no n e f n j (e.fa i) lj up (omega (arith, low)) (λ m. absurd (omega arith))))
        (lt_or_ge j (e.fa i))
      where
        above : j < e.fa i → Inside e j (e.fa i) ⊎ Follows e j (e.fa i) → met e.fa n j i ≡ met e.fa n j (e.fa i)
        above m (inl x) =
            inside_yes n e f n j i lj (omega (arith, low)) h h (omega (arith, own.inside, x.nested))
            ∙ sym (inside_yes n e f n j (e.fa i) lj m (omega (arith, low)) (omega (arith, low)) x.inside)
        above m (inr x) =
            inside_no n e f n j i lj l h (λ q. omega (arith, low, x.outside))
            ∙ sym (inside_no n e f n j (e.fa i) lj up (omega (arith, low)) (λ q. x.outside))

        below : e.fa i ≤ j → j < i → Inside e j i ⊎ Follows e j i → e.ff j ≤ i
        below g m (inl x) = absurd (omega (arith, x.under))
        below g m (inr x) = x.outside

    pub level_up : level_of n e.fa i ≡ level_of n e.fa (e.fa i) + 1
    unfolding level_of on_axis
    level_up =
        up_one (λ j. met e.fa n j i) (λ j. met e.fa n j (e.fa i)) n (e.fa i) up (omega (arith, low))
        (inside_yes n e f n (e.fa i) i up low h h own.inside)
        (inside_no n e f n (e.fa i) (e.fa i) up up (omega (arith, low)) (λ m. absurd (omega arith))) above_other
