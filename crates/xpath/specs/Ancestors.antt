-- On the entries of a tree, a is an ancestor of j exactly if j lies in the block of a.
--   inside_yes, inside_no   of two ranks, by the way up
--   whole_yes, whole_no     a comes before j and is no ancestor exactly if the block of a ends before j
use Prim.Native.Nat.{ℕ, zero, suc, ◌≤◌, ◌<◌}
use Rattle.std.specs.Prelude.{◌≡◌, ◌⊎◌, Bool, true, false, ◌||◌, eqb}
use Rattle.std.proofs.Math.Path.{refl}
use Rattle.std.proofs.Common.{ap, ◌∙◌, sym, inl, inr, arith, eq-or-lt_of_le, lt-ltb, le-ltb, eq-eqb, ne_eqb}
use Rattle.std.proofs.Math.Logic.{⊎_elim}
use Rattle.std.proofs.Math.Bool.{or-true, or-false}
use Rattle.std.proofs.Math.Decide.{ℕ_discrete}
use Rattle.trees.specs.Signature.{Entries}
use Rattle.trees.specs.Facts.{Inside, Follows, Facts}
use Rattle.trees.specs.Order.{lt_or_ge}
use Rattle.xpath.specs.Axes.{met, parent_of, whole_before}

module _ (n : ℕ) (e : Entries) (f : Facts n e) where
  -- one step up, where there is a parent
  step : (k a j : ℕ) → (e.fa j ≡ 0 → ⊥) → met e.fa (suc k) a j ≡ (eqb (e.fa j) a || met e.fa k a (e.fa j))
  unfolding met parent_of
  step k a j h = simp (ne_eqb _ _ h)

  pub inside_yes : (k a j : ℕ) → 1 ≤ a → a < j → j ≤ n → j ≤ k → j < e.ff a → met e.fa k a j ≡ true
  inside_yes zero a j la m h g w = absurd (omega arith)
  inside_yes (suc k) a j la m h g w = go (f.pair a j la m h) (λ p q r s. inside_yes k a (e.fa j) la p q r s)
    where
      up : 1 ≤ e.fa j
      up = f.inner j (omega arith) h

      low : e.fa j < j
      low = (f.each j (omega arith) h).fa_high

      go : Inside e a j ⊎ Follows e a j
          → (a < e.fa j → e.fa j ≤ n → e.fa j ≤ k → e.fa j < e.ff a → met e.fa k a (e.fa j) ≡ true) → met e.fa (suc k) a j ≡ true
      go (inr x) ih = absurd (omega (arith, x.outside))
      go (inl x) ih = step k a j (omega (arith, up)) ∙ ⊎_elim
          (λ (q : a ≡ e.fa j). simp (eq-eqb (e.fa j) a (sym q)))
          (λ (q : a < e.fa j). ap (λ (b : Bool). eqb (e.fa j) a || b)
          (ih q (omega (arith, low)) (omega (arith, low)) (omega (arith, low))) ∙ or-true (eqb (e.fa j) a))
          (eq-or-lt_of_le x.under)

  pub inside_no : (k a j : ℕ) → 1 ≤ a → 1 ≤ j → j ≤ n → (a < j → e.ff a ≤ j) → met e.fa k a j ≡ false
  unfolding met
  inside_no zero a j la lj h w = refl
  inside_no (suc k) a j la lj h w = go (ℕ_discrete (e.fa j) 0) (λ p q r. inside_no k a (e.fa j) la p q r)
    where
      low : e.fa j < j
      low = (f.each j lj h).fa_high

      go : Dec (e.fa j ≡ 0) → (1 ≤ e.fa j → e.fa j ≤ n → (a < e.fa j → e.ff a ≤ e.fa j) → met e.fa k a (e.fa j) ≡ false)
          → met e.fa (suc k) a j ≡ false
      go (yes z) ih = simp (eq-eqb _ _ z)
      go (no z) ih =
          let own = f.own j (omega (arith, low)) h in
          let apart : e.fa j ≡ a → ⊥ = λ q. no_parent_law q own in
          step k a j z ∙ ap (λ (b : Bool). eqb (e.fa j) a || b) (ih (omega arith) (omega (arith, low)) (λ l. past l own (f.pair a (e.fa j) la l (omega (arith, low)))))
          ∙ or-false (eqb (e.fa j) a) ∙ ne_eqb _ _ apart
        where
          no_parent_law : e.fa j ≡ a → Inside e (e.fa j) j → ⊥
          no_parent_law q own = omega (arith, own.inside, w (omega (arith, low)), ap e.ff q)

          past : a < e.fa j → Inside e (e.fa j) j → Inside e a (e.fa j) ⊎ Follows e a (e.fa j) → e.ff a ≤ e.fa j
          past l own (inr x) = x.outside
          past l own (inl x) = absurd (omega (arith, own.inside, x.nested, w (omega (arith, low))))

  -- ---- "after the context in document order and no descendant"

  pub whole_yes : (a j : ℕ) → 1 ≤ a → a ≤ n → j ≤ n → e.ff a ≤ j → whole_before n e.fa a j ≡ true
  unfolding whole_before
  whole_yes a j la ha h w =
      let l : a < j = omega (arith, (f.each a la ha).ff_low) in
      simp (lt-ltb a j l, inside_no n a j la (omega arith) h (λ q. w))

  pub whole_no : (a j : ℕ) → 1 ≤ a → a ≤ n → j ≤ n → j < e.ff a → whole_before n e.fa a j ≡ false
  unfolding whole_before
  whole_no a j la ha h w =
      ⊎_elim (λ (l : a < j). simp (lt-ltb a j l, inside_yes n a j la l h h w)) (λ (g : j ≤ a). simp (le-ltb a j g)) (lt_or_ge a j)
