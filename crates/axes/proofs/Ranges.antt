-- Which ranks are on an axis, by the ranks where it begins and ends.
--   same_truth, between_…    two tests that hold together; a rank between two others
--   on_…                     the axes with every rank of a range
--   row_child, row_later, row_earlier   the axes of children and of siblings: the ranks of a range that have one parent
--   before_…, none_before    the search over what precedes a context: the count, the rank at which it comes to p, none
use Prim.Native.Nat.{ℕ, ◌+◌, ◌-◌, ◌≤◌, ◌<◌}
use mathlib.Core.Path.{◌≡◌, refl, ap, ◌∙◌, sym}
use mathlib.Core.Logic.{◌⊎◌, inl, inr}
use mathlib.Core.Bool.{Bool, true, false, not, ◌&&◌}
use lib.ListN.{length}
use lib.Dec.{ltb, leb, eqb}
use mir.Val.{bool_byte}
use native.Mathlib.Omega.{arith}
use native.Mathlib.Decide.{ℕ_discrete}
use borrow.Author.Tests.{ltb-true, leb-true, eqb-true, lt-ltb, le-leb, eq-eqb, ne_eqb}
use Rattle.turns.specs.Truth.{and_left, and_right, and_both}
use Rattle.trees.specs.Facts.{Each, Inside, Follows, Facts}
use Rattle.trees.specs.Names.{passes}
use Rattle.trees.specs.Order.{lt_or_ge}
use Rattle.trees.specs.Signature.{Entries}
use Rattle.xpath.specs.Axes.{parent_of, ancestor_of, ancestor_or_self, whole_before, sibling_before, chosen, kept}
use Rattle.xpath.specs.Ancestors.{whole_no}
use Rattle.xpath.specs.Select.{up_to}
use Rattle.xpath.specs.SelectLaws.{up_length}
use Rattle.searching.specs.Only.{Only}
use Rattle.searching.proofs.Found.{count_next, only_at, only_none}
use Rattle.axes.specs.Row.{between, in_row}
use Rattle.axes.proofs.Cases.{ancestor_is, before_is, self_yes, self_other, chosen_off, axis_preceding}

-- ---- tests

same_truth : (a b : Bool) → (a ≡ true → b ≡ true) → (b ≡ true → a ≡ true) → a ≡ b
same_truth true true f g = refl
same_truth true false f g = sym (f refl)
same_truth false true f g = g refl
same_truth false false f g = refl

module _ (after last i : ℕ) where
  between_yes : after < i → i ≤ last → between after last i ≡ true
  between_yes l h = and_both (ltb after i) (leb i last) (lt-ltb after i l) (le-leb i last h)

  between_low : between after last i ≡ true → after < i
  between_low t = ltb-true after i (and_left (ltb after i) (leb i last) t)

  between_high : between after last i ≡ true → i ≤ last
  between_high t = leb-true i last (and_right (ltb after i) (leb i last) t)

-- ---- every rank of a range

module _ (n : ℕ) (e : Entries) (f : Facts n e) (c : ℕ) (lc : 1 ≤ c) (hc : c ≤ n) (after last i : ℕ) (l : 1 ≤ i) (h : i ≤ n) where
  own : Each n e c
  own = f.each c lc hc

  pub on_self : after ≡ c - 1 → last ≡ c → eqb c i ≡ between after last i
  on_self p q =
      same_truth (eqb c i) (between after last i)
      (λ t. between_yes after last i (omega (arith, eqb-true c i t)) (omega (arith, eqb-true c i t)))
      (λ t. eq-eqb c i (omega (arith, between_low after last i t, between_high after last i t)))

  pub on_parent : after ≡ e.fa c - 1 → last ≡ e.fa c → parent_of e.fa i c ≡ between after last i
  unfolding parent_of
  on_parent p q =
      same_truth (eqb (e.fa c) i) (between after last i)
      (λ t. between_yes after last i (omega (arith, eqb-true (e.fa c) i t)) (omega (arith, eqb-true (e.fa c) i t)))
      (λ t. eq-eqb (e.fa c) i (omega (arith, between_low after last i t, between_high after last i t)))

  pub on_descendant : after ≡ c → last ≡ e.ff c - 1 → ancestor_of n e.fa c i ≡ between after last i
  on_descendant p q = sym (ancestor_is n e f c i (e.ff c) lc h refl l) ∙ same_truth (ltb c i && ltb i (e.ff c)) (between after last i)
      (λ t. between_yes after last i (omega (arith, ltb-true c i (and_left (ltb c i) (ltb i (e.ff c)) t)))
      (omega (arith, ltb-true i (e.ff c) (and_right (ltb c i) (ltb i (e.ff c)) t))))
      (λ t. and_both (ltb c i) (ltb i (e.ff c)) (lt-ltb c i (omega (arith, between_low after last i t)))
      (lt-ltb i (e.ff c) (omega (arith, between_high after last i t, own.ff_low))))

  pub on_following : after ≡ e.ff c - 1 → last ≡ n → whole_before n e.fa c i ≡ between after last i
  on_following p q = sym (before_is n e f c i (e.ff c) lc h refl hc) ∙ same_truth (leb (e.ff c) i) (between after last i)
      (λ t. between_yes after last i (omega (arith, leb-true (e.ff c) i t, own.ff_low)) (omega arith))
      (λ t. le-leb (e.ff c) i (omega (arith, between_low after last i t)))

module _ (n : ℕ) (e : Entries) (f : Facts n e) (c : ℕ) (lc : 1 ≤ c) (hc : c ≤ n) (after last i : ℕ) (l : 1 ≤ i) (h : i ≤ n) where
  pub on_descendant_or_self : after ≡ c - 1 → last ≡ e.ff c - 1 → ancestor_or_self n e.fa c i ≡ between after last i
  on_descendant_or_self p q = go (ℕ_discrete c i)
    where
      go : Dec (c ≡ i) → ancestor_or_self n e.fa c i ≡ between after last i
      go (yes z) = self_yes n e.fa c i z ∙ sym (between_yes after last i (omega arith) (omega (arith, (f.each c lc hc).ff_low)))
      go (no z) = self_other n e.fa c i z ∙ on_descendant n e f c lc hc c last i l h refl q ∙ same_truth (between c last i) (between after last i)
          (λ t. between_yes after last i (omega (arith, between_low c last i t)) (between_high c last i t))
          (λ t. between_yes c last i (omega (arith, between_low after last i t)) (between_high after last i t))

-- ---- the ranks of a range that have one parent

module _ (n : ℕ) (e : Entries) (f : Facts n e) (c : ℕ) (lc : 1 ≤ c) (hc : c ≤ n) (after last i : ℕ) (l : 1 ≤ i) (h : i ≤ n) where
  low : e.fa i < i
  low = (f.each i l h).fa_high

  pub row_child : after ≡ c → last ≡ e.ff c - 1 → parent_of e.fa c i ≡ in_row e c after last i
  unfolding parent_of
  row_child p q = same_truth (eqb (e.fa i) c) (in_row e c after last i) yes_row (λ t. and_right (between after last i) (eqb (e.fa i) c) t)
    where
      yes_row : eqb (e.fa i) c ≡ true → in_row e c after last i ≡ true
      yes_row t =
          let z : e.fa i ≡ c = eqb-true (e.fa i) c t in
          let w : i < e.ff (e.fa i) = (f.own i (omega (arith, low)) h).inside in
          let y : e.ff (e.fa i) ≡ e.ff c = ap e.ff z in
          and_both (between after last i) (eqb (e.fa i) c) (between_yes after last i (omega (arith, low)) (omega arith)) t

  pub row_later : (up : ℕ) → up ≡ e.fa c → after ≡ e.ff c - 1 → last ≡ e.ff up - 1 → sibling_before e.fa c i ≡ in_row e up after last i
  unfolding sibling_before parent_of
  row_later up u p q =
      same_truth (ltb c i && (not (eqb (e.fa c) 0) && eqb (e.fa i) (e.fa c))) (in_row e up after last i)
      (λ t. there (ltb-true c i (and_left (ltb c i) (not (eqb (e.fa c) 0) && eqb (e.fa i) (e.fa c)) t))
      (eqb-true (e.fa i) (e.fa c) (and_right (not (eqb (e.fa c) 0)) (eqb (e.fa i) (e.fa c)) (and_right (ltb c i) (not (eqb (e.fa c) 0) && eqb (e.fa i) (e.fa c)) t))))
      (λ t. back (between_low after last i (and_left (between after last i) (eqb (e.fa i) up) t)) (eqb-true (e.fa i) up (and_right (between after last i) (eqb (e.fa i) up) t)))
    where
      past : c < i → e.fa i ≡ e.fa c → Inside e c i ⊎ Follows e c i → e.ff c ≤ i
      past m z (inl x) = absurd (omega (arith, x.under, (f.each c lc hc).fa_high))
      past m z (inr x) = x.outside

      there : c < i → e.fa i ≡ e.fa c → in_row e up after last i ≡ true
      there m z =
          let g : e.ff c ≤ i = past m z (f.pair c i lc m h) in
          let w : i < e.ff (e.fa i) = (f.own i (omega arith) h).inside in
          let y : e.ff (e.fa i) ≡ e.ff up = ap e.ff (z ∙ sym u) in
          and_both (between after last i) (eqb (e.fa i) up) (between_yes after last i (omega (arith, (f.each c lc hc).ff_low)) (omega arith)) (eq-eqb (e.fa i) up (z ∙ sym u))

      -- the block of the root ends with the last rank
      root : after < i → e.fa c ≡ 0 → (1 < c) ⊎ (c ≤ 1) → ⊥
      root m z (inl x) = omega (arith, f.inner c x hc)
      root m z (inr x) = let y : e.ff c ≡ e.ff 1 = ap e.ff (omega arith) in omega (arith, f.root_ff)

      back : after < i → e.fa i ≡ up → (ltb c i && (not (eqb (e.fa c) 0) && eqb (e.fa i) (e.fa c))) ≡ true
      back m z =
          and_both (ltb c i) (not (eqb (e.fa c) 0) && eqb (e.fa i) (e.fa c)) (lt-ltb c i (omega (arith, (f.each c lc hc).ff_low)))
          (and_both (not (eqb (e.fa c) 0)) (eqb (e.fa i) (e.fa c)) (ap not (ne_eqb (e.fa c) 0 (λ w. root m w (lt_or_ge 1 c)))) (eq-eqb (e.fa i) (e.fa c) (z ∙ u)))

  pub row_earlier : (up : ℕ) → up ≡ e.fa c → after ≡ up → last ≡ c - 1 → sibling_before e.fa i c ≡ in_row e up after last i
  unfolding sibling_before parent_of
  row_earlier up u p q =
      same_truth (ltb i c && (not (eqb (e.fa i) 0) && eqb (e.fa c) (e.fa i))) (in_row e up after last i)
      (λ t. there (ltb-true i c (and_left (ltb i c) (not (eqb (e.fa i) 0) && eqb (e.fa c) (e.fa i)) t))
      (eqb-true (e.fa c) (e.fa i) (and_right (not (eqb (e.fa i) 0)) (eqb (e.fa c) (e.fa i)) (and_right (ltb i c) (not (eqb (e.fa i) 0) && eqb (e.fa c) (e.fa i)) t))))
      (λ t. back (between_high after last i (and_left (between after last i) (eqb (e.fa i) up) t)) (eqb-true (e.fa i) up (and_right (between after last i) (eqb (e.fa i) up) t)))
    where
      there : i < c → e.fa c ≡ e.fa i → in_row e up after last i ≡ true
      there m z =
          and_both (between after last i) (eqb (e.fa i) up) (between_yes after last i (omega (arith, low)) (omega arith)) (eq-eqb (e.fa i) up (sym z ∙ sym u))

      back : i ≤ last → e.fa i ≡ up → (ltb i c && (not (eqb (e.fa i) 0) && eqb (e.fa c) (e.fa i))) ≡ true
      back m z =
          let w : 1 ≤ e.fa c = f.inner c (omega arith) hc in
          and_both (ltb i c) (not (eqb (e.fa i) 0) && eqb (e.fa c) (e.fa i)) (lt-ltb i c (omega arith))
          (and_both (not (eqb (e.fa i) 0)) (eqb (e.fa c) (e.fa i)) (ap not (ne_eqb (e.fa i) 0 (omega arith))) (eq-eqb (e.fa c) (e.fa i) (sym u ∙ sym z)))

-- ---- what precedes a context

module _ (n : ℕ) (e : Entries) (f : Facts n e) (c : ℕ) (hc : c ≤ n) (test : ℕ) where
  before_late : (i : ℕ) → c < i → i ≤ n → chosen 8 n e.fa e.name test c i ≡ false
  before_late i m h =
      chosen_off 8 n e.fa e.name test c i (axis_preceding 8 n e.fa c i refl ∙ whole_no n e f i c (omega arith) h hc (omega (arith, (f.each i (omega arith) h).ff_low)))

  module _ (j met : ℕ) (q : met ≡ length (up_to j (chosen 8 n e.fa e.name test c))) where
    pub none_before : (p : ℕ) → 1 ≤ p → met < p → c ≤ j → Only n (kept 8 p (chosen 8 n e.fa e.name test c)) 0
    none_before p lp m h = only_none (chosen 8 n e.fa e.name test c) 8 p lp n j c met h q m before_late

    module _ (h : j < c) (past : ℕ) (b : Bool) (w : past ≡ e.ff (j + 1)) (s : b ≡ passes test (e.name (j + 1))) where
      is : (leb past c && b) ≡ chosen 8 n e.fa e.name test c (j + 1)
      unfolding chosen
      is = ap (λ (x : Bool). leb past c && x) s
          ∙ ap (λ (x : Bool). x && passes test (e.name (j + 1))) (before_is n e f (j + 1) c past (omega arith) hc w (omega arith) ∙ sym (axis_preceding 8 n e.fa c (j + 1) refl))

      pub before_count : met + bool_byte (leb past c && b) ≡ length (up_to (j + 1) (chosen 8 n e.fa e.name test c))
      before_count = count_next (chosen 8 n e.fa e.name test c) j met (leb past c && b) q is

      pub before_small : met + bool_byte (leb past c && b) ≤ n
      before_small = omega (arith, before_count, up_length (chosen 8 n e.fa e.name test c) (j + 1))

      pub before_here : (p : ℕ) → 1 ≤ p → met < p → met + bool_byte (leb past c && b) ≡ p → Only n (kept 8 p (chosen 8 n e.fa e.name test c)) (j + 1)
      before_here p lp m g = only_at (chosen 8 n e.fa e.name test c) 8 p lp n j met (leb past c && b) (omega arith) q m is g
