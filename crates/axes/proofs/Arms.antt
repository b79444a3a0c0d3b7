-- What a search finds is what the axis keeps.
--   kept_as            two tests that agree on the ranks keep the same
--   named_kept         the p-th named rank of a range is what is kept of the range
--   arm_self, …        each axis by the search that the code makes for it
use Prim.Native.Nat.{ℕ, ◌-◌, ◌≤◌, ◌<◌}
use mathlib.Core.Path.{◌≡◌, ap, ◌∙◌, sym}
use mathlib.Core.List.{List}
use mathlib.Core.Logic.{⊎_elim}
use mathlib.Core.Bool.{Bool, ◌&&◌, and-false, and-true}
use native.Mathlib.Omega.{arith}
use lib.ListN.{length}
use lib.Dec.{ltb, eqb}
use borrow.Author.Tests.{le-leb, lt-leb, ne_eqb}
use Rattle.turns.specs.Pick.{pick}
use Rattle.trees.specs.Facts.{Facts}
use Rattle.trees.specs.Names.{passes}
use Rattle.trees.specs.Order.{lt_or_ge}
use Rattle.trees.specs.Signature.{Entries}
use Rattle.xpath.specs.Select.{up_to}
use Rattle.xpath.specs.SelectLaws.{up_same}
use Rattle.xpath.specs.Axes.{on_axis, chosen, pth, kept}
use Rattle.xpath.specs.Kept.{kept_other, kept_position}
use Rattle.searching.specs.Only.{Only, named_after}
use Rattle.axes.specs.Row.{between, in_row}
use Rattle.axes.proofs.Cases.{axis_self, axis_child, axis_descendant, axis_descendant_or_self, axis_parent, axis_following, axis_following_sibling, axis_preceding_sibling}
use Rattle.axes.proofs.Ranges.{on_self, on_parent, on_descendant, on_descendant_or_self, on_following, row_child, row_later, row_earlier}

pub kept_as : (n a b p : ℕ) (P Q : ℕ → Bool) (r : ℕ) → ((i : ℕ) → 1 ≤ i → i ≤ n → Q i ≡ P i) → Only n (kept a p P) r → Only n (kept b p Q) r
unfolding kept pth
kept_as n a b p P Q r each o = record { high = o.high; are = λ i l h. go i l h ∙ o.are i l h }
  where
    go : (i : ℕ) → 1 ≤ i → i ≤ n → kept b p Q i ≡ kept a p P i
    go i l h =
        ap (λ (x : Bool). pick (eqb p 0) x (x && eqb (length (up_to i Q)) p)) (each i l h)
        ∙ ap (λ (x : List ℕ). pick (eqb p 0) (P i) (P i && eqb (length x) p)) (up_same Q P i (λ j s t. each j s (omega arith)))

module _ (n axis p : ℕ) (lp : 1 ≤ p) (name : ℕ → ℕ) (test after last : ℕ) (m : last ≤ n) (Q : ℕ → Bool) (r : ℕ) where
  pub named_kept : ((i : ℕ) → 1 ≤ i → i ≤ n → Q i ≡ (between after last i && passes test (name i))) → Only last (pth 0 p (named_after after test name)) r
      → Only n (kept axis p Q) r
  unfolding pth named_after
  named_kept each o = record { high = omega (arith, o.high); are = λ i l h. ⊎_elim (λ (w : last < i). late i l h w) (λ (w : i ≤ last). early i l h w) (lt_or_ge last i) }
    where
      N : ℕ → Bool
      N i = named_after after test name i

      late : (i : ℕ) → 1 ≤ i → i ≤ n → last < i → kept axis p Q i ≡ eqb i r
      late i l h w =
          kept_other axis p Q i (each i l h ∙ ap (λ (b : Bool). (ltb after i && b) && passes test (name i)) (lt-leb i last w) ∙ ap (λ (b : Bool). b && passes test (name i)) (and-false (ltb after i)))
          ∙ sym (ne_eqb i r (omega (arith, o.high)))

      same : (i : ℕ) → 1 ≤ i → i ≤ last → Q i ≡ N i
      same i l w =
          each i l (omega arith) ∙ ap (λ (b : Bool). (ltb after i && b) && passes test (name i)) (le-leb i last w) ∙ ap (λ (b : Bool). b && passes test (name i)) (and-true (ltb after i))

      early : (i : ℕ) → 1 ≤ i → i ≤ n → i ≤ last → kept axis p Q i ≡ eqb i r
      early i l h w =
          kept_position axis p Q i (omega arith) ∙ ap (λ (b : Bool). b && eqb (length (up_to i Q)) p) (same i l w)
          ∙ ap (λ (x : List ℕ). N i && eqb (length x) p) (up_same Q N i (λ j s t. same j s (omega arith))) ∙ o.are i l w

-- ---- each axis

module _ (n : ℕ) (e : Entries) (f : Facts n e) (axis test p : ℕ) (lp : 1 ≤ p) (c : ℕ) (lc : 1 ≤ c) (hc : c ≤ n) (after last r : ℕ) where
  abbrev Kept : Type 0
  Kept = Only n (kept axis p (chosen axis n e.fa e.name test c)) r

  -- a search by name, where the axis is a range
  ranged : last ≤ n → ((i : ℕ) → 1 ≤ i → i ≤ n → on_axis axis n e.fa c i ≡ between after last i) → Only last (pth 0 p (named_after after test e.name)) r → Kept
  unfolding chosen
  ranged m each = named_kept n axis p lp e.name test after last m (chosen axis n e.fa e.name test c) r (λ i l h. ap (λ (b : Bool). b && passes test (e.name i)) (each i l h))

  -- a search along a row
  rowed : (up : ℕ) → ((i : ℕ) → 1 ≤ i → i ≤ n → on_axis axis n e.fa c i ≡ in_row e up after last i) → Only n (kept 1 p (λ i. in_row e up after last i && passes test (e.name i))) r → Kept
  unfolding chosen
  rowed up each =
      kept_as n 1 axis p (λ i. in_row e up after last i && passes test (e.name i)) (chosen axis n e.fa e.name test c) r (λ i l h. ap (λ (b : Bool). b && passes test (e.name i)) (each i l h))

  module _ (o : Only last (pth 0 p (named_after after test e.name)) r) where
    pub arm_self : axis ≡ 0 → after ≡ c - 1 → last ≡ c → Kept
    arm_self a s t = ranged (omega arith) (λ i l h. axis_self axis n e.fa c i a ∙ on_self n e f c lc hc after last i l h s t) o

    pub arm_descendant : axis ≡ 2 → after ≡ c → last ≡ e.ff c - 1 → Kept
    arm_descendant a s t = ranged (omega (arith, (f.each c lc hc).ff_high)) (λ i l h. axis_descendant axis n e.fa c i a ∙ on_descendant n e f c lc hc after last i l h s t) o

    pub arm_descendant_or_self : axis ≡ 3 → after ≡ c - 1 → last ≡ e.ff c - 1 → Kept
    arm_descendant_or_self a s t =
        ranged (omega (arith, (f.each c lc hc).ff_high)) (λ i l h. axis_descendant_or_self axis n e.fa c i a ∙ on_descendant_or_self n e f c lc hc after last i l h s t) o

    pub arm_parent : axis ≡ 4 → after ≡ e.fa c - 1 → last ≡ e.fa c → Kept
    arm_parent a s t = ranged (omega (arith, (f.each c lc hc).fa_high)) (λ i l h. axis_parent axis n e.fa c i a ∙ on_parent n e f c lc hc after last i l h s t) o

    pub arm_following : axis ≡ 7 → after ≡ e.ff c - 1 → last ≡ n → Kept
    arm_following a s t = ranged (omega arith) (λ i l h. axis_following axis n e.fa c i a ∙ on_following n e f c lc hc after last i l h s t) o

  pub arm_child : axis ≡ 1 → after ≡ c → last ≡ e.ff c - 1 → Only n (kept 1 p (λ i. in_row e c after last i && passes test (e.name i))) r → Kept
  arm_child a s t = rowed c (λ i l h. axis_child axis n e.fa c i a ∙ row_child n e f c lc hc after last i l h s t)

  module _ (up : ℕ) (u : up ≡ e.fa c) (o : Only n (kept 1 p (λ i. in_row e up after last i && passes test (e.name i))) r) where
    pub arm_later : axis ≡ 9 → after ≡ e.ff c - 1 → last ≡ e.ff up - 1 → Kept
    arm_later a s t = rowed up (λ i l h. axis_following_sibling axis n e.fa c i a ∙ row_later n e f c lc hc after last i l h up u s t) o

    pub arm_earlier : axis ≡ 10 → after ≡ up → last ≡ c - 1 → Kept
    arm_earlier a s t = rowed up (λ i l h. axis_preceding_sibling axis n e.fa c i a ∙ row_earlier n e f c lc hc after last i l h up u s t) o
