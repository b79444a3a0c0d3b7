-- Which case of a definition holds under which facts.
--   ancestor_is, before_is   two tests of the axes, by ff
--   self_…, chosen_…   the tests of the axes
--   axis_…       which test an axis is
use Prim.Native.Nat.{ℕ, ◌≤◌, ◌<◌}
use mathlib.Core.Path.{◌≡◌, ap, ◌∙◌, sym}
use mathlib.Core.Logic.{⊎_elim}
use mathlib.Core.Bool.{Bool, true, false, ◌&&◌, and-false}
use native.Mathlib.Omega.{arith}
use lib.Dec.{ltb, leb, eqb}
use borrow.Author.Tests.{lt-ltb, le-ltb, le-leb, lt-leb, eq-eqb, ne_eqb}
use Rattle.turns.specs.Truth.{and_both}
use Rattle.trees.specs.Names.{passes}
use Rattle.trees.specs.Facts.{Facts}
use Rattle.trees.specs.Order.{lt_or_ge}
use Rattle.trees.specs.Signature.{Entries}
use Rattle.xpath.specs.Axes.{parent_of, ancestor_of, ancestor_or_self, whole_before, sibling_before, on_axis, chosen}
use Rattle.xpath.specs.Ancestors.{inside_yes, inside_no, whole_yes, whole_no}

-- ---- the tests of the axes

-- by the ff of a, as the code reads it
module _ (n : ℕ) (e : Entries) (f : Facts n e) (a j past : ℕ) (la : 1 ≤ a) (h : j ≤ n) (q : past ≡ e.ff a) where
  pub ancestor_is : 1 ≤ j → (ltb a j && ltb j past) ≡ ancestor_of n e.fa a j
  ancestor_is l = ap (λ (x : ℕ). ltb a j && ltb j x) q ∙ ⊎_elim
      (λ (m : a < j). ⊎_elim (λ (w : j < e.ff a). and_both (ltb a j) (ltb j (e.ff a)) (lt-ltb a j m) (lt-ltb j (e.ff a) w) ∙ sym (inside_yes n e f n a j la m h h w))
      (λ (w : e.ff a ≤ j). ap (λ (b : Bool). ltb a j && b) (le-ltb j (e.ff a) w) ∙ and-false (ltb a j) ∙ sym (inside_no n e f n a j la l h (λ x. w))) (lt_or_ge j (e.ff a)))
      (λ (g : j ≤ a). ap (λ (b : Bool). b && ltb j (e.ff a)) (le-ltb a j g) ∙ sym (inside_no n e f n a j la l h (λ x. absurd (omega arith)))) (lt_or_ge a j)

  pub before_is : a ≤ n → leb past j ≡ whole_before n e.fa a j
  before_is ha = ap (λ (x : ℕ). leb x j) q ∙ ⊎_elim
      (λ (w : j < e.ff a). lt-leb (e.ff a) j w ∙ sym (whole_no n e f a j la ha h w))
      (λ (w : e.ff a ≤ j). le-leb (e.ff a) j w ∙ sym (whole_yes n e f a j la ha h w)) (lt_or_ge j (e.ff a))

module _ (n : ℕ) (parent : ℕ → ℕ) (a j : ℕ) where
  pub self_yes : a ≡ j → ancestor_or_self n parent a j ≡ true
  unfolding ancestor_or_self
  self_yes h = simp (eq-eqb _ _ h)

  pub self_other : (a ≡ j → ⊥) → ancestor_or_self n parent a j ≡ ancestor_of n parent a j
  unfolding ancestor_or_self
  self_other h = simp (ne_eqb _ _ h)

module _ (axis n : ℕ) (parent name : ℕ → ℕ) (test c j : ℕ) where
  pub chosen_on : on_axis axis n parent c j ≡ true → chosen axis n parent name test c j ≡ passes test (name j)
  unfolding chosen
  chosen_on h = simp h

  pub chosen_off : on_axis axis n parent c j ≡ false → chosen axis n parent name test c j ≡ false
  unfolding chosen
  chosen_off h = simp h

-- ---- which test an axis is

module _ (axis n : ℕ) (up : ℕ → ℕ) (c j : ℕ) where
  abbrev at : ℕ → Bool
  at x = on_axis x n up c j

  pub axis_self : axis ≡ 0 → on_axis axis n up c j ≡ eqb c j
  unfolding on_axis
  axis_self h = ap at h

  pub axis_child : axis ≡ 1 → on_axis axis n up c j ≡ parent_of up c j
  unfolding on_axis
  axis_child h = ap at h

  pub axis_descendant : axis ≡ 2 → on_axis axis n up c j ≡ ancestor_of n up c j
  unfolding on_axis
  axis_descendant h = ap at h

  pub axis_descendant_or_self : axis ≡ 3 → on_axis axis n up c j ≡ ancestor_or_self n up c j
  unfolding on_axis
  axis_descendant_or_self h = ap at h

  pub axis_parent : axis ≡ 4 → on_axis axis n up c j ≡ parent_of up j c
  unfolding on_axis
  axis_parent h = ap at h

  pub axis_ancestor : axis ≡ 5 → on_axis axis n up c j ≡ ancestor_of n up j c
  unfolding on_axis
  axis_ancestor h = ap at h

  pub axis_ancestor_or_self : axis ≡ 6 → on_axis axis n up c j ≡ ancestor_or_self n up j c
  unfolding on_axis
  axis_ancestor_or_self h = ap at h

  pub axis_following : axis ≡ 7 → on_axis axis n up c j ≡ whole_before n up c j
  unfolding on_axis
  axis_following h = ap at h

  pub axis_preceding : axis ≡ 8 → on_axis axis n up c j ≡ whole_before n up j c
  unfolding on_axis
  axis_preceding h = ap at h

  pub axis_following_sibling : axis ≡ 9 → on_axis axis n up c j ≡ sibling_before up c j
  unfolding on_axis
  axis_following_sibling h = ap at h

  pub axis_preceding_sibling : axis ≡ 10 → on_axis axis n up c j ≡ sibling_before up j c
  unfolding on_axis
  axis_preceding_sibling h = ap at h
