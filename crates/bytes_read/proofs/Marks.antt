-- The test of a mark: which way it goes under which facts, and what it then tells.
--   marked_first, marked_yes   two of its three ways
--   marked_is                  the two bytes of a mark that stands there
use Prim.Native.Nat.{ℕ, ◌+◌}
use mathlib.Core.Path.{◌≡◌, refl}
use mathlib.Core.Bool.{Bool, true, false, ◌&&◌}
use mathlib.Core.List.{List}
use native.Mathlib.Omega.{arith}
use lib.ListN.{get_or}
use lib.Dec.{eqb}
use borrow.Author.Tests.{eqb-true, eq-eqb, ne_eqb}
use Rattle.bytes_read.specs.Bytes.{marked}

module _ (b : List ℕ) (p x y : ℕ) where
  pub marked_first : (get_or b p 0 ≡ x → ⊥) → marked b p x y ≡ false
  unfolding marked
  marked_first h = simp (ne_eqb _ _ h)

  pub marked_yes : get_or b p 0 ≡ x → get_or b (p + 1) 0 ≡ y → marked b p x y ≡ true
  unfolding marked
  marked_yes h k = simp (eq-eqb _ _ h, eq-eqb _ _ k)

  pub marked_is : marked b p x y ≡ true → (get_or b p 0 ≡ x) × (get_or b (p + 1) 0 ≡ y)
  unfolding marked
  marked_is = go (eqb (get_or b p 0) x) (eqb (get_or b (p + 1) 0) y) refl refl
    where
      go : (s t : Bool) → eqb (get_or b p 0) x ≡ s → eqb (get_or b (p + 1) 0) y ≡ t → (s && t) ≡ true → (get_or b p 0 ≡ x) × (get_or b (p + 1) 0 ≡ y)
      go true true u v h = (eqb-true _ _ u, eqb-true _ _ v)
      go true false u v h = let z : ◌≡◌ {A = ℕ} 0 1 = cc in absurd (omega arith)
      go false t u v h = let z : ◌≡◌ {A = ℕ} 0 1 = cc in absurd (omega arith)
