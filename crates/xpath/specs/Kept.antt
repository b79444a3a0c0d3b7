-- Laws of the position.
--   kept_none        without a position every element that passes is kept
--   kept_other       what does not pass is not kept
--   kept_pth         what passes is kept exactly if it is the p-th
use Rattle.std.specs.Prelude.{ℕ, ◌≡◌, Bool, ◌&&◌, ◌||◌, length}
use Rattle.std.proofs.Math.Bool.{true, false}
use Rattle.std.proofs.Math.Dec.{eqb}
use Rattle.std.proofs.Common.{eq-eqb, ne_eqb}
use Rattle.turns.specs.Pick.{pick}
use Rattle.xpath.specs.Select.{up_to}
use Rattle.xpath.specs.Axes.{pth, kept}

module _ (axis p : ℕ) (P : ℕ → Bool) (j : ℕ) where
  pub kept_none : p ≡ 0 → kept axis p P j ≡ P j
  unfolding kept
  kept_none h = simp (eq-eqb _ _ h)

  pub kept_position : (p ≡ 0 → ⊥) → kept axis p P j ≡ pth axis p P j
  unfolding kept
  kept_position h = simp (ne_eqb _ _ h)

  pub kept_other : P j ≡ false → kept axis p P j ≡ false
  unfolding kept pth
  kept_other h = go (eqb p 0)
    where
      go : (b : Bool) → pick b (P j) (P j && eqb (length (up_to j P)) p) ≡ false
      go true = h
      go false = simp h

  pub kept_pth : P j ≡ true → kept axis p P j ≡ (eqb p 0 || eqb (length (up_to j P)) p)
  unfolding kept pth
  kept_pth h = go (eqb p 0)
    where
      go : (b : Bool) → pick b (P j) (P j && eqb (length (up_to j P)) p) ≡ (b || eqb (length (up_to j P)) p)
      go true = h
      go false = simp h
