-- A search by name: the count is that of the named ranks up to j, and less than p unless p is 0.
--   after_early, after_late    up to the rank that the search begins at none passes; after it, whose name passes
--   named_below, named_at      a count that does not come to p; the rank at which it does
--   named_none                 no rank does
use Prim.Native.Nat.{ℕ, ◌+◌, ◌≤◌, ◌<◌}
use mathlib.Core.Path.{◌≡◌, refl, ◌∙◌, sym}
use mathlib.Core.Bool.{Bool, true, false, ◌&&◌, false≢true}
use native.Mathlib.Omega.{arith}
use native.Mathlib.Decide.{ℕ_discrete}
use lib.ListN.{length}
use lib.Dec.{eqb}
use mir.Val.{bool_byte}
use borrow.Author.Tests.{lt-ltb, le-ltb, ne_eqb, eqb-true, eqb-false}
use Rattle.trees.specs.Names.{passes}
use Rattle.xpath.specs.Select.{up_to}
use Rattle.xpath.specs.Axes.{pth}
use Rattle.xpath.specs.Kept.{kept_position}
use Rattle.searching.specs.Only.{Only, named_after}
use Rattle.searching.proofs.Found.{count_next, counts_more, only_hit, only_none}

module _ (after test : ℕ) (name : ℕ → ℕ) (j : ℕ) where
  pub after_early : j ≤ after → named_after after test name j ≡ false
  unfolding named_after
  after_early h = simp (le-ltb after j h)

  pub after_late : after < j → named_after after test name j ≡ passes test (name j)
  unfolding named_after
  after_late h = simp (lt-ltb after j h)

pub named_below : (met p : ℕ) (b : Bool) → (1 ≤ p → met < p) → (b && eqb (met + bool_byte b) p) ≡ false → 1 ≤ p → met + bool_byte b < p
named_below met p true h g l =
    let m : met < p = h l in
    let ne : met + 1 ≡ p → ⊥ = eqb-false (met + 1) p g in
    omega arith
named_below met p false h g l = let m : met < p = h l in omega arith

module _ (P : ℕ → Bool) (p last : ℕ) where
  pub named_at : (j met : ℕ) (b : Bool) → j < last → met ≡ length (up_to j P) → b ≡ P (j + 1) → (b && eqb (met + bool_byte b) p) ≡ true → Only last (pth 0 p P) (j + 1)
  named_at j met true l q s g =
      let e : met + 1 ≡ p = eqb-true (met + 1) p g in
      let o = only_hit P 0 p (omega arith) last (j + 1) (omega arith) (sym s) (sym (count_next P j met true q s) ∙ e) in
      record { high = o.high; are = λ i a h. sym (kept_position 0 p P i (omega arith)) ∙ o.are i a h }
  named_at j met false l q s g = absurd (false≢true g)

  pub named_none : (j met : ℕ) → last ≤ j → met ≡ length (up_to j P) → (1 ≤ p → met < p) → Only last (pth 0 p P) 0
  unfolding pth
  named_none j met l q m = go (ℕ_discrete p 0)
    where
      never : p ≡ 0 → (i : ℕ) → 1 ≤ i → (b : Bool) → P i ≡ b → (b && eqb (length (up_to i P)) p) ≡ false
      never z i a true e = ne_eqb (length (up_to i P)) p (λ y. omega (arith, counts_more P 0 i (omega arith) e))
      never z i a false e = refl

      go : Dec (p ≡ 0) → Only last (pth 0 p P) 0
      go (yes z) = record { high = omega arith; are = λ i a h. never z i a (P i) refl ∙ sym (ne_eqb i 0 (omega arith)) }
      go (no z) =
          let o = only_none P 0 p (omega arith) last j last met l q (m (omega arith)) (λ i a b. absurd (omega arith)) in
          record { high = o.high; are = λ i a h. sym (kept_position 0 p P i z) ∙ o.are i a h }
