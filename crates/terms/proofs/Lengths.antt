-- Which length is refused, and how.
--   length_…     which case of the length's rule holds under which facts
--   Sized        what a length is that is not refused
--   most_small   no kind has more than 4,096 elements
use Prim.Native.Nat.{ℕ, ◌/◌, ◌%◌, ◌≤◌, ◌<◌}
use mathlib.Core.Path.{◌≡◌, refl, sym}
use mathlib.Core.Bool.{Bool, true, false, not, ◌||◌, false≢true}
use lib.Dec.{leb, eqb}
use native.Mathlib.Omega.{arith}
use borrow.Author.Tests.{le-leb, lt-leb, eq-eqb, ne_eqb, eqb-true, eqb-false, leb-true}
use Rattle.turns.specs.Pick.{pick}
use Rattle.terms.specs.declared.Kind.{Kind}
use Rattle.terms.specs.Kinds.{most}
use Rattle.terms.specs.Length.{length_fault}

pub length_whole : (w l : ℕ) → (eqb l 0 || not (eqb (l % w) 0)) ≡ false → (l ≡ 0 → ⊥) × (l % w ≡ 0)
length_whole w l = go (eqb l 0) (eqb (l % w) 0) refl refl
  where
    go : (a b : Bool) → eqb l 0 ≡ a → eqb (l % w) 0 ≡ b → (a || not b) ≡ false → (l ≡ 0 → ⊥) × (l % w ≡ 0)
    go true b p q h = absurd (false≢true (sym h))
    go false false p q h = absurd (false≢true (sym h))
    go false true p q h = (eqb-false _ _ p, eqb-true _ _ q)

module _ (most w l : ℕ) where
  pub length_cut : (eqb l 0 || not (eqb (l % w) 0)) ≡ true → length_fault most w l ≡ 1
  unfolding length_fault
  length_cut = go (eqb l 0) (eqb (l % w) 0)
    where
      go : (a b : Bool) → (a || not b) ≡ true → ◌≡◌ {A = ℕ} (pick a 1 (pick b (pick (leb (l / w) most) 0 7) 1)) 1
      go true b h = refl
      go false false h = refl
      go false true h = absurd (false≢true h)

  module _ (some : l ≡ 0 → ⊥) where
    module _ (even : l % w ≡ 0) where
      pub length_over : most < l / w → length_fault most w l ≡ 7
      unfolding length_fault
      length_over h = simp (ne_eqb _ _ some, eq-eqb _ _ even, lt-leb _ _ h)

      pub length_fine : l / w ≤ most → length_fault most w l ≡ 0
      unfolding length_fault
      length_fine h = simp (ne_eqb _ _ some, eq-eqb _ _ even, le-leb _ _ h)

  -- a length that is not refused
  pub record Sized : Type 0 where
    pub some : l ≡ 0 → ⊥
    pub even : l % w ≡ 0
    pub small : l / w ≤ most

  pub length_sized : length_fault most w l ≡ 0 → Sized
  unfolding length_fault
  length_sized = go (eqb l 0) (eqb (l % w) 0) (leb (l / w) most) refl refl refl
    where
      go : (a b c : Bool) → eqb l 0 ≡ a → eqb (l % w) 0 ≡ b → leb (l / w) most ≡ c → ◌≡◌ {A = ℕ} (pick a 1 (pick b (pick c 0 7) 1)) 0 → Sized
      go true b c ha hb hc h = absurd (omega arith)
      go false false c ha hb hc h = absurd (omega arith)
      go false true false ha hb hc h = absurd (omega arith)
      go false true true ha hb hc h = record { some = eqb-false _ _ ha; even = eqb-true _ _ hb; small = leb-true _ _ hc }

-- no kind has more than 4,096 elements
pub most_small : (k : Kind) → most k ≤ 4096
most_small Kind.Data = omega arith
most_small Kind.Twig = omega arith
