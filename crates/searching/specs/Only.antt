-- The one element that a search finds.
--   Only n P k                  just the rank k passes; none does where k is 0
--   only_one                    there is one such k at most
--   named_after after test name j   j comes after a rank, and its name passes the test
use Rattle.std.specs.Prelude.{ℕ, ◌≤◌, ◌≡◌, refl, Bool, ◌&&◌, ltb, eqb}
use Rattle.std.proofs.Common.{◌∙◌, sym, arith, eq-eqb, eqb-true}
use Rattle.std.proofs.Math.Decide.{ℕ_discrete}
use Rattle.trees.specs.Names.{passes}

-- just the rank k passes
pub record Only (n : ℕ) (P : ℕ → Bool) (k : ℕ) : Type 0 where
  pub high : k ≤ n
  pub are : (j : ℕ) → 1 ≤ j → j ≤ n → P j ≡ eqb j k

-- two results of one search are equal
pub only_one : (n : ℕ) (P : ℕ → Bool) (a b : ℕ) → Only n P a → Only n P b → a ≡ b
only_one n P a b x y = go (ℕ_discrete a 0) (ℕ_discrete b 0)
  where
    same : (i : ℕ) → 1 ≤ i → i ≤ n → eqb i a ≡ eqb i b
    same i l h = sym (x.are i l h) ∙ y.are i l h

    go : Dec (a ≡ 0) → Dec (b ≡ 0) → a ≡ b
    go (yes p) (yes q) = p ∙ sym q
    go (yes p) (no q) = sym (eqb-true b a (same b (omega arith) y.high ∙ eq-eqb b b refl))
    go (no p) q = eqb-true a b (sym (same a (omega arith) x.high) ∙ eq-eqb a a refl)

-- the rank comes after another, and its name passes the test
unfoldable pub named_after : ℕ → ℕ → (ℕ → ℕ) → ℕ → Bool
named_after after test name j = ltb after j && passes test (name j)
