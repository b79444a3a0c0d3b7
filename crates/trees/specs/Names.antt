-- The name test of a twig node, or of an axis.
--   passes want name         the name passes, computed
--   Passes want name         the same as a statement
--   passes_true, true_passes   the two say the same
--   passes_any, passes_same, passes_other   its three cases
use Rattle.std.specs.Prelude.{ℕ, ◌≡◌, ◌⊎◌, Bool, true, false, ◌||◌, eqb}
use Rattle.std.proofs.Math.Logic.{inl, inr}
use Rattle.std.proofs.Math.Bool.{or-true}
use borrow.Author.Tests.{eq-eqb, ne_eqb, eqb-true}
use Rattle.turns.specs.Truth.{or_cases, or_left, or_right}

-- "Code 0 stands for any name, in a twig or a name test only."
unfoldable pub passes : ℕ → ℕ → Bool
passes want name = eqb want 0 || eqb want name

-- "a name must be equal unless the twig's is 0"
abbrev pub Passes : ℕ → ℕ → Type 0
Passes want name = (want ≡ 0) ⊎ (want ≡ name)

module _ (want name : ℕ) where
  pub passes_true : passes want name ≡ true → Passes want name
  unfolding passes
  passes_true h = by (or_cases (eqb want 0) (eqb want name) h)
    where
      by : (eqb want 0 ≡ true) ⊎ (eqb want name ≡ true) → Passes want name
      by (inl k) = inl (eqb-true want 0 k)
      by (inr k) = inr (eqb-true want name k)

  pub true_passes : Passes want name → passes want name ≡ true
  unfolding passes
  true_passes (inl z) = or_left (eqb want 0) (eqb want name) (eq-eqb want 0 z)
  true_passes (inr z) = or_right (eqb want 0) (eqb want name) (eq-eqb want name z)

  pub passes_any : want ≡ 0 → passes want name ≡ true
  unfolding passes
  passes_any h = simp (eq-eqb _ _ h)

  pub passes_same : want ≡ name → passes want name ≡ true
  unfolding passes
  passes_same h = simp (eq-eqb _ _ h, or-true)

  pub passes_other : (want ≡ 0 → ⊥) → (want ≡ name → ⊥) → passes want name ≡ false
  unfolding passes
  passes_other h g = simp (ne_eqb _ _ h, ne_eqb _ _ g)
