-- How a turn of the check starts.
--   start_sized            what a length that is not refused is
use Prim.Native.Nat.{ℕ, ◌/◌, ◌%◌, ◌≤◌}
use native.Mathlib.Omega.{arith}
use mathlib.Core.Path.{◌≡◌, sym, ◌∙◌}
use Rattle.trees.specs.Signature.{width}
use Rattle.terms.specs.declared.Kind.{Kind}
use Rattle.terms.specs.Kinds.{most}
use Rattle.terms.specs.Length.{length_fault}
use Rattle.terms.proofs.Lengths.{length_sized, most_small}

-- what the code's test of the length has shown
pub start_sized : (k : Kind) (l r : ℕ) → r ≡ length_fault (most k) width l → r ≡ 0 → (l % width ≡ 0) × (l / width ≤ 4096)
start_sized k l r p q = let z = length_sized (most k) width l (sym p ∙ q) in (z.even, omega (arith, z.small, most_small k))
