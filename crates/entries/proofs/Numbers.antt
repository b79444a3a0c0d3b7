-- The numbers of entry 0.
use Prim.Native.Nat.{ℕ}
use native.Mathlib.Omega.{arith}
use mathlib.Core.Path.{◌≡◌, ap}
use mathlib.Core.List.{List}
use lib.ListN.{get_or}
use Rattle.trees.specs.Signature.{cell, width}

-- entry 0 reads like entry 1
pub number_first : (s : List ℕ) (i k : ℕ) → i ≡ 0 → get_or s k 0 ≡ cell width s i k
unfolding cell
number_first s i k h = ap (λ (x : ℕ). get_or s x 0) (omega arith)
