-- What a test came to, where its `ok` is asked.
--   tested_none   with none it found a fault
--   tested_some   with some it found none
use Prim.Native.Nat.{ℕ}
use mathlib.Core.Path.{◌≡◌, refl, ap, ◌∙◌, sym}
use native.Mathlib.Omega.{arith}
use Rattle.std.proofs.Common.{Option, Some, None, Result, Ok, Err}
use Rattle.std.specs.Result.{result_ok}
use Rattle.terms.specs.declared.Fault.{Fault}
use Rattle.terms.specs.Faults.{tested, some_number}

pub tested_none : (r : Result Unit Fault) (o : Option Unit) → o ≡ result_ok r → o ≡ None → tested r ≡ 0 → ⊥
tested_none (Ok x) o p q z = let w : Some x ≡ None = sym p ∙ q in cc
tested_none (Err f) o p q z = some_number f z

pub tested_some : (r : Result Unit Fault) (o : Option Unit) (x : Unit) → o ≡ result_ok r → o ≡ Some x → tested r ≡ 0
tested_some (Ok x) o y p q = refl
tested_some (Err f) o y p q = let w : None ≡ Some y = sym p ∙ q in cc
