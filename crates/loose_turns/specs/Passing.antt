-- The promise of passed_over pins its result.
--   one_passed   two results that the promise allows are equal
use Rattle.std.specs.Prelude.{ℕ, ◌<◌, ◌≡◌}
use Rattle.std.proofs.Common.{sym, ◌∙◌, arith}
use Rattle.std.proofs.lemmas.Bool.{false≢true}
use Rattle.std.proofs.Math.Decide.{dec_lt}
use Rattle.candidates.specs.Candidates.{Passed}

pub one_passed : (bits : ℕ → ℕ) (k c most r s : ℕ) → Passed bits k c most r → Passed bits k c most s → r ≡ s
one_passed bits k c most r s p q = go (dec_lt r s) (dec_lt s r)
  where
    go : Dec (r < s) → Dec (s < r) → r ≡ s
    go (yes h) d = absurd (false≢true (sym (q.lack r h) ∙ p.has (omega (arith, h, q.within))))
    go (no h) (yes g) = absurd (false≢true (sym (p.lack s g) ∙ q.has (omega (arith, g, p.within))))
    go (no h) (no g) = omega (arith, h, g)
