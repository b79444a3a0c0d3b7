-- A choice between two values by a test. Definitions choose with it, because `simp` looks inside it.
--   pick b x y   x where b is true, else y
use Rattle.std.specs.Prelude.{Bool, true, false}

-- x where the test holds, else y
abbrev pub pick {ℓ} : {A : Type ℓ} → Bool → A → A → A
pick true x y = x
pick false x y = y
