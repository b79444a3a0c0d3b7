-- The refusal of a signature by its length alone: "whole length (1, then 7)".
--   length_fault most w l   the refusal of a list of l numbers, w to an entry, or 0
use Rattle.std.specs.Prelude.{ℕ, ◌/◌, ◌%◌, leb, eqb}
use Rattle.turns.specs.Pick.{pick}

-- "whole length (1, then 7)": empty or cut inside an entry 1, more than `most` entries 7, else 0
unfoldable pub length_fault : ℕ → ℕ → ℕ → ℕ
length_fault most w l = pick (eqb l 0) 1 (pick (eqb (l % w) 0) (pick (leb (l / w) most) 0 7) 1)
