-- What is kept of one context.
--   Kept axis s n test p c k   just the rank k is kept of what is on the axis of c, or none where k is 0
use Rattle.std.specs.Prelude.{ℕ, List}
use Rattle.trees.specs.Signature.{entries_of, width}
use Rattle.xpath.specs.Axes.{chosen, kept}
use Rattle.searching.specs.Only.{Only}

-- the p-th element on the axis of c whose name passes
abbrev pub Kept : ℕ → List ℕ → ℕ → ℕ → ℕ → ℕ → ℕ → Type 0
Kept axis s n test p c k = Only n (kept axis p (chosen axis n (entries_of width s).fa (entries_of width s).name test c)) k
