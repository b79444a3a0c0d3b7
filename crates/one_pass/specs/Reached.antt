-- What a pass of an axis marks.
--   reached axis s n from j   j is on the axis of one of the ranks that have a mark
use Rattle.std.specs.Prelude.{ℕ, List, Bool}
use Rattle.trees.specs.Signature.{entries_of, width}
use Rattle.xpath.specs.Spread.{spread_of}
use Rattle.marks.specs.Marks.{marked}

-- on the axis of one of the marked ranks of the signature's n entries
abbrev pub reached : ℕ → List ℕ → ℕ → List Bool → ℕ → Bool
reached axis s n from = spread_of axis n (entries_of width s).fa (marked from)
