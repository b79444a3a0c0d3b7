-- Level, block and axes on bare numbers.
--   LevelNumbers s i r out                   the level: out is level, entry
--   PlaceNumbers s i r out                   the place of a block: out is its first number's place, how many numbers, entry
--   AxisNumbers …                            an axis: out is the ranks written, entry; the room is as the axis call leaves it
use Rattle.std.specs.Prelude.{ℕ, List}
use Rattle.blocks.specs.Level.{level_answer}
use Rattle.blocks.specs.Block.{place_answer}
use Rattle.marks.specs.Axis.{axis_answer}
use Rattle.telling.specs.Numbers.{LeftNumbers}
use Rattle.telling.specs.Answers.{LeveledSays, PlacedSays}

-- the promise of the level call on bare numbers
abbrev pub LevelNumbers : List ℕ → ℕ → ℕ → List ℕ → Type 0
LevelNumbers s i r out = LeveledSays (level_answer s i) r out

-- the promise of the call for a block's place on bare numbers
abbrev pub PlaceNumbers : List ℕ → ℕ → ℕ → List ℕ → Type 0
PlaceNumbers s i r out = PlacedSays (place_answer s i) r out

-- the promise of an axis call on bare numbers: out is how many ranks were written, entry; the room is as that call leaves it
abbrev pub AxisNumbers : List ℕ → List ℕ → ℕ → ℕ → ℕ → List ℕ → ℕ → List ℕ → List ℕ → Type 0
AxisNumbers s contexts axis name p room r after out =
    LeftNumbers (axis_answer s contexts axis name p room) r after out
