-- What level, block and the start of preparing answer, on bare numbers.
--   LeveledSays l r out, PlacedSays p r out, FreshSays f r out   these numbers are returned and stand in out
--   LevelSaid a r out, PlaceSaid a r out, StartSaid a r out      the same of an answer of the call
use Rattle.std.specs.Prelude.{ℕ, List, [], ◌∷◌}
use Rattle.blocks.specs.Level.{Leveled, level_told, LevelAnswer}
use Rattle.blocks.specs.Block.{Placed, place_told, PlaceAnswer}
use Rattle.preparing.specs.PrepTurn.{Fresh, start_told, Started}
use Rattle.telling.specs.Numbers.{Says}

-- a level or its refusal: the refusal's number is returned, or 0, and out takes level, entry
abbrev pub LeveledSays : Leveled → ℕ → List ℕ → Type 0
LeveledSays l r out = Says l.number (l.level ∷ l.entry ∷ []) r out

-- what a level call answered, as the number returned and out tell it
abbrev pub LevelSaid : LevelAnswer → ℕ → List ℕ → Type 0
LevelSaid a r out = LeveledSays (level_told a) r out

-- a block's place or its refusal: the refusal's number is returned, or 0, and out takes first place, how many numbers, entry
abbrev pub PlacedSays : Placed → ℕ → List ℕ → Type 0
PlacedSays p r out = Says p.number (p.first ∷ p.count ∷ p.entry ∷ []) r out

-- what the call for a block's place answered, as the number returned and out tell it
abbrev pub PlaceSaid : PlaceAnswer → ℕ → List ℕ → Type 0
PlaceSaid a r out = PlacedSays (place_told a) r out

-- a fresh state or its refusal: the refusal's number is returned, or 0, and out takes the next entry t
abbrev pub FreshSays : Fresh → ℕ → List ℕ → Type 0
FreshSays f r out = Says f.number (f.next ∷ []) r out

-- what the start call answered, as the number returned and out tell it
abbrev pub StartSaid : Started → ℕ → List ℕ → Type 0
StartSaid a r out = FreshSays (start_told a) r out
