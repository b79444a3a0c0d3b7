-- The level of an entry.
--   Leveled, level_told a    a level call's answer in numbers
--   level_within s i         what is answered once the check has accepted
--   level_answer s i         what is answered
--   LevelPromise s i r      r says just that
use Rattle.std.specs.Prelude.{ℕ, ◌≡◌, List, Ok, Err, Result}
use Rattle.turns.specs.Pick.{pick}
use Rattle.trees.specs.Signature.{entries_of, width, entries}
use Rattle.xpath.specs.Axes.{level_of}
use Rattle.blocks.specs.Checked.{after_check, is_rank}
use Rattle.terms.specs.declared.Refusal.{Refusal}

-- whether it refused (0: it worked), the refusal's number, the level, and the entry that the refusal names
pub record Leveled : Type 0 where
  pub refused : ℕ
  pub number : ℕ
  pub level : ℕ
  pub entry : ℕ

-- a call that worked, and a call that refused
abbrev pub level_worked : ℕ → Leveled
level_worked l = record { refused = 0; number = 0; level = l; entry = 0 }

-- "A refused single call returns its number and 0 for every other number [..]; 3 to 6 from the check also name the entry."
abbrev pub level_refused : ℕ → ℕ → Leveled
level_refused number entry = record { refused = 1; number = number; level = 0; entry = entry }

-- the level of an entry, or why it is refused
abbrev pub LevelAnswer : Type 0
LevelAnswer = Result ℕ Refusal

-- what a level call answers
abbrev pub level_told : LevelAnswer → Leveled
level_told (Ok l) = level_worked l
level_told (Err r) = level_refused r.number r.entry.0

-- "The level of an entry is the number of its ancestors.", and 8 for "an entry rank of 0 or over n"
unfoldable pub level_within : List ℕ → ℕ → Leveled
level_within s i =
    pick (is_rank (entries s) i) (level_worked (level_of (entries s) (entries_of width s).fa i)) (level_refused 8 0)

-- the whole call
abbrev pub level_answer : List ℕ → ℕ → Leveled
level_answer s i = after_check s level_refused (level_within s i)

-- the promise of the level call
abbrev pub LevelPromise : List ℕ → ℕ → LevelAnswer → Type 0
LevelPromise s i r = level_told r ≡ level_answer s i
