-- The block of an entry.
--   Placed, place_told a       where a block lies, in numbers, or the refusal
--   place_within s i           what is answered once the check has accepted
--   place_answer s i           what is answered
--   PlacePromise s i r        r says just that
--   part_at s p                the part of the numbers that lies there
--   BlockPromise s i r        r is the part itself; refused, it is empty
use Rattle.std.specs.Prelude.{ℕ, ◌*◌, ◌-◌, ◌≡◌, List, take, drop, Ok, Err, Result}
use Rattle.turns.specs.Pick.{pick}
use Rattle.trees.specs.Signature.{entries_of, width, entries}
use Rattle.blocks.specs.Checked.{after_check, is_rank}
use Rattle.terms.specs.declared.Refusal.{Refusal}

-- whether it refused (0: it worked), the refusal's number, the place of the first number from 0, how many numbers, and the entry that the refusal names
pub record Placed : Type 0 where
  pub refused : ℕ
  pub number : ℕ
  pub first : ℕ
  pub count : ℕ
  pub entry : ℕ

-- a call that worked, and a call that refused
abbrev pub place_worked : ℕ → ℕ → Placed
place_worked first count = record { refused = 0; number = 0; first = first; count = count; entry = 0 }

-- "A refused single call returns its number and 0 for every other number [..]; 3 to 6 from the check also name the entry."
abbrev pub place_refused : ℕ → ℕ → Placed
place_refused number entry = record { refused = 1; number = number; first = 0; count = 0; entry = entry }

-- where a block lies: the place of its first number, counted from 0, and how many numbers it has; or why it is refused
abbrev pub PlaceAnswer : Type 0
PlaceAnswer = Result (ℕ × ℕ) Refusal

-- what a call for a block's place answers
abbrev pub place_told : PlaceAnswer → Placed
place_told (Ok (first, count)) = place_worked first count
place_told (Err r) = place_refused r.number r.entry.0

-- "entries i to ff−1"
abbrev pub block_place : List ℕ → ℕ → Placed
block_place s i = place_worked (width * (i - 1)) (width * ((entries_of width s).ff i - i))

-- and 8 for "an entry rank of 0 or over n"
unfoldable pub place_within : List ℕ → ℕ → Placed
place_within s i = pick (is_rank (entries s) i) (block_place s i) (place_refused 8 0)

-- the whole call
abbrev pub place_answer : List ℕ → ℕ → Placed
place_answer s i = after_check s place_refused (place_within s i)

-- the promise of the call for a block's place
abbrev pub PlacePromise : List ℕ → ℕ → PlaceAnswer → Type 0
PlacePromise s i r = place_told r ≡ place_answer s i

-- "hands back that part of the lent numbers"
abbrev pub part_at : List ℕ → Placed → List ℕ
part_at s p = take p.count (drop p.first s)

-- "When it refuses, the part is empty."
abbrev pub BlockPromise : List ℕ → ℕ → List ℕ → Type 0
BlockPromise s i r = r ≡ part_at s (place_answer s i)
