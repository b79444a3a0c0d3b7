-- What the readers of tag lists promise: which tree stands in the bytes is said by `tag_scan/specs/TagLists`.
--   tags_left, TagsPromise  one whole tag list
--   TreePromise            one tree from a place on
--   ReadTold, read_told     what reading a tree answers, in numbers
use Rattle.std.specs.Prelude.{ℕ, ◌≡◌, Bool, true, false, List, eqb, Ok, Err, Result}
use Rattle.turns.specs.Pick.{pick}
use Rattle.terms.specs.Kinds.{any_name, most}
use Rattle.terms.specs.Stops.{Answered, worked, refused_as, Written}
use Rattle.terms.specs.declared.Kind.{Kind}
use Rattle.bytes_read.specs.Scans.{halt_number}
use Rattle.terms.specs.Room.{Left, left_by, Leaves}
use Rattle.tag_scan.specs.TagLists.{tree_scan, numbers_in}
use Rattle.terms.specs.declared.Refusal.{Refusal}

-- what reading one whole tag list answers and leaves
abbrev pub tags_left : Kind → List ℕ → List ℕ → Left
tags_left k b room =
    left_by (halt_number (tree_scan true (any_name k) (most k) b 0).halt) 0 (numbers_in b 0 (tree_scan true (any_name k) (most k) b 0).state.count) room

-- the promise of reading one whole tag list
abbrev pub TagsPromise : Kind → List ℕ → List ℕ → Written → List ℕ → Type 0
TagsPromise k b room w after = Leaves (tags_left k b room) w after

-- a reading in numbers: what a call that writes into lent room answers, and the place where the tree ended, 0 at a refusal
pub record ReadTold : Type 0 where
  pub answer : Answered
  pub end : ℕ

-- what reading one tree from a place on answers: how many numbers it wrote and the place after the close of the root, or the refusal
abbrev pub TreeRead : Type 0
TreeRead = Result (ℕ × ℕ) Refusal

-- what a reading of one tree answers, in numbers
abbrev pub read_told : TreeRead → ReadTold
read_told (Ok (l, end)) = record { answer = worked l; end = end }
read_told (Err r) = record { answer = refused_as r.number r.entry.0; end = 0 }

-- what a reading answers and leaves
pub record ReadLeft (number end : ℕ) (result room : List ℕ) (r : TreeRead) (after : List ℕ) : Type 0 where
  pub told : (read_told r).answer ≡ (left_by number 0 result room).answer
  pub ended : (read_told r).end ≡ pick (eqb (left_by number 0 result room).answer.refused 0) end 0
  pub left : after ≡ (left_by number 0 result room).room

-- one whole reading: of the bytes from place p on, to their end or to the close of the root
abbrev pub ReadingPromise : Bool → Kind → List ℕ → ℕ → List ℕ → TreeRead → List ℕ → Type 0
ReadingPromise whole k b p room r after =
    ReadLeft (halt_number (tree_scan whole (any_name k) (most k) b p).halt) (tree_scan whole (any_name k) (most k) b p).state.at
    (numbers_in b p (tree_scan whole (any_name k) (most k) b p).state.count) room r after

-- the promise of reading one tree from a place on
abbrev pub TreePromise : Kind → List ℕ → ℕ → List ℕ → TreeRead → List ℕ → Type 0
TreePromise k b p room r after = ReadingPromise false k b p room r after
