-- From a signature back to its tag list.
--   row_from e k i j       the row of the entries from i up to, not including, j, in at most k steps
--   tree_in s              the tree that a signature tells
--   back_bytes s           the bytes of its tag list
--   BackPromise           the promise of the call: the whole check, then room
--   ends_at s next top     the innermost open element ends before the next entry
use Rattle.std.specs.Prelude.{ℕ, zero, suc, ◌+◌, Bool, ◌&&◌, List, ltb, eqb}
use Rattle.turns.specs.Pick.{pick}
use Rattle.trees.specs.Tree.{Forest, none, elem, Tree}
use Rattle.trees.specs.Signature.{Entries, cell, entries_of, width, entries}
use Rattle.trees.specs.Tags.{tree_tags}
use Rattle.checking.specs.Whole.{whole_of}
use Rattle.terms.specs.declared.Kind.{Kind}
use Rattle.terms.specs.Room.{Left, refused_left, left_by, Leaves}
use Rattle.tag_scan.specs.TagLists.{tag_bytes}
use Rattle.terms.specs.Stops.{Written}

-- an entry's block is what is below it, and the row goes on where the block ends
unfoldable pub row_from : Entries → ℕ → ℕ → ℕ → Forest
row_from e zero i j = none
row_from e (suc k) i j = pick (ltb i j) (elem (e.name i) (row_from e k (i + 1) (e.ff i)) (row_from e k (e.ff i) j)) none

-- the root is entry 1
abbrev pub tree_in : List ℕ → Tree
tree_in s = record {
  name = cell width s 1 0;
  below = row_from (entries_of width s) (entries s) 2 (cell width s 1 2);
}

-- "back to bytes"
abbrev pub back_bytes : List ℕ → List ℕ
back_bytes s = tag_bytes (tree_tags (tree_in s))

-- "back-to-tag-list calls check the whole signature first"; then room
unfoldable pub back_left : Kind → List ℕ → List ℕ → Left
back_left k s room =
    pick (eqb (whole_of k s).reason 1) (left_by 0 0 (back_bytes s) room)
    (refused_left room (whole_of k s).number (whole_of k s).entry)

-- the promise of writing a signature as a tag list
abbrev pub BackPromise : Kind → List ℕ → List ℕ → Written → List ℕ → Type 0
BackPromise k s room w after = Leaves (back_left k s room) w after

-- ---- one tag

-- the innermost open element ends where the next one begins
unfoldable pub ends_at : List ℕ → ℕ → ℕ → Bool
ends_at s next top = ltb 0 top && eqb (cell width s top 2) next
