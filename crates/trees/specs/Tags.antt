-- Marked records: the tag list of a tree, and the tree of a tag list.
--   Tag, opens a, closes   one record of a tag list: an element named a opens, or the innermost one closes
--   tags_of f               the tags of a row
--   tree_tags t             the tag list of a tree
--   rows_of l               what a tag list holds, read from its end
--   tree_of l               the tree of a tag list, if it is one whole tree
--   Nested d l             from d open elements on, l leaves none open, at its last tag and not before
--   WholeTags l            l opens a root, and its nesting is right to the end
use Rattle.std.specs.Prelude.{ℕ, zero, suc, List, [], ◌∷◌, ◌++◌}
use Rattle.std.proofs.Math.Option.{Option, none, some}
use Rattle.trees.specs.Tree.{Forest, elem, Tree, whole}

-- "`OP` and a name opens an element and `CL` closes the innermost one"
pub data Tag : Type 0 where
  opens : (name : ℕ) → Tag
  closes : Tag

-- each element opens, then all below it opens and closes, then it closes
unfoldable pub tags_of : Forest → List Tag
tags_of Forest.none = []
tags_of (elem a below after) = opens a ∷ (tags_of below ++ closes ∷ tags_of after)

-- "A tag list is one whole tree."
abbrev pub tree_tags : Tree → List Tag
tree_tags t = tags_of (whole t)

-- an element opens before what is read already: its children are the first row, what comes after it is the second
unfoldable pub opened : ℕ → Option (List Forest) → Option (List Forest)
opened a none = none
opened a (some []) = none
opened a (some (below ∷ [])) = none
opened a (some (below ∷ (after ∷ outer))) = some (elem a below after ∷ outer)

-- an element closes before what is read already: the row of its children is empty so far
unfoldable pub closed : Option (List Forest) → Option (List Forest)
closed none = none
closed (some []) = none
closed (some (after ∷ outer)) = some (Forest.none ∷ (after ∷ outer))

-- the rows that a tag list holds: that before the first close without its open, that before the next one, and so on, the last to the end;
-- nothing, where an open has no close
unfoldable pub rows_of : List Tag → Option (List Forest)
rows_of [] = some (Forest.none ∷ [])
rows_of (opens a ∷ l) = opened a (rows_of l)
rows_of (closes ∷ l) = closed (rows_of l)

-- one row of one element is a tree
unfoldable pub one_tree : Option (List Forest) → Option Tree
one_tree none = none
one_tree (some []) = none
one_tree (some (Forest.none ∷ outer)) = none
one_tree (some (elem a below Forest.none ∷ [])) = some (record { name = a; below = below })
one_tree (some (elem a below Forest.none ∷ (f ∷ outer))) = none
one_tree (some (elem a below (elem b c d) ∷ outer)) = none

-- the tree of a tag list
unfoldable pub tree_of : List Tag → Option Tree
tree_of l = one_tree (rows_of l)

-- read from the front: no "record after the root closed, or an element open at the end"
abbrev pub Nested : ℕ → List Tag → Type 0
Nested zero [] = Unit {0}
Nested zero (x ∷ l) = ⊥
Nested (suc d) [] = ⊥
Nested (suc d) (opens a ∷ l) = Nested (suc (suc d)) l
Nested (suc d) (closes ∷ l) = Nested d l

-- and no "close with nothing open"
abbrev pub WholeTags : List Tag → Type 0
WholeTags [] = ⊥
WholeTags (opens a ∷ l) = Nested 1 l
WholeTags (closes ∷ l) = ⊥
