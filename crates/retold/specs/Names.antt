-- The names of a tag list are those of its tree.
--   TagNames any l        each name that l opens is allowed
--   names_append          those of a list made of two
--   names_row, row_names  the names of a row's tags are the names of the row
--   opens_in l             how many elements l opens
use Rattle.std.specs.Prelude.{ℕ, suc, ◌+◌, ◌≡◌, refl, Bool, List, [], ◌∷◌, ◌++◌}
use Rattle.std.proofs.Common.{arith}
use Rattle.trees.specs.Tree.{Forest, none, elem, size, Allowed, Named}
use Rattle.trees.specs.Tags.{Tag, opens, closes, tags_of}

-- each name is allowed
abbrev pub TagNames : Bool → List Tag → Type 0
TagNames any [] = Unit {0}
TagNames any (opens a ∷ l) = Allowed any a × TagNames any l
TagNames any (closes ∷ l) = TagNames any l

-- how many elements a list of tags opens
abbrev pub opens_in : List Tag → ℕ
opens_in [] = 0
opens_in (opens a ∷ l) = suc (opens_in l)
opens_in (closes ∷ l) = opens_in l

opens_append : (l m : List Tag) → opens_in (l ++ m) ≡ opens_in l + opens_in m
opens_append [] m = omega arith
opens_append (opens a ∷ l) m = omega (arith, opens_append l m)
opens_append (closes ∷ l) m = opens_append l m

pub opens_row : (f : Forest) → opens_in (tags_of f) ≡ size f
unfolding tags_of
opens_row none = refl
opens_row (elem a k r) = omega (arith, opens_append (tags_of k) (closes ∷ tags_of r), opens_row k, opens_row r)

module _ (any : Bool) where
  pub names_append : (l m : List Tag) → TagNames any l → TagNames any m → TagNames any (l ++ m)
  names_append [] m h g = g
  names_append (opens a ∷ l) m h g = (h.0, names_append l m h.1 g)
  names_append (closes ∷ l) m h g = names_append l m h g

  names_first : (l m : List Tag) → TagNames any (l ++ m) → TagNames any l × TagNames any m
  names_first [] m h = (tt, h)
  names_first (opens a ∷ l) m h = let s = names_first l m h.1 in ((h.0, s.0), s.1)
  names_first (closes ∷ l) m h = names_first l m h

  pub row_names : (f : Forest) → Named any f → TagNames any (tags_of f)
  unfolding tags_of
  row_names none h = tt
  row_names (elem a k r) h = (h.0, names_append (tags_of k) (closes ∷ tags_of r) (row_names k h.1) (row_names r h.2))

  pub names_row : (f : Forest) → TagNames any (tags_of f) → Named any f
  unfolding tags_of
  names_row none h = tt
  names_row (elem a k r) h =
      let s = names_first (tags_of k) (closes ∷ tags_of r) h.1 in
      (h.0, names_row k s.0, names_row r s.1)
