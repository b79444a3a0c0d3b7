-- A tag list read from its front: it is one whole tree exactly if its nesting is right.
--   tree_nested, nested_tree   the tag lists of trees are just these lists
use Rattle.std.specs.Prelude.{ℕ, zero, suc, ◌≡◌, refl, List, [], ◌∷◌, ◌++◌, length}
use Rattle.std.proofs.Common.{ap, append_assoc, arith}
use Rattle.std.proofs.Math.Option.{Option, some}
use Rattle.trees.specs.Tree.{Forest, elem, Tree}
use Rattle.trees.specs.Tags.{Tag, opens, closes, tags_of, tree_tags, opened, closed, rows_of, one_tree, tree_of, Nested, WholeTags}
use Rattle.trees.specs.TagLaws.{read_tags}

-- ---- a tree's tag list is nested

nested_row : (f : Forest) (d : ℕ) (l : List Tag) → Nested (suc d) l → Nested (suc d) (tags_of f ++ l)
unfolding tags_of
nested_row Forest.none d l h = h
nested_row (elem a k r) d l h =
    rw (append_assoc (tags_of k) (closes ∷ tags_of r) l) (nested_row k (suc d) (closes ∷ (tags_of r ++ l)) (nested_row r d l h))

pub tree_nested : (t : Tree) → WholeTags (tree_tags t)
unfolding tags_of
tree_nested t = nested_row t.below 0 (closes ∷ []) tt

-- ---- a nested list is a tree's tag list

-- it holds d rows and then nothing
record Held (d : ℕ) (l : List Tag) : Type 0 where
  rows : List Forest
  many : length rows ≡ d
  holds : rows_of l ≡ some (rows ++ (Forest.none ∷ []))

held_open : (a d : ℕ) (l : List Tag) → Held (suc (suc d)) l → Held (suc d) (opens a ∷ l)
unfolding rows_of opened
held_open a d l h = go h.rows h.many h.holds
  where
    go : (rows : List Forest) → length rows ≡ suc (suc d) → rows_of l ≡ some (rows ++ (Forest.none ∷ [])) → Held (suc d) (opens a ∷ l)
    go [] n e = absurd (omega arith)
    go (k ∷ []) n e = absurd (omega arith)
    go (k ∷ (r ∷ u)) n e = record { rows = elem a k r ∷ u; many = omega arith; holds = ap (opened a) e }

held_close : (d : ℕ) (l : List Tag) → Held d l → Held (suc d) (closes ∷ l)
unfolding rows_of closed
held_close d l h = go h.rows h.many h.holds
  where
    go : (rows : List Forest) → length rows ≡ d → rows_of l ≡ some (rows ++ (Forest.none ∷ [])) → Held (suc d) (closes ∷ l)
    go [] n e = record { rows = Forest.none ∷ []; many = omega arith; holds = ap closed e }
    go (k ∷ u) n e = record { rows = Forest.none ∷ (k ∷ u); many = omega arith; holds = ap closed e }

held : (d : ℕ) (l : List Tag) → Nested d l → Held d l
unfolding rows_of
held zero [] h = record { rows = []; many = refl; holds = refl }
held zero (x ∷ l) h = absurd h
held (suc d) [] h = absurd h
held (suc d) (opens a ∷ l) h = held_open a d l (held (suc (suc d)) l h)
held (suc d) (closes ∷ l) h = held_close d l (held d l h)

pub nested_tree : (l : List Tag) → WholeTags l → (t : Tree) × (tree_tags t ≡ l)
unfolding tree_of rows_of opened one_tree
nested_tree [] h = absurd h
nested_tree (opens a ∷ l) h = go s.rows s.many s.holds
  where
    s : Held 1 l
    s = held 1 l h

    go : (rows : List Forest) → length rows ≡ 1 → rows_of l ≡ some (rows ++ (Forest.none ∷ [])) → (t : Tree) × (tree_tags t ≡ opens a ∷ l)
    go [] n e = absurd (omega arith)
    go (k ∷ []) n e =
        let t : Tree = record { name = a; below = k } in
        (t, read_tags (opens a ∷ l) t (ap (λ (x : Option (List Forest)). one_tree (opened a x)) e))
    go (k ∷ (r ∷ u)) n e = absurd (omega arith)
nested_tree (closes ∷ l) h = absurd h
