-- The tag list of a tree is read back as that tree, and every list that is read as a tree is that tree's tag list.
--   tags_length          two tags for each element
--   tags_read            the tree of a tree's tag list is the tree
--   read_tags            a list whose tree is t is the tag list of t
--   tags_unique          two trees with one tag list are one tree
use Rattle.std.specs.Prelude.{ℕ, ◌*◌, ◌≡◌, refl, List, [], ◌∷◌, ◌++◌, length}
use Rattle.std.proofs.Common.{ap, sym, ◌∙◌, append_assoc, append-nil, arith, length-append}
use Rattle.std.proofs.Math.Option.{Option, none, some}
use Rattle.trees.specs.Tree.{Forest, elem, size, Tree, whole}
use Rattle.trees.specs.Tags.{Tag, opens, closes, tags_of, tree_tags, opened, closed, rows_of, one_tree, tree_of}

pub tags_length : (f : Forest) → length (tags_of f) ≡ 2 * size f
unfolding tags_of
tags_length Forest.none = refl
tags_length (elem a k r) = simp length-append (omega (arith, tags_length k, tags_length r))

-- ---- reading what was written

-- f, and after it g
abbrev beside : Forest → Forest → Forest
beside Forest.none g = g
beside (elem a k r) g = elem a k (beside r g)

beside_none : (f : Forest) → beside f Forest.none ≡ f
beside_none Forest.none = refl
beside_none (elem a k r) = ap (elem a k) (beside_none r)

-- whatever follows it
rows_tags : (f r : Forest) (outer : List Forest) (l : List Tag) → rows_of l ≡ some (r ∷ outer)
    → rows_of (tags_of f ++ l) ≡ some (beside f r ∷ outer)
unfolding tags_of rows_of opened closed
rows_tags Forest.none r outer l e = e
rows_tags (elem a k q) r outer l e =
    ap (opened a) (ap rows_of (append_assoc (tags_of k) (closes ∷ tags_of q) l)
    ∙ rows_tags k Forest.none (beside q r ∷ outer) (closes ∷ (tags_of q ++ l)) (ap closed (rows_tags q r outer l e)))
    ∙ ap (λ (x : Forest). some (elem a x (beside q r) ∷ outer)) (beside_none k)

pub rows_read : (f : Forest) → rows_of (tags_of f) ≡ some (f ∷ [])
unfolding rows_of
rows_read f =
    ap rows_of (sym (append-nil (tags_of f))) ∙ rows_tags f Forest.none [] [] refl ∙ ap (λ (x : Forest). some (x ∷ [])) (beside_none f)

pub tags_read : (t : Tree) → tree_of (tree_tags t) ≡ some t
unfolding tree_of one_tree
tags_read t = ap one_tree (rows_read (whole t))

pub tags_unique : (t u : Tree) → tree_tags t ≡ tree_tags u → t ≡ u
tags_unique t u e = let s : some t ≡ some u = sym (tags_read t) ∙ ap tree_of e ∙ tags_read u in cc

-- ---- what was read is what stood there

-- the tags of rows with a close between each two
unfoldable spread : List Forest → List Tag
spread [] = []
spread (f ∷ []) = tags_of f
spread (f ∷ (g ∷ outer)) = tags_of f ++ closes ∷ spread (g ∷ outer)

spread_elem : (a : ℕ) (k r : Forest) (outer : List Forest)
    → spread (elem a k r ∷ outer) ≡ opens a ∷ (tags_of k ++ closes ∷ spread (r ∷ outer))
unfolding spread tags_of
spread_elem a k r [] = refl
spread_elem a k r (g ∷ outer) = ap (opens a ∷◌) (append_assoc (tags_of k) (closes ∷ tags_of r) (closes ∷ spread (g ∷ outer)))

spread_close : (s : List Forest) (l : List Tag) (o : Option (List Forest)) → ((u : List Forest) → o ≡ some u → spread u ≡ l)
    → closed o ≡ some s → spread s ≡ closes ∷ l
unfolding spread tags_of closed
spread_close s l none ih e = let z : ◌≡◌ {A = ℕ} 0 1 = cc in absurd (omega arith)
spread_close s l (some []) ih e = let z : ◌≡◌ {A = ℕ} 0 1 = cc in absurd (omega arith)
spread_close s l (some (f ∷ u)) ih e = let q : s ≡ Forest.none ∷ (f ∷ u) = cc in rw q (ap (closes ∷◌) (ih (f ∷ u) refl))

spread_open : (a : ℕ) (s : List Forest) (l : List Tag) (o : Option (List Forest)) → ((u : List Forest) → o ≡ some u → spread u ≡ l)
    → opened a o ≡ some s → spread s ≡ opens a ∷ l
unfolding spread tags_of opened
spread_open a s l none ih e = let z : ◌≡◌ {A = ℕ} 0 1 = cc in absurd (omega arith)
spread_open a s l (some []) ih e = let z : ◌≡◌ {A = ℕ} 0 1 = cc in absurd (omega arith)
spread_open a s l (some (k ∷ [])) ih e = let z : ◌≡◌ {A = ℕ} 0 1 = cc in absurd (omega arith)
spread_open a s l (some (k ∷ (r ∷ u))) ih e =
    let q : s ≡ elem a k r ∷ u = cc in
    rw q (spread_elem a k r u ∙ ap (opens a ∷◌) (ih (k ∷ (r ∷ u)) refl))

rows_spread : (l : List Tag) (s : List Forest) → rows_of l ≡ some s → spread s ≡ l
unfolding rows_of spread tags_of
rows_spread [] s e = let q : s ≡ Forest.none ∷ [] = cc in rw q
rows_spread (opens a ∷ l) s e = spread_open a s l (rows_of l) (λ u k. rows_spread l u k) e
rows_spread (closes ∷ l) s e = spread_close s l (rows_of l) (λ u k. rows_spread l u k) e

tree_spread : (l : List Tag) (t : Tree) (o : Option (List Forest)) → ((s : List Forest) → o ≡ some s → spread s ≡ l)
    → one_tree o ≡ some t → tree_tags t ≡ l
unfolding one_tree spread
tree_spread l t none ih e = let z : ◌≡◌ {A = ℕ} 0 1 = cc in absurd (omega arith)
tree_spread l t (some []) ih e = let z : ◌≡◌ {A = ℕ} 0 1 = cc in absurd (omega arith)
tree_spread l t (some (Forest.none ∷ s)) ih e = let z : ◌≡◌ {A = ℕ} 0 1 = cc in absurd (omega arith)
tree_spread l t (some (elem a k Forest.none ∷ [])) ih e =
    let q : t ≡ record { name = a; below = k } = cc in rw q (ih (elem a k Forest.none ∷ []) refl)
tree_spread l t (some (elem a k Forest.none ∷ (f ∷ s))) ih e = let z : ◌≡◌ {A = ℕ} 0 1 = cc in absurd (omega arith)
tree_spread l t (some (elem a k (elem b d r) ∷ s)) ih e = let z : ◌≡◌ {A = ℕ} 0 1 = cc in absurd (omega arith)

pub read_tags : (l : List Tag) (t : Tree) → tree_of l ≡ some t → tree_tags t ≡ l
unfolding tree_of
read_tags l t e = tree_spread l t (rows_of l) (rows_spread l) e
