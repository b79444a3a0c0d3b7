-- The ancestors of an element are the elements that it is below.
--   parent_below, parent_unique   a parent's child is below it; an element has one parent at most
--   top_or_parent, top_no_parent  an element is in the outermost row, or has a parent, and not both
--   ancestor_below, below_ancestor   x is an ancestor of y exactly if y is below x
--   ancestors_sound, ancestors_complete   the list of ancestors has just these
--   ancestors_nested, ancestors_once      outermost first, each once
use Rattle.std.specs.Prelude.{ℕ, suc, ◌≤◌, ◌<◌, ◌≡◌, refl, ◌⊎◌, map}
use Rattle.std.proofs.Common.{ap, sym, inl, inr, ⊎_elim, arith, eq-or-lt_of_le}
use mathlib.Core.List.Memᴰ
use mathlib.Core.List.{Memᴰ}
use Rattle.trees.specs.Tree.{Forest, elem}
use Rattle.trees.specs.Nodes.{Node, here, under, beside, Below, Top, Parent, Ancestor, parent, above, ancestors, Place}
use Rattle.trees.specs.NodeOrder.{below_trans, below_irreflexive}
use Rattle.trees.specs.Order.{lt_or_ge}
use Rattle.trees.specs.Places.{place_low, place_high, place_cons, place_of_map}

-- ---- parents

pub top_no_parent : {f : Forest} (x y : Node f) → Top y → Parent x y → ⊥
top_no_parent here here t p = p
top_no_parent here (under y) t p = t
top_no_parent here (beside y) t p = p
top_no_parent (under x) here t p = p
top_no_parent (under x) (under y) t p = t
top_no_parent (under x) (beside y) t p = p
top_no_parent (beside x) here t p = p
top_no_parent (beside x) (under y) t p = p
top_no_parent (beside x) (beside y) t p = top_no_parent x y t p

pub top_or_parent : {f : Forest} (y : Node f) → Top y ⊎ ((x : Node f) × Parent x y)
top_or_parent here = inl tt
top_or_parent (under y) =
    ⊎_elim (λ (t : Top y). inr (here, t)) (λ (s : (x : Node _) × Parent x y). inr (under s.0, s.1)) (top_or_parent y)
top_or_parent (beside y) =
    ⊎_elim (λ (t : Top y). inl t) (λ (s : (x : Node _) × Parent x y). inr (beside s.0, s.1)) (top_or_parent y)

pub parent_unique : {f : Forest} (x y z : Node f) → Parent x z → Parent y z → x ≡ y
parent_unique here here z p q = refl
parent_unique here (under y) here p q = absurd p
parent_unique here (under y) (under z) p q = absurd (top_no_parent y z p q)
parent_unique here (under y) (beside z) p q = absurd p
parent_unique here (beside y) here p q = absurd p
parent_unique here (beside y) (under z) p q = absurd q
parent_unique here (beside y) (beside z) p q = absurd p
parent_unique (under x) here here p q = absurd p
parent_unique (under x) here (under z) p q = absurd (top_no_parent x z q p)
parent_unique (under x) here (beside z) p q = absurd p
parent_unique (under x) (under y) here p q = absurd p
parent_unique (under x) (under y) (under z) p q = ap under (parent_unique x y z p q)
parent_unique (under x) (under y) (beside z) p q = absurd p
parent_unique (under x) (beside y) here p q = absurd p
parent_unique (under x) (beside y) (under z) p q = absurd q
parent_unique (under x) (beside y) (beside z) p q = absurd p
parent_unique (beside x) here here p q = absurd p
parent_unique (beside x) here (under z) p q = absurd p
parent_unique (beside x) here (beside z) p q = absurd q
parent_unique (beside x) (under y) here p q = absurd p
parent_unique (beside x) (under y) (under z) p q = absurd p
parent_unique (beside x) (under y) (beside z) p q = absurd q
parent_unique (beside x) (beside y) here p q = absurd p
parent_unique (beside x) (beside y) (under z) p q = absurd p
parent_unique (beside x) (beside y) (beside z) p q = ap beside (parent_unique x y z p q)

pub parent_below : {f : Forest} (x y : Node f) → Parent x y → Below x y
parent_below here here p = p
parent_below here (under y) p = tt
parent_below here (beside y) p = p
parent_below (under x) here p = p
parent_below (under x) (under y) p = parent_below x y p
parent_below (under x) (beside y) p = p
parent_below (beside x) here p = p
parent_below (beside x) (under y) p = p
parent_below (beside x) (beside y) p = parent_below x y p

-- ---- ancestors

pub ancestor_below : {f : Forest} {x y : Node f} → Ancestor x y → Below x y
ancestor_below {x = x} {y = y} (parent p) = parent_below x y p
ancestor_below {x = x} (above {y = y} {z = z} a p) = below_trans x y z (ancestor_below a) (parent_below y z p)

pub ancestor_trans : {f : Forest} {x y z : Node f} → Ancestor x y → Ancestor y z → Ancestor x z
ancestor_trans a (parent p) = above a p
ancestor_trans a (above b p) = above (ancestor_trans a b) p

-- a map of elements that keeps parents keeps ancestors
ancestor_map : {f g : Forest} (h : Node f → Node g) → ((x y : Node f) → Parent x y → Parent (h x) (h y))
    → {x y : Node f} → Ancestor x y → Ancestor (h x) (h y)
ancestor_map h keeps {x = x} {y = y} (parent p) = parent (keeps x y p)
ancestor_map h keeps (above {y = y} {z = z} a p) = above (ancestor_map h keeps a) (keeps y z p)

-- the elements of a row below a, with one more child before the others
pushed : (b : ℕ) (k : Forest) {a : ℕ} {r after : Forest} → Node (elem a r after) → Node (elem a (elem b k r) after)
pushed b k here = here
pushed b k (under x) = under (beside x)
pushed b k (beside x) = beside x

pushed_parent : (b : ℕ) (k : Forest) {a : ℕ} {r after : Forest} (x y : Node (elem a r after))
    → Parent x y → Parent (pushed b k x) (pushed b k y)
unfolding pushed
pushed_parent b k here here p = p
pushed_parent b k here (under y) p = p
pushed_parent b k here (beside y) p = p
pushed_parent b k (under x) here p = p
pushed_parent b k (under x) (under y) p = p
pushed_parent b k (under x) (beside y) p = p
pushed_parent b k (beside x) here p = p
pushed_parent b k (beside x) (under y) p = p
pushed_parent b k (beside x) (beside y) p = p

-- all that stands under the first element has it as an ancestor
first_ancestor : {a : ℕ} {below after : Forest} (y : Node below) → Ancestor (here {a = a} {below = below} {after = after}) (under y)
unfolding pushed
first_ancestor here = parent tt
first_ancestor {a} {after = q} (under {a = b} {below = k} {after = r} y) =
    ancestor_trans (parent {y = under here} tt) (ancestor_map under (λ u v p. p) (first_ancestor {a = b} {after = r} y))
first_ancestor {a} {after = q} (beside {a = b} {below = k} {after = r} y) =
    ancestor_map (pushed b k) (pushed_parent b k) (first_ancestor {a = a} {after = q} y)

pub below_ancestor : {f : Forest} (x y : Node f) → Below x y → Ancestor x y
below_ancestor here here h = absurd h
below_ancestor here (under y) h = first_ancestor y
below_ancestor here (beside y) h = absurd h
below_ancestor (under x) here h = absurd h
below_ancestor (under x) (under y) h = ancestor_map under (λ u v p. p) (below_ancestor x y h)
below_ancestor (under x) (beside y) h = absurd h
below_ancestor (beside x) here h = absurd h
below_ancestor (beside x) (under y) h = absurd h
below_ancestor (beside x) (beside y) h = ancestor_map beside (λ u v p. p) (below_ancestor x y h)

-- ---- the list of ancestors

pub ancestors_sound : {f : Forest} (x y : Node f) → Memᴰ x (ancestors y) → Below x y
unfolding ancestors
ancestors_sound x here m = absurd (Memᴰ.not-nil m)
ancestors_sound x (under {after = r} y) m =
    ⊎_elim (λ (e : x ≡ here). rw e tt)
    (λ (n : Memᴰ x (map under (ancestors y))).
    let s = Memᴰ.of_map under (ancestors y) n in
    rw (← s.2) (ancestors_sound s.0 y s.1))
    (Memᴰ.cases_cons m)
ancestors_sound x (beside y) m = let s = Memᴰ.of_map beside (ancestors y) m in rw (← s.2) (ancestors_sound s.0 y s.1)

pub ancestors_complete : {f : Forest} (x y : Node f) → Below x y → Memᴰ x (ancestors y)
unfolding ancestors
ancestors_complete here here h = absurd h
ancestors_complete here (under y) h = Memᴰ.head refl
ancestors_complete here (beside y) h = absurd h
ancestors_complete (under x) here h = absurd h
ancestors_complete (under x) (under y) h = Memᴰ.tail (Memᴰ.map under (ancestors_complete x y h))
ancestors_complete (under x) (beside y) h = absurd h
ancestors_complete (beside x) here h = absurd h
ancestors_complete (beside x) (under y) h = absurd h
ancestors_complete (beside x) (beside y) h = Memᴰ.map beside (ancestors_complete x y h)

-- outermost first: of two of them the later one is below the earlier one
pub ancestors_nested : {f : Forest} {i j : ℕ} (x y z : Node f) → Place (ancestors z) i x → Place (ancestors z) j y → i < j → Below x y
unfolding ancestors
ancestors_nested x y here p q l = absurd (omega (arith, place_high p, place_low p))
ancestors_nested {i = i} {j = j} x y (under z) p q l =
    ⊎_elim (λ (c : (i ≡ 1) × (x ≡ here)). rw c.1 (here_first (place_cons q) (omega arith)))
    (λ (c : (n : ℕ) × (i ≡ suc n) × Place (map under (ancestors z)) n x). ⊎_elim
    (λ (d : (j ≡ 1) × (y ≡ here)). absurd (omega (arith, place_low p)))
    (λ (d : (n : ℕ) × (j ≡ suc n) × Place (map under (ancestors z)) n y).
    let s = place_of_map under (ancestors z) c.2 in
    let t = place_of_map under (ancestors z) d.2 in
    rw (← s.2, ← t.2) (ancestors_nested s.0 t.0 z s.1 t.1 (omega (arith, c.1, d.1))))
    (place_cons q))
    (place_cons p)
  where
    here_first : ((j ≡ 1) × (y ≡ here)) ⊎ ((n : ℕ) × (j ≡ suc n) × Place (map under (ancestors z)) n y) → 1 < j → Below here y
    here_first (inl d) g = absurd (omega arith)
    here_first (inr d) g = let t = place_of_map under (ancestors z) d.2 in rw (← t.2) tt
ancestors_nested x y (beside z) p q l =
    let s = place_of_map beside (ancestors z) p in
    let t = place_of_map beside (ancestors z) q in
    rw (← s.2, ← t.2) (ancestors_nested s.0 t.0 z s.1 t.1 l)

pub ancestors_once : {f : Forest} {i j : ℕ} (x y : Node f) → Place (ancestors y) i x → Place (ancestors y) j x → i ≡ j
ancestors_once {i = i} {j = j} x y p q =
    ⊎_elim (λ (l : i < j). absurd (below_irreflexive x (ancestors_nested x x y p q l)))
    (λ (g : j ≤ i). ⊎_elim
    (λ (e : j ≡ i). sym e)
    (λ (l : j < i). absurd (below_irreflexive x (ancestors_nested x x y q p l)))
    (eq-or-lt_of_le g))
    (lt_or_ge i j)
