-- The two ranks of an element are its places in the two orders, each from 1 to the number of elements, each once.
--   opening_length, closing_length   both orders have every element
--   pre_place, post_place            pre and post are the places of an element in the two orders
--   pre_low, pre_high, post_low, post_high   they are from 1 to the size
--   pre_injective, post_injective    no two elements share a rank
--   node_at, closed_at               each number from 1 to the size is the pre rank of one element, and the post rank of one
--   opening_once, closing_once       an element stands in each order at no other place
use Rattle.std.specs.Prelude.{ℕ, ◌+◌, ◌-◌, ◌≤◌, ◌<◌, ◌≡◌, refl, ◌∷◌, map, length}
use Rattle.std.proofs.Common.{ap, ◌∙◌, sym, ⊎_elim, arith, length-append}
use Rattle.std.proofs.lemmas.List.{length-map}
use Rattle.trees.specs.Tree.{Forest, none, elem, size}
use Rattle.trees.specs.Nodes.{Node, here, under, beside, opening, closing, Place, first, next}
use Rattle.trees.specs.Ranks.{pre, post}
use Rattle.trees.specs.Order.{lt_or_ge}
use Rattle.trees.specs.Places.{place_low, place_high, place_map, place_left, place_right, place_at, place_unique}

-- ---- both orders have every element

pub opening_length : (f : Forest) → length (opening f) ≡ size f
unfolding opening
opening_length none = refl
opening_length (elem a k r) = simp (length-append, length-map) (omega (arith, opening_length k, opening_length r))

pub closing_length : (f : Forest) → length (closing f) ≡ size f
unfolding closing
closing_length none = refl
closing_length (elem a k r) = simp (length-append, length-map) (omega (arith, closing_length k, closing_length r))

-- ---- pre and post are the places of an element in them

pub pre_place : {f : Forest} (x : Node f) → Place (opening f) (pre x) x
unfolding opening pre
pre_place here = first
pre_place (under {below = k} {after = r} x) =
    place_at (1 + pre x) (omega arith) (next (place_left (map beside (opening r)) (place_map under (pre_place x))))
pre_place (beside {a = a} {below = k} {after = r} x) =
    place_at (1 + size k + pre x) (omega (arith, length-map (opening k) (under {a = a} {after = r}), opening_length k))
    (next (place_right (map under (opening k)) (place_map beside (pre_place x))))

pub post_place : {f : Forest} (x : Node f) → Place (closing f) (post x) x
unfolding closing post
post_place (here {a = a} {below = k} {after = r}) =
    place_at (size k + 1) (omega (arith, length-map (closing k) (under {a = a} {after = r}), closing_length k))
    (place_right (map under (closing k)) first)
post_place (under {below = k} {after = r} x) = place_left (here ∷ map beside (closing r)) (place_map under (post_place x))
post_place (beside {a = a} {below = k} {after = r} x) =
    place_at (size k + 1 + post x) (omega (arith, length-map (closing k) (under {a = a} {after = r}), closing_length k))
    (place_right (map under (closing k)) (next (place_map beside (post_place x))))

-- ---- from 1 to the size

pub pre_low : {f : Forest} (x : Node f) → 1 ≤ pre x
pre_low x = place_low (pre_place x)

pub pre_high : {f : Forest} (x : Node f) → pre x ≤ size f
pre_high {f} x = omega (arith, place_high (pre_place x), opening_length f)

pub post_low : {f : Forest} (x : Node f) → 1 ≤ post x
post_low x = place_low (post_place x)

pub post_high : {f : Forest} (x : Node f) → post x ≤ size f
post_high {f} x = omega (arith, place_high (post_place x), closing_length f)

-- ---- no two elements share a rank

pub pre_injective : {f : Forest} (x y : Node f) → pre x ≡ pre y → x ≡ y
pre_injective x y e = place_unique (pre_place x) (place_at (pre x) (sym e) (pre_place y))

pub post_injective : {f : Forest} (x y : Node f) → post x ≡ post y → x ≡ y
post_injective x y e = place_unique (post_place x) (place_at (post x) (sym e) (post_place y))

-- ---- each number from 1 to the size is a rank

pub node_at : {f : Forest} (i : ℕ) → 1 ≤ i → i ≤ size f → (x : Node f) × (pre x ≡ i)
unfolding pre
node_at {f = none} i l h = absurd (omega arith)
node_at {f = elem a k r} i l h =
    ⊎_elim (λ (q : i < 2). (here, omega arith))
    (λ (q : 2 ≤ i). ⊎_elim
    (λ (p : i < size k + 2). let s = node_at {f = k} (i - 1) (omega arith) (omega arith) in (under s.0, omega (arith, s.1)))
    (λ (p : size k + 2 ≤ i).
    let s = node_at {f = r} (i - (1 + size k)) (omega arith) (omega arith) in
    (beside s.0, omega (arith, s.1)))
    (lt_or_ge i (size k + 2)))
    (lt_or_ge i 2)

pub closed_at : {f : Forest} (i : ℕ) → 1 ≤ i → i ≤ size f → (x : Node f) × (post x ≡ i)
unfolding post
closed_at {f = none} i l h = absurd (omega arith)
closed_at {f = elem a k r} i l h =
    ⊎_elim (λ (q : i < size k + 1). let s = closed_at {f = k} i l (omega arith) in (under s.0, s.1))
    (λ (q : size k + 1 ≤ i). ⊎_elim
    (λ (p : i < size k + 2). (here, omega arith))
    (λ (p : size k + 2 ≤ i).
    let s = closed_at {f = r} (i - (1 + size k)) (omega arith) (omega arith) in
    (beside s.0, omega (arith, s.1)))
    (lt_or_ge i (size k + 2)))
    (lt_or_ge i (size k + 1))

-- ---- each element stands in each order once

pub opening_once : {f : Forest} {i : ℕ} {x : Node f} → Place (opening f) i x → i ≡ pre x
opening_once {f} {i} {x} p =
    let s = node_at {f = f} i (place_low p) (omega (arith, place_high p, opening_length f)) in
    sym s.1 ∙ ap pre (place_unique (place_at i s.1 (pre_place s.0)) p)

pub closing_once : {f : Forest} {i : ℕ} {x : Node f} → Place (closing f) i x → i ≡ post x
closing_once {f} {i} {x} p =
    let s = closed_at {f = f} i (place_low p) (omega (arith, place_high p, closing_length f)) in
    sym s.1 ∙ ap post (place_unique (place_at i s.1 (post_place s.0)) p)
