-- Places in lists: the laws of Place for a list made of two, a mapped list, and one place.
--   place_low, place_high    a place is from 1 to the length
--   place_map, place_left, place_right   the places of a mapped list and of a list made of two
--   place_cons, place_of_map   what stands in such a list is one of these
--   place_at                 the same place, told by another number
--   place_unique             one element stands at a place
use Rattle.std.specs.Prelude.{ℕ, suc, ◌+◌, ◌≤◌, ◌≡◌, refl, ◌⊎◌, List, [], ◌∷◌, ◌++◌, map, length}
use Rattle.std.proofs.Common.{sym, subst, inl, inr, arith, suc-add, zero-add}
use Rattle.trees.specs.Nodes.{Place, first, next}

pub place_low : {A : Type 0} {l : List A} {i : ℕ} {x : A} → Place l i x → 1 ≤ i
place_low first = omega arith
place_low (next p) = omega arith

pub place_high : {A : Type 0} {l : List A} {i : ℕ} {x : A} → Place l i x → i ≤ length l
place_high first = omega arith
place_high (next p) = omega (arith, place_high p)

pub place_map : {A B : Type 0} (g : A → B) {l : List A} {i : ℕ} {x : A} → Place l i x → Place (map g l) i (g x)
place_map g first = first
place_map g (next p) = next (place_map g p)

pub place_left : {A : Type 0} {l : List A} {i : ℕ} {x : A} (r : List A) → Place l i x → Place (l ++ r) i x
place_left r first = first
place_left r (next p) = next (place_left r p)

pub place_right : {A : Type 0} (l : List A) {r : List A} {i : ℕ} {x : A} → Place r i x → Place (l ++ r) (length l + i) x
place_right [] {r} {i} {x} p = subst (λ (k : ℕ). Place r k x) (sym (zero-add i)) p
place_right (y ∷ l) {r} {i} {x} p = subst (λ (k : ℕ). Place (y ∷ (l ++ r)) k x) (sym (suc-add (length l) i)) (next (place_right l p))

-- the same place, told by another number
pub place_at : {A : Type 0} {l : List A} {i : ℕ} {x : A} (j : ℕ) → i ≡ j → Place l i x → Place l j x
place_at {l = l} {x = x} j e p = subst (λ (k : ℕ). Place l k x) e p

pub place_unique : {A : Type 0} {l : List A} {i : ℕ} {x y : A} → Place l i x → Place l i y → x ≡ y
place_unique p q = go p q refl refl
  where
    go : {A : Type 0} {l m : List A} {i j : ℕ} {x y : A} → Place l i x → Place m j y → l ≡ m → i ≡ j → x ≡ y
    go first first e f = cc
    go first (next q) e f = absurd (omega (arith, place_low q))
    go (next p) first e f = absurd (omega (arith, place_low p))
    go (next p) (next q) e f = go p q (cc) (omega arith)

-- what stands in a list with a first element, and in a mapped list
pub place_cons : {A : Type 0} {l : List A} {b x : A} {i : ℕ} → Place (b ∷ l) i x
    → ((i ≡ 1) × (x ≡ b)) ⊎ ((n : ℕ) × (i ≡ suc n) × Place l n x)
place_cons first = inl (refl, refl)
place_cons (next {i = n} p) = inr (n, refl, p)

pub place_of_map : {A B : Type 0} (g : A → B) (l : List A) {i : ℕ} {z : B} → Place (map g l) i z → (x : A) × Place l i x × (g x ≡ z)
place_of_map g [] p = absurd (omega (arith, place_low p, place_high p))
place_of_map {A} {B} g (y ∷ l) {i} {z} p = go (λ n q. place_of_map g l {i = n} q) (place_cons p)
  where
    go : ((n : ℕ) → Place (map g l) n z → (x : A) × Place l n x × (g x ≡ z))
        → ((i ≡ 1) × (z ≡ g y)) ⊎ ((n : ℕ) × (i ≡ suc n) × Place (map g l) n z) → (x : A) × Place (y ∷ l) i x × (g x ≡ z)
    go ih (inl c) = (y, place_at i (sym c.0) first, sym c.1)
    go ih (inr c) = let s = ih c.0 c.2 in (s.0, place_at i (sym c.1) (next s.1), s.2)
