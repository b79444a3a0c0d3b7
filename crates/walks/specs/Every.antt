-- Statements about every entry of a list and about every two of them.
--   Every P l       P holds of each entry
--   Pairs R l       R holds of each two entries, the earlier one first
--   every_append, every_weaken, every_member, every_of, every_flat   laws of Every
--   pairs_append, pairs_weaken, pairs_flat, pairs_unique             laws of Pairs
--   flat_member, flat_has                                            what a list of lists joined has
use Rattle.std.specs.Prelude.{◌≡◌, refl, ◌⊎◌}
use Rattle.std.proofs.Common.{ap₂, sym, ◌∙◌, subst, inl, inr}
use mathlib.Core.List.Memᴰ
use mathlib.Core.List.{List, [], ◌∷◌, ◌++◌, flat_map, Memᴰ}

module _ {A : Type 0} where
  -- P holds of each entry
  abbrev pub Every : (A → Type 0) → List A → Type 0
  Every P [] = Unit
  Every P (x ∷ l) = P x × Every P l

  -- R holds of each two entries, the earlier one first
  abbrev pub Pairs : (A → A → Type 0) → List A → Type 0
  Pairs R [] = Unit
  Pairs R (x ∷ l) = Every (R x) l × Pairs R l

  pub every_append : (P : A → Type 0) (l r : List A) → Every P l → Every P r → Every P (l ++ r)
  every_append P [] r h k = k
  every_append P (x ∷ l) r h k = (h.0, every_append P l r h.1 k)

  pub every_weaken : {P Q : A → Type 0} → ((x : A) → P x → Q x) → (l : List A) → Every P l → Every Q l
  every_weaken w [] h = tt
  every_weaken w (x ∷ l) h = (w x h.0, every_weaken w l h.1)

  pub every_member : (P : A → Type 0) (l : List A) → Every P l → {x : A} → Memᴰ x l → P x
  every_member P [] h m = absurd (Memᴰ.not-nil m)
  every_member P (y ∷ l) h (Memᴰ.head e) = subst P (sym e) h.0
  every_member P (y ∷ l) h (Memᴰ.tail m) = every_member P l h.1 m

  pub every_of : {P : A → Type 0} (l : List A) → ((x : A) → Memᴰ x l → P x) → Every P l
  every_of [] h = tt
  every_of (x ∷ l) h = (h x (Memᴰ.head refl), every_of l (λ y m. h y (Memᴰ.tail m)))

  -- of a list made of two it is left to show that R holds across, where P holds on the left and Q on the right
  pub pairs_append : {P Q : A → Type 0} {R : A → A → Type 0} → ((x y : A) → P x → Q y → R x y) → (l r : List A)
      → Every P l → Every Q r → Pairs R l → Pairs R r → Pairs R (l ++ r)
  pairs_append c [] r p q h k = k
  pairs_append {R} c (x ∷ l) r p q h k =
      (every_append (R x) l r h.0 (every_weaken (λ y. c x y p.0) r q), pairs_append c l r p.1 q h.1 k)

  pub pairs_weaken : {R T : A → A → Type 0} → ((x y : A) → R x y → T x y) → (l : List A) → Pairs R l → Pairs T l
  pairs_weaken w [] h = tt
  pairs_weaken w (x ∷ l) h = (every_weaken (w x) l h.0, pairs_weaken w l h.1)

  -- a list in which each entry is R to those after it is determined by what it has
  module _ (R : A → A → Type 0) (never : (x : A) → R x x → ⊥) (trans : (x y z : A) → R x y → R y z → R x z) where
    pub pairs_unique : (l r : List A) → Pairs R l → Pairs R r → ((z : A) → Memᴰ z l → Memᴰ z r)
        → ((z : A) → Memᴰ z r → Memᴰ z l) → l ≡ r
    pairs_unique [] [] p q h k = refl
    pairs_unique [] (y ∷ r) p q h k = absurd (Memᴰ.not-nil (k y (Memᴰ.head refl)))
    pairs_unique (x ∷ l) [] p q h k = absurd (Memᴰ.not-nil (h x (Memᴰ.head refl)))
    pairs_unique (x ∷ l) (y ∷ r) p q h k =
        let e = heads (Memᴰ.cases_cons (h x (Memᴰ.head refl))) (Memᴰ.cases_cons (k y (Memᴰ.head refl))) in
        ap₂ (λ (a : A) (s : List A). a ∷ s) e
        (pairs_unique l r p.1 q.1 (λ z m. other p.0 m (sym e) (Memᴰ.cases_cons (h z (Memᴰ.tail m))))
        (λ z m. other q.0 m e (Memᴰ.cases_cons (k z (Memᴰ.tail m)))))
      where
        heads : (x ≡ y) ⊎ Memᴰ x r → (y ≡ x) ⊎ Memᴰ y l → x ≡ y
        heads (inl e) b = e
        heads (inr m) (inl e) = sym e
        heads (inr m) (inr n) = absurd (never x (trans x y x (every_member (R x) l p.0 n) (every_member (R y) r q.0 m)))

        -- an entry after the first is not the first
        other : {a b z : A} {s t : List A} → Every (R a) s → Memᴰ z s → b ≡ a → (z ≡ b) ⊎ Memᴰ z t → Memᴰ z t
        other {a} {s = s} w m e (inl g) = absurd (never a (subst (R a) (g ∙ e) (every_member (R a) s w m)))
        other w m e (inr n) = n

module _ {A B : Type 0} (f : A → List B) where
  -- what a list of lists joined has
  pub flat_member : (l : List A) {z : B} → Memᴰ z (flat_map f l) → (x : A) × Memᴰ x l × Memᴰ z (f x)
  unfolding flat_map
  flat_member [] m = absurd (Memᴰ.not-nil m)
  flat_member (x ∷ l) {z} m = by (λ r. flat_member l r) (Memᴰ.append_cases (f x) m)
    where
      next : (y : A) × Memᴰ y l × Memᴰ z (f y) → (y : A) × Memᴰ y (x ∷ l) × Memᴰ z (f y)
      next r = (r.0, Memᴰ.tail r.1, r.2)

      by : (Memᴰ z (flat_map f l) → (y : A) × Memᴰ y l × Memᴰ z (f y)) → Memᴰ z (f x) ⊎ Memᴰ z (flat_map f l)
          → (y : A) × Memᴰ y (x ∷ l) × Memᴰ z (f y)
      by ih (inl h) = (x, Memᴰ.head refl, h)
      by ih (inr h) = next (ih h)

  pub flat_has : {x : A} {l : List A} {z : B} → Memᴰ x l → Memᴰ z (f x) → Memᴰ z (flat_map f l)
  unfolding flat_map
  flat_has {z} (Memᴰ.head {xs = l} e) h = Memᴰ.append_left (flat_map f l) (subst (λ (y : A). Memᴰ z (f y)) e h)
  flat_has (Memᴰ.tail {x = y} m) h = Memᴰ.append_right (f y) (flat_has m h)

  pub every_flat : (P : B → Type 0) (l : List A) → Every (λ x. Every P (f x)) l → Every P (flat_map f l)
  unfolding flat_map
  every_flat P [] h = tt
  every_flat P (x ∷ l) h = every_append P (f x) (flat_map f l) h.0 (every_flat P l h.1)

  -- S orders the entries, and R whatever two of them in that order give
  pub pairs_flat : {P : A → B → Type 0} {S : A → A → Type 0} {R : B → B → Type 0} → ((x y : A) (u v : B) → S x y → P x u → P y v → R u v)
      → (l : List A) → Pairs S l → Every (λ x. Every (P x) (f x)) l → Every (λ x. Pairs R (f x)) l → Pairs R (flat_map f l)
  unfolding flat_map
  pairs_flat c [] s p q = tt
  pairs_flat {P} {S} c (x ∷ l) s p q =
      pairs_append (λ u v k h. c x h.0 u v h.1 k h.2) (f x) (flat_map f l) p.0 (every_flat Later l (later l s.0 p.1))
      q.0 (pairs_flat c l s.1 p.1 q.1)
    where
      Later : B → Type 0
      Later v = (z : A) × S x z × P z v

      later : (r : List A) → Every (S x) r → Every (λ y. Every (P y) (f y)) r → Every (λ y. Every Later (f y)) r
      later [] s p = tt
      later (y ∷ r) s p = (every_weaken (λ v k. (y, s.0, k)) (f y) p.0, later r s.1 p.1)
