-- Lists of elements in document order.
--   order_last        one more at the end
--   lists_unique      two lists of the same elements, in document order, are equal
--   Selected, selected   the elements whose rank passes a test: their ranks are those selected
use Prim.Native.Nat.{ℕ, zero, suc, ◌≤◌, ◌<◌}
use Rattle.std.specs.Prelude.{◌≡◌, ◌⊎◌, Bool}
use Rattle.std.proofs.Math.Path.{refl, ap, sym, subst}
use Rattle.std.proofs.Common.{◌∙◌, inl, inr, arith, eq-or-lt_of_le}
use Rattle.std.proofs.Math.Logic.{⊎_elim}
use mathlib.Core.List.{List, [], ◌∷◌, ◌++◌, map}
use mathlib.Core.List.Memᴰ
use mathlib.Core.List.{Memᴰ}
use Rattle.std.proofs.Math.Bool.{true, false}
use Rattle.std.proofs.lemmas.Bool.{false≢true}
use Rattle.trees.specs.Tree.{Forest, size}
use Rattle.trees.specs.Nodes.{Node, Before}
use Rattle.trees.specs.Ranks.{pre}
use Rattle.trees.specs.NodeRanks.{pre_low, pre_injective, node_at}
use Rattle.trees.specs.NodeOrder.{before_pre, pre_before}
use Rattle.xpath.specs.Select.{up_to}
use Rattle.xpath.specs.OnNodes.{InOrder, Lists}

module _ {f : Forest} where
  never_both : (x y : Node f) → Before x y → Before y x → ⊥
  never_both x y a b = omega (arith, before_pre x y a, before_pre y x b)

  pub order_last : (l : List (Node f)) (z : Node f) → InOrder l → ((y : Node f) → Memᴰ y l → Before y z) → InOrder (l ++ (z ∷ []))
  order_last [] z o h = ((λ y m. absurd (Memᴰ.not-nil m)), tt)
  order_last (x ∷ l) z o h = (
    (λ y m. ⊎_elim (λ (a : Memᴰ y l). o.0 y a)
        (λ (b : Memᴰ y (z ∷ [])). subst (λ (w : Node f). Before x w) (sym (Memᴰ.eq_of_singleton b)) (h x (Memᴰ.head refl)))
        (Memᴰ.append_cases l m)),
    order_last l z o.1 (λ y m. h y (Memᴰ.tail m)),
  )

  -- ---- one list at most

  cons_eq : {x y : Node f} {l m : List (Node f)} → x ≡ y → l ≡ m → x ∷ l ≡ y ∷ m
  cons_eq p q = cc

  pub order_unique : (l m : List (Node f)) → InOrder l → InOrder m → ((z : Node f) → Memᴰ z l → Memᴰ z m)
      → ((z : Node f) → Memᴰ z m → Memᴰ z l) → l ≡ m
  order_unique [] [] o q a b = refl
  order_unique [] (y ∷ m) o q a b = absurd (Memᴰ.not-nil (b y (Memᴰ.head refl)))
  order_unique (x ∷ l) [] o q a b = absurd (Memᴰ.not-nil (a x (Memᴰ.head refl)))
  order_unique (x ∷ l) (y ∷ m) o q a b =
      cons_eq same (order_unique l m o.1 q.1
      (λ z h. other x y same z (o.0 z h) (Memᴰ.cases_cons (a z (Memᴰ.tail h))))
      (λ z h. other y x (sym same) z (q.0 z h) (Memᴰ.cases_cons (b z (Memᴰ.tail h)))))
    where
      same : x ≡ y
      same = ⊎_elim (λ (e : x ≡ y). e)
          (λ (u : Memᴰ x m). ⊎_elim (λ (e : y ≡ x). sym e)
          (λ (v : Memᴰ y l). absurd (never_both x y (o.0 y v) (q.0 x u)))
          (Memᴰ.cases_cons (b y (Memᴰ.head refl))))
          (Memᴰ.cases_cons (a x (Memᴰ.head refl)))

      other : {k : List (Node f)} (u w : Node f) → u ≡ w → (z : Node f) → Before u z → (z ≡ w) ⊎ Memᴰ z k → Memᴰ z k
      other u w e z h (inr r) = r
      other u w e z h (inl p) = absurd (omega (arith, before_pre u z h, ap pre e, ap pre p))

  pub lists_unique : (P : Node f → Type 0) (l m : List (Node f)) → Lists P l → Lists P m → l ≡ m
  lists_unique P l m a b =
      order_unique l m a.order b.order (λ z h. b.complete z (a.sound z h)) (λ z h. a.complete z (b.sound z h))

  -- ---- the elements whose rank passes

  -- the ranks up to k that pass are those of a list of elements
  pub record Selected (b : ℕ → Bool) (k : ℕ) (l : List (Node f)) : Type 0 where
    pub ranks : up_to k b ≡ map pre l
    pub order : InOrder l
    pub sound : (y : Node f) → Memᴰ y l → (b (pre y) ≡ true) × (pre y ≤ k)
    pub complete : (y : Node f) → b (pre y) ≡ true → pre y ≤ k → Memᴰ y l

  map_last : (l : List (Node f)) (z : Node f) → map pre (l ++ (z ∷ [])) ≡ map pre l ++ (pre z ∷ [])
  map_last [] z = refl
  map_last (x ∷ l) z = ap (pre x ∷◌) (map_last l z)

  mem_left : (l : List (Node f)) (z y : Node f) → Memᴰ y l → Memᴰ y (l ++ (z ∷ []))
  mem_left [] z y m = absurd (Memᴰ.not-nil m)
  mem_left (x ∷ l) z y m = ⊎_elim (λ (e : y ≡ x). Memᴰ.head e) (λ (r : Memᴰ y l). Memᴰ.tail (mem_left l z y r)) (Memᴰ.cases_cons m)

  mem_last : (l : List (Node f)) (z : Node f) → Memᴰ z (l ++ (z ∷ []))
  mem_last [] z = Memᴰ.head refl
  mem_last (x ∷ l) z = Memᴰ.tail (mem_last l z)

  pub selected : (b : ℕ → Bool) (k : ℕ) → k ≤ size f → (l : List (Node f)) × Selected b k l
  unfolding up_to
  selected b zero h = (
    [],
    record {
      ranks = refl;
      order = tt;
      sound = λ y m. absurd (Memᴰ.not-nil m);
      complete = λ y p l. absurd (omega (arith, pre_low y));
    },
  )
  selected b (suc k) h = go (b (suc k)) refl (selected b k (omega arith)) (node_at {f = f} (suc k) (omega arith) h)
    where
      go : (t : Bool) → b (suc k) ≡ t → (l : List (Node f)) × Selected b k l → (z : Node f) × (pre z ≡ suc k) → (l : List (Node f)) × Selected b (suc k) l
      go false e (l, s) (z, q) = (
        l,
        record {
          ranks = simp e s.ranks;
          order = s.order;
          sound = λ y m. ((s.sound y m).0, omega (arith, (s.sound y m).1));
          complete = λ y p r. ⊎_elim (λ (w : pre y ≡ suc k). absurd (false≢true (sym e ∙ ap b (sym w) ∙ p))) (λ (w : pre y < suc k). s.complete y p (omega arith)) (eq-or-lt_of_le r);
        },
      )
      go true e (l, s) (z, q) = (
        l ++ (z ∷ []),
        record {
          ranks = simp e (ap (λ (r : List ℕ). r ++ (suc k ∷ [])) s.ranks ∙ ap (λ (x : ℕ). map pre l ++ (x ∷ [])) (sym q) ∙ sym (map_last l z));
          order = order_last l z s.order (λ y m. pre_before y z (omega (arith, (s.sound y m).1)));
          sound = λ y m. ⊎_elim (λ (a : Memᴰ y l). ((s.sound y a).0, omega (arith, (s.sound y a).1)))
              (λ (c : Memᴰ y (z ∷ [])). let w = ap pre (Memᴰ.eq_of_singleton c) in (ap b (w ∙ q) ∙ e, omega arith)) (Memᴰ.append_cases l m);
          complete = λ y p r. ⊎_elim
              (λ (w : pre y ≡ suc k). subst (λ (x : Node f). Memᴰ x (l ++ (z ∷ []))) (pre_injective z y (q ∙ sym w)) (mem_last l z))
              (λ (w : pre y < suc k). mem_left l z y (s.complete y p (omega arith))) (eq-or-lt_of_le r);
        },
      )
