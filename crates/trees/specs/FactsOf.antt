-- The facts that every call above uses hold of the entries of a tree. By induction on the row, over the entry's place in it.
--   Bounds e i up c z j  the bounds of entry j of a row of z elements that starts at i, below up, c closed before
--   bounds               they hold of each entry of a row
--   order                of two entries of a row the later one is below the earlier one, or follows it
--   facts_of             all of it, for a tree
use Rattle.std.specs.Prelude.{ℕ, suc, ◌+◌, ◌≤◌, ◌<◌, ◌≡◌, ◌⊎◌}
use Rattle.std.proofs.Common.{ap, ◌∙◌, sym, subst, inl, inr, ⊎_elim, arith, eq-or-lt_of_le}
use Rattle.trees.specs.Tree.{Forest, none, elem, size, Tree, whole}
use Rattle.trees.specs.Signature.{Entries}
use Rattle.trees.specs.Facts.{Each, Inside, Follows, Facts}
use Rattle.trees.specs.Rows.{Entry, Holds}
use Rattle.trees.specs.Order.{lt_or_ge}

-- where a place of a row lies: at the first element, below it, or in the rest
abbrev Lies : ℕ → ℕ → ℕ → ℕ → Type 0
Lies i k r j = (i ≡ j) ⊎ ((i + 1 ≤ j) × (j < i + 1 + k)) ⊎ ((i + 1 + k ≤ j) × (j < i + 1 + k + r))

lies : (i k r j : ℕ) → i ≤ j → j < i + suc (k + r) → Lies i k r j
lies i k r j l h =
    ⊎_elim (λ (e : i ≡ j). inl e)
    (λ (g : i < j). inr (⊎_elim
    (λ (a : j < i + 1 + k). inl (omega arith, a))
    (λ (b : i + 1 + k ≤ j). inr (b, omega arith))
    (lt_or_ge j (i + 1 + k))))
    (eq-or-lt_of_le l)

module _ (e : Entries) where
  -- the numbers of an entry of a row from i, below up, c closed before, z entries long
  pub record Bounds (i up c z j : ℕ) : Type 0 where
    pub post_low : c < e.post j
    pub post_high : e.post j ≤ c + z
    pub ff_low : j < e.ff j
    pub ff_high : e.ff j ≤ i + z
    pub fa_high : e.fa j < j
    pub fa_low : (e.fa j ≡ up) ⊎ (i ≤ e.fa j)

  pub bounds : (f : Forest) (i up c : ℕ) → up < i → Holds e f i up c → (j : ℕ) → i ≤ j → j < i + size f → Bounds i up c (size f) j
  bounds none i up c u h j l g = absurd (omega arith)
  bounds (elem a k r) i up c u h j l g =
      go (lies i (size k) (size r) j l g)
      (λ x y. bounds k (i + 1) i c (omega arith) h.1 j x y)
      (λ x y. bounds r (i + 1 + size k) up (c + size k + 1) (omega arith) h.2 j x y)
    where
      o : Entry e i a (c + size k + 1) (i + 1 + size k) up
      o = h.0

      go : Lies i (size k) (size r) j
          → (i + 1 ≤ j → j < i + 1 + size k → Bounds (i + 1) i c (size k) j)
          → (i + 1 + size k ≤ j → j < i + 1 + size k + size r → Bounds (i + 1 + size k) up (c + size k + 1) (size r) j)
          → Bounds i up c (suc (size k + size r)) j
      go (inl q) ih jh = subst (λ (x : ℕ). Bounds i up c (suc (size k + size r)) x) q (record {
        post_low = omega (arith, o.post_is);
        post_high = omega (arith, o.post_is);
        ff_low = omega (arith, o.ff_is);
        ff_high = omega (arith, o.ff_is);
        fa_high = omega (arith, o.fa_is);
        fa_low = inl o.fa_is;
      })
      go (inr (inl p)) ih jh =
          let b = ih p.0 p.1 in record {
            post_low = b.post_low;
            post_high = omega (arith, b.post_high);
            ff_low = b.ff_low;
            ff_high = omega (arith, b.ff_high);
            fa_high = b.fa_high;
            fa_low = inr (⊎_elim (λ (x : e.fa j ≡ i). omega arith) (λ (x : i + 1 ≤ e.fa j). omega arith) b.fa_low);
          }
      go (inr (inr p)) ih jh =
          let b = jh p.0 p.1 in record {
            post_low = omega (arith, b.post_low);
            post_high = omega (arith, b.post_high);
            ff_low = b.ff_low;
            ff_high = omega (arith, b.ff_high);
            fa_high = b.fa_high;
            fa_low = ⊎_elim (λ (x : e.fa j ≡ up). inl x) (λ (x : i + 1 + size k ≤ e.fa j). inr (omega arith)) b.fa_low;
          }

  -- the parent of an entry of the rest of the row is not in a block that ends before the rest begins
  aside : (up i g z y : ℕ) → up < i → g ≤ z → (e.fa y ≡ up) ⊎ (z ≤ e.fa y) → (e.fa y < i) ⊎ (g ≤ e.fa y)
  aside up i g z y u l b = ⊎_elim (λ (q : e.fa y ≡ up). inl (omega arith)) (λ (q : z ≤ e.fa y). inr (omega arith)) b

  -- of two entries the later one is below the earlier one, or follows it
  pub order : (f : Forest) (i up c : ℕ) → up < i → Holds e f i up c → (x y : ℕ) → i ≤ x → x < y → y < i + size f
      → Inside e x y ⊎ Follows e x y
  order none i up c u h x y l m g = absurd (omega arith)
  order (elem a k r) i up c u h x y l m g =
      go (lies i (size k) (size r) x l (omega arith)) (lies i (size k) (size r) y (omega arith) g)
      (λ p q. order k (i + 1) i c (omega arith) h.1 x y p m q)
      (λ p q. order r (i + 1 + size k) up (c + size k + 1) (omega arith) h.2 x y p m q)
    where
      o : Entry e i a (c + size k + 1) (i + 1 + size k) up
      o = h.0

      inner : (j : ℕ) → i + 1 ≤ j → j < i + 1 + size k → Bounds (i + 1) i c (size k) j
      inner j p q = bounds k (i + 1) i c (omega arith) h.1 j p q

      rest : (j : ℕ) → i + 1 + size k ≤ j → j < i + 1 + size k + size r → Bounds (i + 1 + size k) up (c + size k + 1) (size r) j
      rest j p q = bounds r (i + 1 + size k) up (c + size k + 1) (omega arith) h.2 j p q

      go : Lies i (size k) (size r) x → Lies i (size k) (size r) y
          → (i + 1 ≤ x → y < i + 1 + size k → Inside e x y ⊎ Follows e x y)
          → (i + 1 + size k ≤ x → y < i + 1 + size k + size r → Inside e x y ⊎ Follows e x y)
          → Inside e x y ⊎ Follows e x y
      go (inl p) (inl q) ih jh = absurd (omega arith)
      go (inl p) (inr (inl q)) ih jh =
          let b = inner y q.0 q.1 in
          let fx : e.ff x ≡ i + 1 + size k = ap e.ff (sym p) ∙ o.ff_is in
          let px : e.post x ≡ c + size k + 1 = ap e.post (sym p) ∙ o.post_is in
          inl (record {
            inside = omega arith;
            less = omega (arith, b.post_high);
            nested = omega (arith, b.ff_high);
            under = ⊎_elim (λ (z : e.fa y ≡ i). omega arith) (λ (z : i + 1 ≤ e.fa y). omega arith) b.fa_low;
          })
      go (inl p) (inr (inr q)) ih jh =
          let b = rest y q.0 q.1 in
          let fx : e.ff x ≡ i + 1 + size k = ap e.ff (sym p) ∙ o.ff_is in
          let px : e.post x ≡ c + size k + 1 = ap e.post (sym p) ∙ o.post_is in
          inr (record {
            outside = omega arith;
            greater = omega (arith, b.post_low);
            apart = aside up x (e.ff x) (i + 1 + size k) y (omega arith) (omega arith) b.fa_low;
          })
      go (inr (inl p)) (inl q) ih jh = absurd (omega arith)
      go (inr (inl p)) (inr (inl q)) ih jh = ih p.0 q.1
      go (inr (inl p)) (inr (inr q)) ih jh =
          let w = inner x p.0 p.1 in
          let b = rest y q.0 q.1 in
          inr (record {
            outside = omega (arith, w.ff_high);
            greater = omega (arith, w.post_high, b.post_low);
            apart = aside up x (e.ff x) (i + 1 + size k) y (omega arith) (omega (arith, w.ff_high)) b.fa_low;
          })
      go (inr (inr p)) (inl q) ih jh = absurd (omega arith)
      go (inr (inr p)) (inr (inl q)) ih jh = absurd (omega arith)
      go (inr (inr p)) (inr (inr q)) ih jh = jh p.0 q.1

-- the facts of a tree's entries
pub facts_of : (t : Tree) (e : Entries) → Holds e (whole t) 1 0 0 → Facts (size (whole t)) e
facts_of t e h = record {
  some = omega arith;
  root_fa = h.0.fa_is;
  root_ff = omega (arith, h.0.ff_is);
  each = each_of;
  pair = pair_of;
  inner = inner_of;
  own = own_of;
}
  where
    at : (j : ℕ) → 1 ≤ j → j ≤ size (whole t) → Bounds e 1 0 0 (size (whole t)) j
    at j l g = bounds e (whole t) 1 0 0 (omega arith) h j l (omega arith)

    each_of : (j : ℕ) → 1 ≤ j → j ≤ size (whole t) → Each (size (whole t)) e j
    each_of j l g = let b = at j l g in omega arith

    pair_of : (i j : ℕ) → 1 ≤ i → i < j → j ≤ size (whole t) → Inside e i j ⊎ Follows e i j
    pair_of i j l m g = order e (whole t) 1 0 0 (omega arith) h i j l m (omega arith)

    inner_of : (j : ℕ) → 1 < j → j ≤ size (whole t) → 1 ≤ e.fa j
    inner_of j l g =
        ⊎_elim (λ (z : e.fa j ≡ 1). omega arith) (λ (z : 1 + 1 ≤ e.fa j). omega arith)
        (bounds e t.below (1 + 1) 1 0 (omega arith) h.1 j (omega arith) (omega arith)).fa_low

    own_of : (j : ℕ) → 1 < j → j ≤ size (whole t) → Inside e (e.fa j) j
    own_of j l g =
        ⊎_elim (λ (x : Inside e (e.fa j) j). x) (λ (x : Follows e (e.fa j) j). absurd (apart_no x))
        (pair_of (e.fa j) j up b.fa_high g)
      where
        b : Bounds e 1 0 0 (size (whole t)) j
        b = at j (omega arith) g

        up : 1 ≤ e.fa j
        up = inner_of j l g

        apart_no : Follows e (e.fa j) j → ⊥
        apart_no x = ⊎_elim (λ (z : e.fa j < e.fa j). omega arith)
            (λ (z : e.ff (e.fa j) ≤ e.fa j). omega (arith, (at (e.fa j) up (omega (arith, b.fa_high))).ff_low)) x.apart
