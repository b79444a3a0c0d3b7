-- The entries of a tree say what document 01 says of them, on the tree's own elements.
--   name_is, post_is, ff_is     the numbers of an element's entry
--   ff_first, first_past_unique  ff is the first rank after the element that is not below it, or n+1
--   below_ff, ff_below          y is below x exactly if its rank lies between that of x and the ff of x
--   parent_fa, fa_parent        fa is the rank of the parent, exactly
--   top_fa, fa_top, top_root    fa is 0 at the root, and only there
--   ancestor_climbs, climbs_ancestor   climbing fa meets just the ancestors
--   level_is                    the level is what ff, post and 1 leave
use Rattle.std.specs.Prelude.{ℕ, ◌+◌, ◌-◌, ◌≤◌, ◌<◌, ◌≡◌, refl}
use Rattle.std.proofs.Math.Path.{ap, subst}
use Rattle.std.proofs.Common.{◌∙◌, sym, ⊎_elim, eq-or-lt_of_le}
use native.Mathlib.Omega.{arith}
use Rattle.trees.specs.Tree.{Forest, size, Tree, whole}
use Rattle.trees.specs.Nodes.{Node, here, under, beside, name_of, Below, Top, Parent, Ancestor, parent, above, level_of}
use Rattle.trees.specs.Ranks.{pre, post, held_by, FirstPast, Climbs, once, more}
use Rattle.trees.specs.Signature.{Entries}
use Rattle.trees.specs.Rows.{Holds}
use Rattle.trees.specs.Order.{lt_or_ge}
use Rattle.trees.specs.NodeRanks.{pre_low, pre_injective, node_at}
use Rattle.trees.specs.NodeOrder.{below_pre, pre_below, held_high, level_ranks}
use Rattle.trees.specs.NodeAncestors.{top_or_parent}

-- ---- a row from entry i on, below entry up, c closed before: its element x has entry r, where i + pre x is r + 1

-- the first three numbers of entry r are those of x
pub record Written (e : Entries) (c r : ℕ) {f : Forest} (x : Node f) : Type 0 where
  pub name_as : e.name r ≡ name_of x
  pub post_as : e.post r ≡ c + post x
  pub ff_as : e.ff r ≡ r + 1 + held_by x

module _ (e : Entries) where
  pub written : {f : Forest} (i up c : ℕ) → Holds e f i up c → (x : Node f) (r : ℕ) → i + pre x ≡ r + 1 → Written e c r x
  unfolding name_of pre post held_by
  written i up c h (here {a = a} {below = k} {after = q}) r w =
      let s : i ≡ r = omega arith in
      subst (λ (z : ℕ). Written e c z (here {a = a} {below = k} {after = q})) s
      (record { name_as = h.0.name_is; post_as = omega (arith, h.0.post_is); ff_as = h.0.ff_is })
  written i up c h (under x) r w =
      let g = written (i + 1) i c h.1 x r (omega arith) in
      record { name_as = g.name_as; post_as = g.post_as; ff_as = g.ff_as }
  written i up c h (beside {below = k} x) r w =
      let g = written (i + 1 + size k) up (c + size k + 1) h.2 x r (omega arith) in
      record { name_as = g.name_as; post_as = omega (arith, g.post_as); ff_as = g.ff_as }

  pub row_top : {f : Forest} (i up c : ℕ) → Holds e f i up c → (y : Node f) (r : ℕ) → i + pre y ≡ r + 1 → Top y → e.fa r ≡ up
  unfolding pre
  row_top i up c h here r w t = let s : r ≡ i = omega arith in ap e.fa s ∙ h.0.fa_is
  row_top i up c h (under y) r w t = absurd t
  row_top i up c h (beside {below = k} y) r w t = row_top (i + 1 + size k) up (c + size k + 1) h.2 y r (omega arith) t

  pub row_parent : {f : Forest} (i up c : ℕ) → Holds e f i up c → (x y : Node f) (q r : ℕ) → i + pre x ≡ q + 1 → i + pre y ≡ r + 1
      → Parent x y → e.fa r ≡ q
  unfolding pre
  row_parent i up c h here here q r v w p = absurd p
  row_parent i up c h here (under y) q r v w p = omega (arith, row_top (i + 1) i c h.1 y r (omega arith) p)
  row_parent i up c h here (beside y) q r v w p = absurd p
  row_parent i up c h (under x) here q r v w p = absurd p
  row_parent i up c h (under x) (under y) q r v w p = row_parent (i + 1) i c h.1 x y q r (omega arith) (omega arith) p
  row_parent i up c h (under x) (beside y) q r v w p = absurd p
  row_parent i up c h (beside x) here q r v w p = absurd p
  row_parent i up c h (beside x) (under y) q r v w p = absurd p
  row_parent i up c h (beside {below = k} x) (beside y) q r v w p =
      row_parent (i + 1 + size k) up (c + size k + 1) h.2 x y q r (omega arith) (omega arith) p

-- ---- the outermost row of a tree is its root

pub top_root : (t : Tree) (y : Node (whole t)) → Top y → y ≡ here
top_root t here p = refl
top_root t (under y) p = absurd p
top_root t (beside y) p = elim y [ ]

pub first_past_unique : {f : Forest} (x : Node f) (k l : ℕ) → FirstPast x k → FirstPast x l → k ≡ l
first_past_unique {f} x k l p q =
    ⊎_elim (λ (m : k < l). absurd (less k l p q m))
    (λ (m : l ≤ k). ⊎_elim (λ (s : l ≡ k). sym s) (λ (s : l < k). absurd (less l k q p s)) (eq-or-lt_of_le m))
    (lt_or_ge k l)
  where
    less : (k l : ℕ) → FirstPast x k → FirstPast x l → k < l → ⊥
    less k l p q m =
        let s = node_at {f = f} k (omega (arith, p.after)) (omega (arith, q.upto)) in
        p.past s.0 s.1 (q.between s.0 (omega (arith, p.after, s.1)) (omega (arith, s.1)))

-- ---- the entries of a tree

module _ (t : Tree) (e : Entries) (h : Holds e (whole t) 1 0 0) where
  at : (x : Node (whole t)) → Written e 0 (pre x) x
  at x = written e 1 0 0 h x (pre x) (omega arith)

  pub name_is : (x : Node (whole t)) → e.name (pre x) ≡ name_of x
  name_is x = (at x).name_as

  -- "post from 1 as they close"
  pub post_is : (x : Node (whole t)) → e.post (pre x) ≡ post x
  post_is x = omega (arith, (at x).post_as)

  pub ff_is : (x : Node (whole t)) → e.ff (pre x) ≡ pre x + 1 + held_by x
  ff_is x = (at x).ff_as

  -- "j is below i when i < j < ff of i."
  pub below_ff : (x y : Node (whole t)) → Below x y → (pre x < pre y) × (pre y < e.ff (pre x))
  below_ff x y b = let g = below_pre x y b in (g.after, omega (arith, g.within, ff_is x))

  pub ff_below : (x y : Node (whole t)) → pre x < pre y → pre y < e.ff (pre x) → Below x y
  ff_below x y l m = pre_below x y l (omega (arith, ff_is x))

  -- "ff is the first rank after i that is not below i, or n+1."
  pub ff_first : (x : Node (whole t)) → FirstPast x (e.ff (pre x))
  ff_first x = record {
    after = omega (arith, ff_is x);
    upto = omega (arith, ff_is x, held_high x);
    between = λ y l m. ff_below x y l m;
    past = λ y s b. omega (arith, (below_ff x y b).1);
  }

  -- "fa is the parent, or 0 at the root."
  pub parent_fa : (x y : Node (whole t)) → Parent x y → e.fa (pre y) ≡ pre x
  parent_fa x y p = row_parent e 1 0 0 h x y (pre x) (pre y) (omega arith) (omega arith) p

  pub top_fa : (y : Node (whole t)) → Top y → e.fa (pre y) ≡ 0
  top_fa y p = row_top e 1 0 0 h y (pre y) (omega arith) p

  -- an element whose fa is not 0 has a parent, of that rank
  pub fa_some : (y : Node (whole t)) → 1 ≤ e.fa (pre y) → (x : Node (whole t)) × Parent x y × (pre x ≡ e.fa (pre y))
  fa_some y l =
      ⊎_elim (λ (p : Top y). absurd (omega (arith, top_fa y p)))
      (λ (s : (x : Node (whole t)) × Parent x y). (s.0, s.1, sym (parent_fa s.0 y s.1)))
      (top_or_parent y)

  pub fa_parent : (x y : Node (whole t)) → e.fa (pre y) ≡ pre x → Parent x y
  fa_parent x y q =
      let s = fa_some y (omega (arith, pre_low x)) in
      subst (λ (z : Node (whole t)). Parent z y) (pre_injective s.0 x (s.2 ∙ q)) s.1

  pub fa_top : (y : Node (whole t)) → e.fa (pre y) ≡ 0 → Top y
  fa_top y q =
      ⊎_elim (λ (p : Top y). p)
      (λ (s : (x : Node (whole t)) × Parent x y). absurd (omega (arith, parent_fa s.0 y s.1, pre_low s.0)))
      (top_or_parent y)

  -- climbing fa meets just the ancestors
  pub ancestor_climbs : {x y : Node (whole t)} → Ancestor x y → Climbs e.fa (pre y) (pre x)
  ancestor_climbs {x} {y} (parent p) = once (parent_fa x y p) (pre_low x)
  ancestor_climbs (above {y = y} {z = z} a p) = more (parent_fa y z p) (pre_low y) (ancestor_climbs a)

  climbs_from : {i j : ℕ} → Climbs e.fa i j → (x y : Node (whole t)) → pre y ≡ i → pre x ≡ j → Ancestor x y
  climbs_from (once q l) x y u v = parent (fa_parent x y (ap e.fa u ∙ q ∙ sym v))
  climbs_from (more q l c) x y u v =
      let s = fa_some y (subst (λ (z : ℕ). 1 ≤ e.fa z) (sym u) (omega arith)) in
      above (climbs_from c x s.0 (s.2 ∙ ap e.fa u ∙ q) v) s.1

  pub climbs_ancestor : (x y : Node (whole t)) → Climbs e.fa (pre y) (pre x) → Ancestor x y
  climbs_ancestor x y c = climbs_from c x y refl refl

  -- "The level of an entry is the number of its ancestors."
  pub level_is : (x : Node (whole t)) → level_of x ≡ e.ff (pre x) - e.post (pre x) - 1
  level_is x = omega (arith, ff_is x, post_is x, level_ranks x)
