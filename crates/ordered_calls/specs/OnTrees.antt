-- Ordered answers on the elements of the two trees: the maps that document 01 defines, with no rank, pointer or signature in them.
--   Follows x y        y follows x: it opens after x, and is not below x
--   Ordered d w f      of two elements of the twig, the images by the map f stand to each other as they do
--   answer_lists, lists_answer   a list is an ordered answer exactly if it is that of such a map
--   ordered_maps       so the list that a chain of calls gives has just the lists of such maps
use Rattle.std.specs.Prelude.{ℕ, ◌≤◌, ◌<◌, ◌≡◌, ◌⊎◌, ◌↔◌}
use Rattle.std.proofs.Common.{sym, subst, inl, inr, arith}
use mathlib.Core.List.{List, Memᴰ}
use Rattle.trees.specs.Tree.{Forest, Tree, whole, size}
use Rattle.trees.specs.Nodes.{Node, Below, Before}
use Rattle.trees.specs.Ranks.{pre}
use Rattle.trees.specs.Order.{lt_or_ge}
use Rattle.trees.specs.NodeRanks.{pre_low, pre_high, node_at}
use Rattle.trees.specs.NodeOrder.{before_pre, pre_before}
use Rattle.trees.specs.Signature.{Entries, entries_of, width, entries}
use Rattle.trees.specs.Rows.{Holds}
use Rattle.trees.specs.Meanings.{below_ff, ff_below, ff_is}
use Rattle.trees.specs.Names.{Passes}
use Rattle.walks.specs.Image.{image}
use Rattle.walks.specs.Maps.{Lists, ranks_list, list_ranks, list_names}
use Rattle.terms.specs.declared.Kind.{Kind}
use Rattle.checked.specs.Wholly.{AcceptedTree, accepted_tree}
use Rattle.ordering.specs.Answer.{Placed, Answer}
use Rattle.ordering.specs.Listing.{answers_of, answers_exactly}
use Rattle.ordered_calls.specs.Exactly.{Accepts}

-- "For i < j, j is below i [..]; otherwise j follows i."
abbrev pub Follows : {f : Forest} → Node f → Node f → Type 0
Follows x y = Before x y × (Below x y → ⊥)

-- "image of v is below image of u if v is below u, and follows it otherwise"
pub record Ordered (d w : Tree) (f : Node (whole w) → Node (whole d)) : Type 0 where
  pub below : (u v : Node (whole w)) → Below u v → Below (f u) (f v)
  pub follows : (u v : Node (whole w)) → Follows u v → Follows (f u) (f v)

-- ---- two elements by their ranks

module _ (t : Tree) (e : Entries) (h : Holds e (whole t) 1 0 0) (x y : Node (whole t)) where
  -- y follows x exactly if its rank is ff of x or more
  follows_ff : Follows x y → e.ff (pre x) ≤ pre y
  follows_ff f = by (lt_or_ge (pre y) (e.ff (pre x)))
    where
      by : (pre y < e.ff (pre x)) ⊎ (e.ff (pre x) ≤ pre y) → e.ff (pre x) ≤ pre y
      by (inl l) = absurd (f.1 (ff_below t e h x y (before_pre x y f.0) l))
      by (inr l) = l

  ff_follows : e.ff (pre x) ≤ pre y → Follows x y
  ff_follows l = (pre_before x y (omega (arith, ff_is t e h x)), λ b. omega (arith, (below_ff t e h x y b).1))

module _ (d w : Tree) (e t : Entries) (hd : Holds e (whole d) 1 0 0) (hw : Holds t (whole w) 1 0 0) (l : List ℕ) where
  module _ (a : Answer (size (whole d)) e (size (whole w)) t l) where
    stand : (f : Node (whole w) → Node (whole d)) → ((u : Node (whole w)) → pre (f u) ≡ image l (pre u)) → Ordered d w f
    stand f s = record {
      below = λ u v b.
          let g = below_ff w t hw u v b in
          let c = (placed u v g.0).below g.1 in
          ff_below d e hd (f u) (f v) c.after c.before;
      follows = λ u v b. ff_follows d e hd (f u) (f v) ((placed u v (before_pre u v b.0)).follows (follows_ff w t hw u v b));
    }
      where
        -- the images' own ranks stand to each other as the answer's numbers do
        placed : (u v : Node (whole w)) → pre u < pre v → Placed e t (pre u) (pre v) (pre (f u)) (pre (f v))
        placed u v k =
            subst (λ (x : ℕ). Placed e t (pre u) (pre v) x (pre (f v))) (sym (s u))
            (subst (Placed e t (pre u) (pre v) (image l (pre u))) (sym (s v)) (a.pairs (pre u) (pre v) (pre_low u) k (pre_high v)))

    pub answer_lists : Lists d w (Ordered d w) l
    answer_lists =
        ranks_list d w e t hd hw (Ordered d w) l a.nodes (λ u. a.ranks (pre u) (pre_low u) (pre_high u))
        (λ u. a.names (pre u) (pre_low u) (pre_high u)) stand

  module _ (m : Lists d w (Ordered d w) l) where
    abbrev at : Node (whole w) → Node (whole d)
    at u = m.map.image u

    node_placed : (u v : Node (whole w)) → pre u < pre v → Placed e t (pre u) (pre v) (image l (pre u)) (image l (pre v))
    node_placed u v k =
        subst (λ (x : ℕ). Placed e t (pre u) (pre v) x (image l (pre v))) (sym (m.each u))
        (subst (Placed e t (pre u) (pre v) (pre (at u))) (sym (m.each v)) (record {
          below = λ h. let b = below_ff d e hd (at u) (at v) (m.map.fits.below u v (ff_below w t hw u v k h)) in record { after = b.0; before = b.1 };
          follows = λ h. follows_ff d e hd (at u) (at v) (m.map.fits.follows u v (ff_follows w t hw u v h));
        }))

    pub lists_answer : Answer (size (whole d)) e (size (whole w)) t l
    lists_answer = record {
      nodes = m.nodes;
      ranks = λ q a b. let u = node_at q a b in subst (λ (x : ℕ). (1 ≤ image l x) × (image l x ≤ size (whole d))) u.1
          (list_ranks d w e t hd hw (Ordered d w) l m u.0);
      names = λ q a b. let u = node_at q a b in subst (λ (x : ℕ). Passes (t.name x) (e.name (image l x))) u.1
          (list_names d w e t hd hw (Ordered d w) l m u.0);
      pairs = λ p q a k b.
          let u = node_at {f = whole w} p a (omega (arith, k, b)) in
          let v = node_at {f = whole w} q (omega (arith, a, k)) b in
          subst (λ (x : ℕ). Placed e t x q (image l x) (image l q)) u.1
          (subst (λ (x : ℕ). Placed e t (pre u.0) x (image l (pre u.0)) (image l x)) v.1
          (node_placed u.0 v.0 (omega (arith, u.1, v.1, k))));
    }

-- ---- an accepted signature and an accepted twig

module _ (s tw : List ℕ) (a : Accepts Kind.Twig tw) (b : Accepts Kind.Data s) where
  abbrev data_tree : AcceptedTree Kind.Data s
  data_tree = accepted_tree Kind.Data s b

  abbrev twig_tree : AcceptedTree Kind.Twig tw
  twig_tree = accepted_tree Kind.Twig tw a

  sized : (l : List ℕ)
      → Answer (entries s) (entries_of width s) (entries tw) (entries_of width tw) l
      ↔ Answer (size (whole data_tree.tree)) (entries_of width s) (size (whole twig_tree.tree)) (entries_of width tw) l
  sized l = rw (data_tree.of.count, twig_tree.of.count) ((λ x. x), (λ x. x))

  -- the list that a chain of calls gives has just the lists of the maps
  pub ordered_maps : (l : List ℕ)
      → Memᴰ l (answers_of (entries s) (entries_of width s) (entries tw) (entries_of width tw))
      ↔ Lists data_tree.tree twig_tree.tree (Ordered data_tree.tree twig_tree.tree) l
  ordered_maps l =
      let x = answers_exactly (entries s) (entries_of width s) (entries tw) (entries_of width tw) l in (
        λ h. answer_lists data_tree.tree twig_tree.tree (entries_of width s) (entries_of width tw) data_tree.of.holds twig_tree.of.holds l
            ((sized l).0 (x.0 h)),
        λ m. x.1 ((sized l).1 (lists_answer data_tree.tree twig_tree.tree (entries_of width s) (entries_of width tw) data_tree.of.holds
            twig_tree.of.holds l m)),
      )
