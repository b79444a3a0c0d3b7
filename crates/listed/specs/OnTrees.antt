-- Loose answers on the elements of the two trees: the maps that document 01 defines, with no rank, pointer or signature in them.
--   Loosely d w f      the map f puts each element but the root below its parent's image
--   answer_lists, lists_answer   a list is a loose answer exactly if it is that of such a map
--   loose_maps         so the list that the walk tells has just the lists of such maps
use Rattle.std.specs.Prelude.{ℕ, ◌<◌, ◌≡◌, ◌↔◌}
use Rattle.std.proofs.Common.{ap, ◌∙◌, sym, subst, arith}
use mathlib.Core.List.{List, Memᴰ}
use Rattle.trees.specs.Tree.{Tree, whole, size}
use Rattle.trees.specs.Nodes.{Node, Below, Parent}
use Rattle.trees.specs.Ranks.{pre}
use Rattle.trees.specs.NodeRanks.{pre_low, pre_high, node_at}
use Rattle.trees.specs.Signature.{Entries, entries_of, width, entries}
use Rattle.trees.specs.Rows.{Holds}
use Rattle.trees.specs.Facts.{Facts}
use Rattle.trees.specs.FactsOf.{facts_of}
use Rattle.trees.specs.Meanings.{below_ff, ff_below, parent_fa, fa_some}
use Rattle.terms.specs.declared.Kind.{Kind}
use Rattle.checked.specs.Wholly.{AcceptedTree, accepted_tree}
use Rattle.twig_turns.specs.Grounds.{Accepted}
use Rattle.walks.specs.Image.{image, Below as RankBelow}
use Rattle.walks.specs.Maps.{Lists, ranks_list, list_ranks, list_names}
use Rattle.listed.specs.Loose.{Ranked, LooseAnswer}
use Rattle.listed.specs.Exactly.{all_loose, all_of}

-- "each node but the root lies below the image of its twig parent"
abbrev pub Loosely : (d w : Tree) → (Node (whole w) → Node (whole d)) → Type 0
Loosely d w f = (u v : Node (whole w)) → Parent u v → Below (f u) (f v)

module _ (d w : Tree) (e t : Entries) (hd : Holds e (whole d) 1 0 0) (hw : Holds t (whole w) 1 0 0) (l : List ℕ) where
  twig : Facts (size (whole w)) t
  twig = facts_of w t hw

  module _ (a : LooseAnswer (size (whole d)) (size (whole w)) e t l) where
    ranked : (u : Node (whole w)) → Ranked (size (whole d)) e t (image l) (pre u)
    ranked u = a.each (pre u) (pre_low u) (pre_high u)

    lies : (f : Node (whole w) → Node (whole d)) → ((u : Node (whole w)) → pre (f u) ≡ image l (pre u)) → Loosely d w f
    lies f s u v p =
        let q : t.fa (pre v) ≡ pre u = parent_fa w t hw u v p in
        let g : t.fa (pre v) < pre v = (twig.each (pre v) (pre_low v) (pre_high v)).fa_high in
        let b = a.below (pre v) (omega (arith, q, g, pre_low u)) (pre_high v) in
        let c : RankBelow e.ff (pre (f u)) (pre (f v))
        = subst (λ (x : ℕ). RankBelow e.ff x (pre (f v))) (ap (image l) q ∙ sym (s u))
        (subst (RankBelow e.ff (image l (t.fa (pre v)))) (sym (s v)) b) in
        ff_below d e hd (f u) (f v) c.after c.before

    pub answer_lists : Lists d w (Loosely d w) l
    answer_lists = ranks_list d w e t hd hw (Loosely d w) l a.nodes (λ u. ((ranked u).low, (ranked u).high)) (λ u. (ranked u).name) lies

  module _ (m : Lists d w (Loosely d w) l) where
    abbrev at : Node (whole w) → Node (whole d)
    at u = m.map.image u

    node_ranked : (u : Node (whole w)) → Ranked (size (whole d)) e t (image l) (pre u)
    node_ranked u =
        let r = list_ranks d w e t hd hw (Loosely d w) l m u in
        record { low = r.0; high = r.1; name = list_names d w e t hd hw (Loosely d w) l m u }

    node_below : (v : Node (whole w)) → 1 < pre v → RankBelow e.ff (image l (t.fa (pre v))) (image l (pre v))
    node_below v h =
        let s = fa_some w t hw v (twig.inner (pre v) h (pre_high v)) in
        let b = below_ff d e hd (at s.0) (at v) (m.map.fits s.0 v s.1) in
        let f : image l (t.fa (pre v)) ≡ pre (at s.0) = ap (image l) (sym s.2) ∙ m.each s.0 in
        subst (λ (x : ℕ). RankBelow e.ff x (image l (pre v))) (sym f)
        (subst (RankBelow e.ff (pre (at s.0))) (sym (m.each v)) (record { after = b.0; before = b.1 }))

    pub lists_answer : LooseAnswer (size (whole d)) (size (whole w)) e t l
    lists_answer = record {
      nodes = m.nodes;
      each = λ q a b. let u = node_at q a b in subst (Ranked (size (whole d)) e t (image l)) u.1 (node_ranked u.0);
      below = λ q a b.
          let v = node_at q (omega arith) b in
          subst (λ (x : ℕ). RankBelow e.ff (image l (t.fa x)) (image l x)) v.1 (node_below v.0 (omega (arith, v.1)));
    }

-- ---- an accepted signature and an accepted twig

module _ (s tw : List ℕ) (a : Accepted s tw) where
  abbrev data_tree : AcceptedTree Kind.Data s
  data_tree = accepted_tree Kind.Data s a.data_tree

  abbrev twig_tree : AcceptedTree Kind.Twig tw
  twig_tree = accepted_tree Kind.Twig tw a.twig

  sized : (l : List ℕ)
      → LooseAnswer (entries s) (entries tw) (entries_of width s) (entries_of width tw) l
      ↔ LooseAnswer (size (whole data_tree.tree)) (size (whole twig_tree.tree)) (entries_of width s) (entries_of width tw) l
  sized l = rw (data_tree.of.count, twig_tree.of.count) ((λ x. x), (λ x. x))

  -- the list that the walk tells has just the lists of the maps
  pub loose_maps : (l : List ℕ)
      → Memᴰ l (all_loose s tw) ↔ Lists data_tree.tree twig_tree.tree (Loosely data_tree.tree twig_tree.tree) l
  loose_maps l = (
    λ h. answer_lists data_tree.tree twig_tree.tree (entries_of width s) (entries_of width tw) data_tree.of.holds twig_tree.of.holds l
        ((sized l).0 ((all_of s tw a).sound l h)),
    λ m. (all_of s tw a).complete l
        ((sized l).1 (lists_answer data_tree.tree twig_tree.tree (entries_of width s) (entries_of width tw) data_tree.of.holds twig_tree.of.holds l m)),
  )
