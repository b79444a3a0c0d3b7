-- Maps from the twig's elements to the data tree's: what ordered and loose answers are both said with, with no rank, pointer or signature in them.
--   Map d w Fits       a map whose names pass, and of which Fits holds: each question asks its own of the images
--   Lists d w Fits l   l is the ranks that such a map gives, in twig preorder
--   ranks_list         as many ranks as the twig has elements, with names that pass, are the list of a map
--   list_ranks, list_names   and the numbers of such a list are ranks, with names that pass
use Rattle.std.specs.Prelude.{ℕ, ◌≤◌, ◌≡◌, List, length}
use Rattle.std.proofs.Common.{ap, ◌∙◌, sym, subst, arith}
use Rattle.trees.specs.Tree.{Tree, whole, size}
use Rattle.trees.specs.Nodes.{Node, name_of}
use Rattle.trees.specs.Ranks.{pre}
use Rattle.trees.specs.NodeRanks.{pre_low, pre_high, node_at}
use Rattle.trees.specs.Signature.{Entries}
use Rattle.trees.specs.Rows.{Holds}
use Rattle.trees.specs.Meanings.{name_is}
use Rattle.trees.specs.Names.{Passes}
use Rattle.walks.specs.Image.{image}

-- "An answer gives each twig node a rank; a name must be equal unless the twig's is 0."
pub record Map (d w : Tree) (Fits : (Node (whole w) → Node (whole d)) → Type 0) : Type 0 where
  pub image : Node (whole w) → Node (whole d)
  pub name : (u : Node (whole w)) → Passes (name_of u) (name_of (image u))
  pub fits : Fits image

-- the ranks of its images, in twig preorder
pub record Lists (d w : Tree) (Fits : (Node (whole w) → Node (whole d)) → Type 0) (l : List ℕ) : Type 0 where
  pub nodes : length l ≡ size (whole w)
  pub map : Map d w Fits
  pub each : (u : Node (whole w)) → image l (pre u) ≡ pre (map.image u)

module _ (d w : Tree) (e t : Entries) (hd : Holds e (whole d) 1 0 0) (hw : Holds t (whole w) 1 0 0)
    (Fits : (Node (whole w) → Node (whole d)) → Type 0) (l : List ℕ) where
  -- what is left to the question is asked of any map that has these ranks
  pub ranks_list : length l ≡ size (whole w)
      → ((u : Node (whole w)) → (1 ≤ image l (pre u)) × (image l (pre u) ≤ size (whole d)))
      → ((u : Node (whole w)) → Passes (t.name (pre u)) (e.name (image l (pre u))))
      → ((f : Node (whole w) → Node (whole d)) → ((u : Node (whole w)) → pre (f u) ≡ image l (pre u)) → Fits f)
      → Lists d w Fits l
  ranks_list nodes ranks names fits = record {
    nodes = nodes;
    map = record { image = λ u. (there u).0; name = name; fits = fits (λ u. (there u).0) (λ u. (there u).1) };
    each = λ u. sym (there u).1;
  }
    where
      there : (u : Node (whole w)) → (x : Node (whole d)) × (pre x ≡ image l (pre u))
      there u = node_at (image l (pre u)) (ranks u).0 (ranks u).1

      name : (u : Node (whole w)) → Passes (name_of u) (name_of (there u).0)
      name u =
          subst (λ (x : ℕ). Passes x (name_of (there u).0)) (name_is w t hw u)
          (subst (Passes (t.name (pre u))) (ap e.name (sym (there u).1) ∙ name_is d e hd (there u).0) (names u))

  module _ (m : Lists d w Fits l) where
    pub list_ranks : (u : Node (whole w)) → (1 ≤ image l (pre u)) × (image l (pre u) ≤ size (whole d))
    list_ranks u = let x = m.map.image u in (omega (arith, m.each u, pre_low x), omega (arith, m.each u, pre_high x))

    pub list_names : (u : Node (whole w)) → Passes (t.name (pre u)) (e.name (image l (pre u)))
    list_names u =
        subst (λ (x : ℕ). Passes x (e.name (image l (pre u)))) (sym (name_is w t hw u))
        (subst (Passes (name_of u)) (sym (name_is d e hd (m.map.image u)) ∙ ap e.name (sym (m.each u))) (m.map.name u))
