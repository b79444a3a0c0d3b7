-- The level and the block, pinned by the tree.
--   level_is_level_of     a level call answers the tree's own level
--   place_is_subtree     a block's place and count: of the element and all below it
--   block_is_part        the part itself
--   BlockAndPlace, block_and_place   block is empty exactly if block_place refuses, and else is the part at that place
use Rattle.std.specs.Prelude.{ℕ, ◌+◌, ◌*◌, ◌-◌, ◌≡◌, refl, length, take, drop, Ok, Err}
use Rattle.std.proofs.Math.Path.{ap}
use Rattle.std.proofs.Common.{◌∙◌, sym, arith}
use mathlib.Core.List.Memᴰ
use mathlib.Core.List.{List, [], ◌∷◌, map}
use Rattle.trees.specs.Tree.{Forest, elem, whole}
use Rattle.trees.specs.Nodes.{Node, here, under, beside, Ancestor, ancestors, level_of}
use Rattle.trees.specs.Ranks.{pre, held_by}
use Rattle.trees.specs.Signature.{entries_of, width, entries}
use Rattle.trees.specs.NodeRanks.{pre_low, pre_high}
use Rattle.trees.specs.NodeAncestors.{ancestor_below, below_ancestor, ancestors_sound, ancestors_complete}
use Rattle.trees.specs.Meanings.{ff_is}
use Rattle.terms.specs.declared.Kind.{Kind}
use Rattle.terms.specs.declared.Refusal.{Refusal}
use Rattle.checked.specs.Yields.{Words, Yields}
use Rattle.checked.specs.Accepted.{TreeOf, tree_of}
use Rattle.xpath.specs.OnNodes.{InOrder, Lists}
use Rattle.xpath.specs.NodeLists.{lists_unique}
use Rattle.blocks.specs.Level.{LevelPromise, LevelAnswer}
use Rattle.blocks.specs.Block.{place_told, place_refused, place_worked, place_within, place_answer, PlacePromise, part_at, BlockPromise, PlaceAnswer}
use Rattle.blocks.proofs.Calls.{after_accepted, place_yes, rank_yes}
use Rattle.axes_told.specs.OneResult.{place_apart, block_at_place, refused_block_empty, told_block_some}
use Rattle.checked.specs.Wholly.{yields_accepted}
use Rattle.axes_told.specs.Xpath.{level_is_ancestors}

-- ---- the ancestors of an element, in document order

order_under : (a : ℕ) (below after : Forest) (l : List (Node below)) → InOrder l → InOrder {f = elem a below after} (map under l)
order_under a below after [] o = tt
order_under a below after (x ∷ l) o = ((λ y m. let s = Memᴰ.of_map under l m in rw (← s.2) (o.0 s.0 s.1)), order_under a below after l o.1)

order_beside : (a : ℕ) (below after : Forest) (l : List (Node after)) → InOrder l → InOrder {f = elem a below after} (map beside l)
order_beside a below after [] o = tt
order_beside a below after (x ∷ l) o = ((λ y m. let s = Memᴰ.of_map beside l m in rw (← s.2) (o.0 s.0 s.1)), order_beside a below after l o.1)

pub ancestors_order : {f : Forest} (y : Node f) → InOrder (ancestors y)
unfolding ancestors
ancestors_order here = tt
ancestors_order (under {a = a} {below = b} {after = r} y) = ((λ z m. let s = Memᴰ.of_map under (ancestors y) m in rw (← s.2) tt), order_under a b r (ancestors y) (ancestors_order y))
ancestors_order (beside {a = a} {below = b} {after = r} y) = order_beside a b r (ancestors y) (ancestors_order y)

pub ancestors_listed : {f : Forest} (x : Node f) → Lists (λ z. Ancestor z x) (ancestors x)
ancestors_listed x = record {
  order = ancestors_order x;
  sound = λ z m. below_ancestor z x (ancestors_sound z x m);
  complete = λ z a. ancestors_complete z x (ancestor_below a);
}

-- ---- on the signature of a tree

module _ (s : List ℕ) (w : Words s) (y : Yields Kind.Data s) (x : Node (whole y.tree)) where
  pub level_is_level_of : (r : LevelAnswer) → LevelPromise s (pre x) r → r ≡ Ok (level_of x)
  unfolding level_of
  level_is_level_of r h =
      let a = level_is_ancestors s w y x r h in
      a.2 ∙ ap (λ (l : List (Node (whole y.tree))). Ok (length l)) (lists_unique (λ z. Ancestor z x) a.0 (ancestors x) a.1 (ancestors_listed x))

  of : TreeOf s y.tree
  of = tree_of s y.tree y.is

  told : place_answer s (pre x) ≡ place_worked (4 * (pre x - 1)) (4 * (1 + held_by x))
  told =
      let q : (entries_of width s).ff (pre x) - pre x ≡ 1 + held_by x = omega (arith, ff_is y.tree (entries_of width s) of.holds x, pre_low x) in
      after_accepted s place_refused (place_within s (pre x)) (Ok tt) (yields_accepted Kind.Data s y) refl
      ∙ place_yes s (pre x) (rank_yes (entries s) (pre x) (pre_low x) (omega (arith, pre_high x, of.count)))
      ∙ ap (λ (k : ℕ). place_worked (4 * (pre x - 1)) (4 * k)) q

  pub place_is_subtree : (r : PlaceAnswer) → PlacePromise s (pre x) r → r ≡ Ok ((4 * (pre x - 1)), (4 * (1 + held_by x)))
  place_is_subtree r h = place_apart r (Ok ((4 * (pre x - 1)), (4 * (1 + held_by x)))) (h ∙ told)

  pub block_is_part : (b : List ℕ) → BlockPromise s (pre x) b → b ≡ take (4 * (1 + held_by x)) (drop (4 * (pre x - 1)) s)
  block_is_part b h = h ∙ ap (part_at s) told

-- ---- block and block_place

-- "block is empty exactly if block_place refuses, and else is the part at that place"
pub record BlockAndPlace (s : List ℕ) (r : PlaceAnswer) (b : List ℕ) : Type 0 where
  pub empty : (why : Refusal) → r ≡ Err why → b ≡ []
  pub refused : b ≡ [] → (why : Refusal) × (r ≡ Err why)
  pub part : (first count : ℕ) → r ≡ Ok (first, count) → b ≡ take count (drop first s)

pub block_and_place : (s : List ℕ) (i : ℕ) (r : PlaceAnswer) (b : List ℕ) → PlacePromise s i r → BlockPromise s i b → BlockAndPlace s r b
block_and_place s i r b p q = record {
  empty = λ why e. refused_block_empty s i why b (ap place_told (sym e) ∙ p) q;
  refused = go r p;
  part = λ first count e. block_at_place s i first count b (ap place_told (sym e) ∙ p) q;
}
  where
    go : (r : PlaceAnswer) → PlacePromise s i r → b ≡ [] → (why : Refusal) × (r ≡ Err why)
    go (Err why) h e = (why, refl)
    go (Ok (first, count)) h e = absurd (omega (arith, told_block_some s i first count b h q, ap length e))
