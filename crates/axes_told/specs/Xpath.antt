-- The theorems of the axes, the block and the level: on the left a public call's answer, by its promise, on the right a tree and its elements.
--   axis_is_xpath        an axis call answers the elements of XPath's node set, in document order, each once
--   level_is_ancestors   a level call answers the number of ancestors
--   block_is_subtree     a block has the entries of an element and of all below it, and no other
use Rattle.std.specs.Prelude.{ℕ, ◌+◌, ◌*◌, ◌-◌, ◌≤◌, ◌<◌, ◌≡◌, ◌⊎◌, true, length, drop, Ok}
use Rattle.std.proofs.Math.Path.{refl, ap}
use Rattle.std.proofs.Common.{◌∙◌, sym, inl, inr, ⊎_elim, arith, eq-or-lt_of_le}
use mathlib.Core.List.Memᴰ
use mathlib.Core.List.{List, [], ◌∷◌, ◌++◌, map}
use Rattle.std.proofs.lemmas.List.{length-map}
use borrow.Author.Tests.{lt-ltb, le-leb}
use Rattle.trees.specs.Tree.{Tree, whole, size}
use Rattle.trees.specs.Nodes.{Node, Ancestor}
use Rattle.trees.specs.Ranks.{pre}
use Rattle.trees.specs.Signature.{entries_of, width, entries}
use Rattle.trees.specs.NodeRanks.{pre_low, pre_high, pre_injective}
use Rattle.trees.specs.NodeOrder.{before_pre}
use Rattle.trees.specs.NodeAncestors.{ancestor_below, below_ancestor}
use Rattle.trees.specs.Meanings.{below_ff, ff_below}
use Rattle.terms.specs.declared.Kind.{Kind}
use Rattle.terms.specs.Stops.{worked, refused_as, answered, Written}
use Rattle.checked.specs.Yields.{Words, Yields}
use Rattle.checked.specs.Accepted.{TreeOf, tree_of}
use Rattle.checked.specs.Wholly.{yields_accepted}
use Rattle.xpath.specs.Select.{up_to, rises, within}
use Rattle.xpath.specs.Axes.{on_axis, in_answer, answer_of}
use Rattle.xpath.specs.Axes as Axes
use Rattle.xpath.specs.OnNodes.{InOrder, Lists, InUnion}
use Rattle.xpath.proofs.Says.{union_listed, axis_says}
use Rattle.xpath.specs.NodeLists.{selected}
use Rattle.blocks.specs.Level.{level_worked, level_refused, level_within, LevelPromise, LevelAnswer}
use Rattle.blocks.specs.Block.{place_refused, place_within, block_place, PlacePromise, PlaceAnswer}
use Rattle.terms.specs.Room.{Left, refused_left, room_for}
use Rattle.marks.specs.Axis.{axis_within, axis_answer, answer_in, AxisPromise}
use Rattle.blocks.specs.Checked.{after_check}
use Rattle.axes_told.specs.OneResult.{level_apart, place_apart}
use Rattle.blocks.proofs.Calls.{rank_yes, after_accepted, level_yes, place_yes}
use Rattle.marks.proofs.Calls.{within_fine, fine_low, room_enough, room_short}

module _ (s : List ℕ) (w : Words s) (y : Yields Kind.Data s) where
  abbrev t : Tree
  t = y.tree

  of : TreeOf s t
  of = tree_of s t y.is

  -- ---- the axes

  -- contexts in document order are strictly ascending ranks
  ranks_within : (xs : List (Node (whole t))) → within (entries s) (map pre xs) ≡ true
  unfolding within
  ranks_within [] = refl
  ranks_within (x ∷ xs) = simp (le-leb 1 (pre x) (pre_low x), le-leb (pre x) (entries s) (omega (arith, pre_high x, of.count))) (ranks_within xs)

  ranks_rise : (xs : List (Node (whole t))) → InOrder xs → rises (map pre xs) ≡ true
  unfolding rises
  ranks_rise [] o = refl
  ranks_rise (x ∷ []) o = refl
  ranks_rise (x ∷ (z ∷ xs)) o = simp (lt-ltb (pre x) (pre z) (before_pre x z (o.0 z (Memᴰ.head refl)))) (ranks_rise (z ∷ xs) o.1)

  -- what an axis call answers and leaves, said of a list of elements
  pub record Answers (room : List ℕ) (r : Written) (after : List ℕ) (l : List (Node (whole t))) : Type 0 where
    pub enough : length l ≤ length room → (answered r ≡ worked (length l)) × (after ≡ map pre l ++ drop (length l) room)
    pub short : length room < length l → (answered r ≡ refused_as 10 0) × (after ≡ room)

  pub axis_is_xpath : (xs : List (Node (whole t))) → InOrder xs → (axis name p : ℕ) → axis ≤ 10 → (room : List ℕ) (r : Written) (after : List ℕ)
      → AxisPromise s (map pre xs) axis name p room r after
      → (l : List (Node (whole t))) × Lists (InUnion axis name p xs) l × Answers room r after l
  axis_is_xpath xs o axis name p small room r after h =
      let u = union_listed t (entries_of width s) of.holds axis name p xs in
      (u.0, u.1, answers u.0 (ranked u.0 u.2))
    where
      ranked : (l : List (Node (whole t)))
          → up_to (size (whole t)) (in_answer axis (size (whole t)) (entries_of width s).fa (entries_of width s).name name p (map pre xs)) ≡ map pre l
          → answer_in s (map pre xs) axis name p ≡ map pre l
      ranked l q = ap (λ (k : ℕ). answer_of axis k (entries_of width s).fa (entries_of width s).name name p (map pre xs)) (sym of.count) ∙ q

      left : axis_answer s (map pre xs) axis name p room ≡ room_for room (answer_in s (map pre xs) axis name p)
      left =
          after_accepted s (refused_left room) (axis_within s (map pre xs) axis name p room) (Ok tt) (yields_accepted Kind.Data s y) refl
          ∙ within_fine s (map pre xs) axis name p room
          (fine_low axis (entries s) (map pre xs) small ∙ simp (ranks_within xs, ranks_rise xs o))

      answers : (l : List (Node (whole t))) → answer_in s (map pre xs) axis name p ≡ map pre l → Answers room r after l
      answers l q = record {
        enough = λ g.
            let a = left ∙ ap (room_for room) q ∙ room_enough room (map pre l) (omega (arith, length-map l pre)) in (
              h.told ∙ ap (λ (x : Left). x.answer) a ∙ ap worked (length-map l pre),
              h.left ∙ ap (λ (x : Left). x.room) a ∙ ap (λ (k : ℕ). map pre l ++ drop k room) (length-map l pre),
            );
        short = λ g.
            let a = left ∙ ap (room_for room) q ∙ room_short room (map pre l) (omega (arith, length-map l pre)) in
            (h.told ∙ ap (λ (x : Left). x.answer) a, h.left ∙ ap (λ (x : Left). x.room) a);
      }

  -- ---- the level

  pub level_is_ancestors : (x : Node (whole t)) (r : LevelAnswer) → LevelPromise s (pre x) r
      → (l : List (Node (whole t))) × Lists (λ z. Ancestor z x) l × (r ≡ Ok (length l))
  unfolding on_axis Axes.level_of
  level_is_ancestors x r h =
      let e = entries_of width s in
      let c = selected {f = whole t} (λ j. on_axis 5 (size (whole t)) e.fa (pre x) j) (size (whole t)) (omega arith) in (
        c.0,
        record {
          order = c.1.order;
          sound = λ z m. (axis_says t e of.holds 5 x z).says (c.1.sound z m).0;
          complete = λ z a. c.1.complete z ((axis_says t e of.holds 5 x z).holds a) (pre_high z);
        },
        level_apart r (Ok (length c.0)) (h ∙ told ∙ ap level_worked (counted c.0 c.1.ranks)),
      )
    where
      told : after_check s level_refused (level_within s (pre x)) ≡ level_worked (Axes.level_of (entries s) (entries_of width s).fa (pre x))
      told =
          after_accepted s level_refused (level_within s (pre x)) (Ok tt) (yields_accepted Kind.Data s y) refl
          ∙ level_yes s (pre x) (rank_yes (entries s) (pre x) (pre_low x) (omega (arith, pre_high x, of.count)))

      counted : (l : List (Node (whole t))) → up_to (size (whole t)) (λ j. on_axis 5 (size (whole t)) (entries_of width s).fa (pre x) j) ≡ map pre l
          → Axes.level_of (entries s) (entries_of width s).fa (pre x) ≡ length l
      counted l q = ap (λ (k : ℕ). Axes.level_of k (entries_of width s).fa (pre x)) (sym of.count) ∙ ap length q ∙ length-map l pre

  -- ---- the block

  -- the entry of z lies within these numbers
  pub record EntryIn (z : Node (whole t)) (first count : ℕ) : Type 0 where
    pub after : first ≤ 4 * (pre z - 1)
    pub before : 4 * pre z ≤ first + count

  pub block_is_subtree : (x : Node (whole t)) (r : PlaceAnswer) → PlacePromise s (pre x) r
      → (first : ℕ) × (count : ℕ) × (r ≡ Ok (first, count))
      × ((z : Node (whole t)) → EntryIn z first count → (x ≡ z) ⊎ Ancestor x z)
      × ((z : Node (whole t)) → (x ≡ z) ⊎ Ancestor x z → EntryIn z first count)
  block_is_subtree x r h =
      (_, _, place_apart r (Ok (_, _)) (h ∙ told), inner, outer)
    where
      told : after_check s place_refused (place_within s (pre x)) ≡ block_place s (pre x)
      told =
          after_accepted s place_refused (place_within s (pre x)) (Ok tt) (yields_accepted Kind.Data s y) refl
          ∙ place_yes s (pre x) (rank_yes (entries s) (pre x) (pre_low x) (omega (arith, pre_high x, of.count)))

      inner : (z : Node (whole t)) → EntryIn z (4 * (pre x - 1)) (4 * ((entries_of width s).ff (pre x) - pre x)) → (x ≡ z) ⊎ Ancestor x z
      inner z b =
          let low = pre_low x in
          let l : pre x ≤ pre z = omega (arith, b.after, pre_low z) in
          let m : pre z < (entries_of width s).ff (pre x) = omega (arith, b.before, pre_low z) in
          ⊎_elim (λ (q : pre x ≡ pre z). inl (pre_injective x z q))
          (λ (q : pre x < pre z). inr (below_ancestor x z (ff_below t (entries_of width s) of.holds x z q m))) (eq-or-lt_of_le l)

      outer : (z : Node (whole t)) → (x ≡ z) ⊎ Ancestor x z → EntryIn z (4 * (pre x - 1)) (4 * ((entries_of width s).ff (pre x) - pre x))
      outer z (inl q) =
          let k = of.facts.each (pre x) (pre_low x) (omega (arith, pre_high x, of.count)) in
          let p = ap pre q in
          record { after = omega (arith, p); before = omega (arith, p, k.ff_low, pre_low x) }
      outer z (inr a) =
          let b = below_ff t (entries_of width s) of.holds x z (ancestor_below a) in
          record { after = omega (arith, b.0); before = omega (arith, b.0, b.1, pre_low x) }
