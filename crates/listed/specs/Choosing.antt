-- The loose question as a walk: the range of a node is the block below its parent's image, and a candidate is tested by node and entry.
--   parent_of w xs      the image of the next node's twig parent, by the images set before it
--   end_after n e w xs  one past the range of the next node
--   choices n e w pass  the walk, where pass tests a candidate for a node
--   loose_answers n m e w   all loose answers, ascending, in twig preorder: by names alone, so that no table is named
--   choices_plain      it goes by ones
--   NodeFits           what the walk asks of one node's image
--   end_high           the range of the next node ends at n+1 or before
--   nodes_of, of_nodes  the images are in range exactly if each node's is
use Prim.Native.Nat.{ℕ, suc, ◌+◌, ◌≤◌, ◌<◌}
use Rattle.std.specs.Prelude.{◌≡◌, Bool, true, length}
use Rattle.std.proofs.Math.Path.{refl}
use Rattle.std.proofs.Common.{sym, subst}
use mathlib.Core.List.{List, [], ◌∷◌, map, reverse}
use native.Mathlib.Omega.{arith}
use Rattle.std.proofs.Math.Decide.{ℕ_discrete}
use Rattle.trees.specs.Signature.{Entries}
use Rattle.trees.specs.Facts.{Facts}
use Rattle.walks.specs.Image.{pass_of}
use Rattle.walks.specs.Walking.{Choices, answers_from}
use Rattle.walks.specs.Plain.{Plain, Inside, InRange}
use Rattle.walks.specs.Room.{image_of, image_top, image_down}

-- the image of the next node's twig parent; what stands above the root has image 0
unfoldable pub parent_of : Entries → List ℕ → ℕ
parent_of w xs = image_of xs (w.fa (suc (length xs)))

-- "The range of node 1 is 1 to n; of a later node, the block below its parent's image"
abbrev pub end_after : ℕ → Entries → Entries → List ℕ → ℕ
end_after n e w [] = n + 1
end_after n e w (x ∷ xs) = e.ff (parent_of w (x ∷ xs))

-- from the parent's image plus one, by ones, to the end of the range
abbrev pub choices : ℕ → Entries → Entries → (ℕ → ℕ → Bool) → Choices
choices n e w pass = record {
  begin = λ xs. suc (parent_of w xs);
  next = λ xs c. suc c;
  end = end_after n e w;
  test = λ xs c. pass (suc (length xs)) c;
}

pub choices_plain : (n : ℕ) (e w : Entries) (pass : ℕ → ℕ → Bool) → Plain (choices n e w pass)
choices_plain n e w pass xs c = refl

-- all loose answers, ascending
unfoldable pub loose_answers : ℕ → ℕ → Entries → Entries → List (List ℕ)
loose_answers n m e w = map reverse (answers_from (choices n e w (pass_of e w)) m [])

-- ---- the images, node by node

module _ (n m : ℕ) (e w : Entries) (tree : Facts n e) (twig : Facts m w) (pass : ℕ → ℕ → Bool) where
  -- the image of node q is a rank, greater than its twig parent's, in the parent's block, and passes
  pub record NodeFits (z : List ℕ) (q : ℕ) : Type 0 where
    pub above : image_of z (w.fa q) < image_of z q
    pub high : image_of z q ≤ n
    pub within : 1 < q → image_of z q < e.ff (image_of z (w.fa q))
    pub test : pass q (image_of z q) ≡ true

  -- images set later change nothing of a node
  node_down : (x : ℕ) (xs : List ℕ) (q : ℕ) → 1 ≤ q → q ≤ length xs → length xs < m → NodeFits xs q → NodeFits (x ∷ xs) q
  node_down x xs q a b c h =
      let f : w.fa q < q = (twig.each q a (omega arith)).fa_high in
      let i : image_of (x ∷ xs) q ≡ image_of xs q = image_down x xs q b in
      let j : image_of (x ∷ xs) (w.fa q) ≡ image_of xs (w.fa q) = image_down x xs (w.fa q) (omega arith) in
      record { above = rw (i, j) h.above; high = rw i h.high; within = λ l. rw (i, j) (h.within l); test = rw i h.test }

  node_up : (x : ℕ) (xs : List ℕ) (q : ℕ) → 1 ≤ q → q ≤ length xs → length xs < m → NodeFits (x ∷ xs) q → NodeFits xs q
  node_up x xs q a b c h =
      let f : w.fa q < q = (twig.each q a (omega arith)).fa_high in
      let i : image_of (x ∷ xs) q ≡ image_of xs q = image_down x xs q b in
      let j : image_of (x ∷ xs) (w.fa q) ≡ image_of xs (w.fa q) = image_down x xs (w.fa q) (omega arith) in
      record {
        above = rw (i, j) at h.above;
        high = rw i at h.high;
        within = λ l. rw (i, j) at (h.within l);
        test = rw i at h.test;
      }

  -- the range of the next node ends at n+1 or before
  pub end_high : (xs : List ℕ) → ((q : ℕ) → 1 ≤ q → q ≤ length xs → NodeFits xs q) → length xs < m → end_after n e w xs ≤ n + 1
  unfolding parent_of
  end_high [] h l = omega arith
  end_high (x ∷ xs) h l =
      let k = suc (suc (length xs)) in
      let f : w.fa k < k = (twig.each k (omega arith) l).fa_high in
      let p = h (w.fa k) (twig.inner k (omega arith) l) (omega arith) in
      (tree.each (image_of (x ∷ xs) (w.fa k)) (omega (arith, p.above)) p.high).ff_high

  -- the last image, in its range
  head_of : (x : ℕ) (xs : List ℕ) → length xs < m → ((q : ℕ) → 1 ≤ q → q ≤ length xs → NodeFits xs q)
      → Inside (choices n e w pass) xs x → NodeFits (x ∷ xs) (suc (length xs))
  unfolding parent_of
  head_of x xs c h i =
      let k = suc (length xs) in
      let f : w.fa k < k = (twig.each k (omega arith) c).fa_high in
      let t : image_of (x ∷ xs) k ≡ x = image_top x xs k refl in
      let j : image_of (x ∷ xs) (w.fa k) ≡ image_of xs (w.fa k) = image_down x xs (w.fa k) (omega arith) in
      record {
        above = rw (t, j) i.low;
        high = rw t (omega (arith, i.high, end_high xs h c));
        within = λ l. rw (t, j) (inner xs i.high l);
        test = rw t i.passes;
      }
    where
      inner : (ys : List ℕ) → x < end_after n e w ys → 1 < suc (length ys) → x < e.ff (image_of ys (w.fa (suc (length ys))))
      inner [] l g = absurd (omega arith)
      inner (y ∷ ys) l g = l

  pub nodes_of : (z : List ℕ) → length z ≤ m → InRange (choices n e w pass) z → (q : ℕ) → 1 ≤ q → q ≤ length z → NodeFits z q
  nodes_of [] l g q a b = absurd (omega arith)
  nodes_of (x ∷ xs) l g q a b = by (λ r c d. nodes_of xs (omega arith) g.1 r c d) (ℕ_discrete q (suc (length xs)))
    where
      by : ((r : ℕ) → 1 ≤ r → r ≤ length xs → NodeFits xs r) → Dec (q ≡ suc (length xs)) → NodeFits (x ∷ xs) q
      by ih (yes k) = subst (NodeFits (x ∷ xs)) (sym k) (head_of x xs l ih g.0)
      by ih (no k) = node_down x xs q a (omega arith) l (ih q a (omega arith))

  -- the last image fits where its node does
  of_head : (x : ℕ) (xs : List ℕ) → length xs < m → NodeFits (x ∷ xs) (suc (length xs)) → Inside (choices n e w pass) xs x
  unfolding parent_of
  of_head x xs c h =
      let k = suc (length xs) in
      let f : w.fa k < k = (twig.each k (omega arith) c).fa_high in
      let t : image_of (x ∷ xs) k ≡ x = image_top x xs k refl in
      let j : image_of (x ∷ xs) (w.fa k) ≡ image_of xs (w.fa k) = image_down x xs (w.fa k) (omega arith) in
      record {
        low = rw (t, j) at h.above;
        high = outer xs (omega (arith, h.high)) (λ l. rw (t, j) at (h.within l));
        passes = rw t at h.test;
      }
    where
      outer : (ys : List ℕ) → x < n + 1 → (1 < suc (length ys) → x < e.ff (image_of ys (w.fa (suc (length ys))))) → x < end_after n e w ys
      outer [] l g = l
      outer (y ∷ ys) l g = g (omega arith)

  pub of_nodes : (z : List ℕ) → length z ≤ m → ((q : ℕ) → 1 ≤ q → q ≤ length z → NodeFits z q) → InRange (choices n e w pass) z
  of_nodes [] l h = tt
  of_nodes (x ∷ xs) l h = (
    of_head x xs l (h (suc (length xs)) (omega arith) (omega arith)),
    of_nodes xs (omega arith) (λ q a b. node_up x xs q a b l (h q a (omega arith))),
  )
