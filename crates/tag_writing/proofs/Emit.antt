-- Writing a tag list back: tag by tag it becomes the tag list of the tree that the signature tells.
--   ends_…                      the test for a close
--   emit_tags                    so many tags from an entry on
--   emit_row, emit_tree         over the entries of a row, and of a tree, they are its tags
--   tree_in_law                     the tree that a tree's signature tells is that tree
--   tag_bytes_length            six bytes for each element
--   emit_closed, emit_opened    a loop that writes: one tag less is left
--   emit_bytes                  what it has written at its end
use Prim.Native.Nat.{ℕ, zero, suc, ◌+◌, ◌*◌, ◌/◌, ◌≤◌, ◌<◌}
use mathlib.Core.Path.{◌≡◌, refl, ap, ◌∙◌, sym}
use mathlib.Core.Bool.{Bool, true, false, ◌&&◌}
use mathlib.Core.List.{List, [], ◌∷◌, ◌++◌, append_assoc, append-nil}
use native.Mathlib.Omega.{arith}
use lib.ListN.{length, length-append}
use lib.Seq.{sets}
use lib.Dec.{ltb, eqb}
use borrow.Author.Tests.{lt-ltb, le-ltb, eq-eqb, ne_eqb}
use Rattle.turns.specs.Pick.{pick}
use Rattle.trees.specs.Tree.{Forest, none, elem, size, Tree, whole}
use Rattle.trees.specs.Signature.{Entries, cell, entries_of, width, signature}
use Rattle.trees.specs.Rows.{Holds}
use Rattle.trees.specs.Listed.{signature_length, listed_whole}
use Rattle.trees.specs.Tags.{Tag, opens, closes, tags_of, tree_tags}
use Rattle.bytes_read.specs.Bytes.{low, high}
use Rattle.tag_scan.specs.TagLists.{tag_bytes}
use Rattle.bytes_read.proofs.Rooms.{Storing, storing_more}
use Rattle.tag_writing.specs.TagsBack.{row_from, tree_in, back_bytes, ends_at}

-- ---- bytes

pub bytes_append : (l m : List Tag) → tag_bytes (l ++ m) ≡ tag_bytes l ++ tag_bytes m
unfolding tag_bytes
bytes_append [] m = refl
bytes_append (opens a ∷ l) m = ap (λ (r : List ℕ). 79 ∷ 80 ∷ low a ∷ high a ∷ r) (bytes_append l m)
bytes_append (closes ∷ l) m = ap (λ (r : List ℕ). 67 ∷ 76 ∷ r) (bytes_append l m)

-- "6×n bytes"
pub tag_bytes_length : (f : Forest) → length (tag_bytes (tags_of f)) ≡ 6 * size f
unfolding tag_bytes tags_of
tag_bytes_length none = refl
tag_bytes_length (elem a k r) =
    let q = ap length (bytes_append (tags_of k) (closes ∷ tags_of r)) ∙ length-append (tag_bytes (tags_of k)) (tag_bytes (closes ∷ tags_of r)) in
    omega (arith, q, tag_bytes_length k, tag_bytes_length r)

-- ---- the tree that a signature tells

module _ (e : Entries) where
  pub row_in : (f : Forest) (k i up c j : ℕ) → Holds e f i up c → size f ≤ k → j ≡ i + size f → row_from e k i j ≡ f
  unfolding row_from
  row_in none zero i up c j h l q = refl
  row_in none (suc k) i up c j h l q = simp (le-ltb i j (omega arith))
  row_in (elem a b r) zero i up c j h l q = absurd (omega arith)
  row_in (elem a b r) (suc k) i up c j h l q =
      let low_is : ltb i j ≡ true = lt-ltb i j (omega arith) in
      ap (λ (t : Bool). pick t (elem (e.name i) (row_from e k (i + 1) (e.ff i)) (row_from e k (e.ff i) j)) none) low_is
      ∙ ap (λ (x : ℕ). elem x (row_from e k (i + 1) (e.ff i)) (row_from e k (e.ff i) j)) h.0.name_is
      ∙ ap (λ (x : Forest). elem a x (row_from e k (e.ff i) j)) (row_in b k (i + 1) i c (e.ff i) h.1 (omega arith) h.0.ff_is)
      ∙ ap (elem a b) (ap (λ (x : ℕ). row_from e k x j) h.0.ff_is
      ∙ row_in r k (i + 1 + size b) up (c + size b + 1) j h.2 (omega arith) (omega arith))

pub tree_in_law : (s : List ℕ) (t : Tree) → s ≡ signature t → tree_in s ≡ t
tree_in_law s t e =
    let h = listed_whole s (whole t) e in
    let n : size t.below ≤ length s / 4 = omega (arith, ap length e, signature_length (whole t) 1 0 0) in
    let b = row_in (entries_of width s) t.below (length s / 4) 2 1 0 (cell width s 1 2) h.1 n h.0.ff_is in
    λ i. record { name = h.0.name_is i; below = b i }

-- ---- one tag

module _ (s : List ℕ) (next top : ℕ) where
  pub ends_none : top ≤ 0 → ends_at s next top ≡ false
  unfolding ends_at
  ends_none h = simp (le-ltb _ _ h)

  pub ends_yes : 0 < top → cell width s top 2 ≡ next → ends_at s next top ≡ true
  unfolding ends_at
  ends_yes h k = simp (lt-ltb _ _ h, eq-eqb _ _ k)

  pub ends_no : (cell width s top 2 ≡ next → ⊥) → ends_at s next top ≡ false
  unfolding ends_at
  ends_no h = go (ltb 0 top)
    where
      go : (t : Bool) → (t && eqb (cell width s top 2) next) ≡ false
      go true = ne_eqb _ _ h
      go false = refl

-- ---- so many tags

module _ (s : List ℕ) where
  unfoldable pub emit_tags : ℕ → ℕ → ℕ → List Tag
  emit_tags zero i top = []
  emit_tags (suc k) i top = pick (ends_at s i top) (closes ∷ emit_tags k i (cell width s top 3)) (opens (cell width s i 0) ∷ emit_tags k (i + 1) i)

  tags_closing : (k i top : ℕ) → ends_at s i top ≡ true → emit_tags (suc k) i top ≡ closes ∷ emit_tags k i (cell width s top 3)
  unfolding emit_tags
  tags_closing k i top h = simp h

  tags_opening : (k i top : ℕ) → ends_at s i top ≡ false → emit_tags (suc k) i top ≡ opens (cell width s i 0) ∷ emit_tags k (i + 1) i
  unfolding emit_tags
  tags_opening k i top h = simp h

  -- over the entries of a row: its parent, if it has one, ends behind it
  emit_row : (f : Forest) (i up c m n : ℕ) → Holds (entries_of width s) f i up c → 1 ≤ i → (1 ≤ up → i + size f ≤ cell width s up 2)
      → n ≡ 2 * size f + m → emit_tags n i up ≡ tags_of f ++ emit_tags m (i + size f) up
  unfolding tags_of
  emit_row none i up c m n h l g q =
      let a : n ≡ m = omega arith in
      let b : i ≡ i + 0 = omega arith in
      ap (λ (x : ℕ). emit_tags x i up) a ∙ ap (λ (x : ℕ). emit_tags m x up) b
  emit_row (elem a k r) i up c m n h l g q =
      let first : n ≡ suc (2 * size k + suc (2 * size r + m)) = omega arith in
      let last : i + 1 + size k + size r ≡ i + size (elem a k r) = omega arith in
      ap (λ (x : ℕ). emit_tags x i up) first
      ∙ tags_opening (2 * size k + suc (2 * size r + m)) i up (opens_first up g)
      ∙ ap (λ (x : ℕ). opens x ∷ emit_tags (2 * size k + suc (2 * size r + m)) (i + 1) i) h.0.name_is
      ∙ ap (opens a ∷◌) (emit_row k (i + 1) i c (suc (2 * size r + m)) _ h.1 (omega arith) (λ w. omega (arith, h.0.ff_is)) refl
      ∙ ap (tags_of k ++◌) (tags_closing (2 * size r + m) (i + 1 + size k) i (ends_yes s (i + 1 + size k) i (omega arith) h.0.ff_is)
      ∙ ap (λ (x : ℕ). closes ∷ emit_tags (2 * size r + m) (i + 1 + size k) x) h.0.fa_is
      ∙ ap (closes ∷◌) (emit_row r (i + 1 + size k) up (c + size k + 1) m _ h.2 (omega arith) (λ w. omega (arith, g w)) refl
      ∙ ap (λ (x : ℕ). tags_of r ++ emit_tags m x up) last))
      ∙ sym (append_assoc (tags_of k) (closes ∷ tags_of r) (emit_tags m (i + size (elem a k r)) up)))
    where
      opens_first : (up : ℕ) → (1 ≤ up → i + size (elem a k r) ≤ cell width s up 2) → ends_at s i up ≡ false
      opens_first zero g = ends_none s i 0 (omega arith)
      opens_first (suc up) g = ends_no s i (suc up) (λ w. omega (arith, g (omega arith)))

  pub emit_tree : (t : Tree) (n : ℕ) → s ≡ signature t → size (whole t) ≡ n → emit_tags (2 * n) 1 0 ≡ tree_tags (tree_in s)
  unfolding emit_tags
  emit_tree t n e q =
      emit_row (whole t) 1 0 0 0 (2 * n) (listed_whole s (whole t) e) (omega arith) (λ w. absurd (omega arith)) (omega arith)
      ∙ append-nil (tree_tags t) ∙ ap tree_tags (sym (tree_in_law s t e))

  -- ---- a loop that writes

  pub emit_none : (m i top : ℕ) → m ≡ 0 → tag_bytes (emit_tags m i top) ≡ []
  unfolding emit_tags tag_bytes
  emit_none zero i top q = refl
  emit_none (suc m) i top q = absurd (omega arith)

  pub emit_bytes : (t : Tree) (n : ℕ) → s ≡ signature t → size (whole t) ≡ n → tag_bytes (emit_tags (2 * n) 1 0) ≡ back_bytes s
  emit_bytes t n e q = ap tag_bytes (emit_tree t n e q)

  pub back_length : (t : Tree) → s ≡ signature t → length (back_bytes s) ≡ 6 * size (whole t)
  back_length t e = ap (λ (x : Tree). length (tag_bytes (tree_tags x))) (tree_in_law s t e) ∙ tag_bytes_length (whole t)

  -- a tag is stored; `room₀` is the room at the beginning, n the number of entries
  module _ (room₀ : List ℕ) (n : ℕ) where
    abbrev pub Writes : List ℕ → ℕ → ℕ → ℕ → ℕ → Type 0
    Writes room m at next top = Storing room₀ (tag_bytes (emit_tags (2 * n) 1 0)) room at (tag_bytes (emit_tags m next top))

    module _ (room : List ℕ) (m rest at next top : ℕ) (g : Writes room m at next top) (q : m ≡ suc rest) where
      closing_bytes : ends_at s next top ≡ true → tag_bytes (emit_tags m next top) ≡ 67 ∷ 76 ∷ tag_bytes (emit_tags rest next (cell width s top 3))
      unfolding tag_bytes
      closing_bytes h = ap (λ (x : ℕ). tag_bytes (emit_tags x next top)) q ∙ ap tag_bytes (tags_closing rest next top h)

      opening_bytes : ends_at s next top ≡ false
          → tag_bytes (emit_tags m next top) ≡ 79 ∷ 80 ∷ low (cell width s next 0) ∷ high (cell width s next 0) ∷ tag_bytes (emit_tags rest (next + 1) next)
      unfolding tag_bytes
      opening_bytes h = ap (λ (x : ℕ). tag_bytes (emit_tags x next top)) q ∙ ap tag_bytes (tags_opening rest next top h)

      pub emit_closed : (up : ℕ) (after : List ℕ) → ends_at s next top ≡ true → up ≡ cell width s top 3 → after ≡ sets room at (67 ∷ 76 ∷ [])
          → Writes after rest (at + 2) next up
      emit_closed up after h u w =
          storing_more room₀ _ room at _ after (at + 2) (67 ∷ 76 ∷ []) (tag_bytes (emit_tags rest next up)) g
          (closing_bytes h ∙ ap (λ (x : ℕ). 67 ∷ 76 ∷ tag_bytes (emit_tags rest next x)) (sym u)) w refl

      pub emit_opened : (name : ℕ) (after : List ℕ) → ends_at s next top ≡ false → name ≡ cell width s next 0
          → after ≡ sets room at (79 ∷ 80 ∷ low name ∷ high name ∷ []) → Writes after rest (at + 4) (next + 1) next
      emit_opened name after h e w =
          storing_more room₀ _ room at _ after (at + 4) (79 ∷ 80 ∷ low name ∷ high name ∷ []) (tag_bytes (emit_tags rest (next + 1) next)) g
          (opening_bytes h ∙ ap (λ (x : ℕ). 79 ∷ 80 ∷ low x ∷ high x ∷ tag_bytes (emit_tags rest (next + 1) next)) (sym e)) w refl

      -- and the room has its place
      module _ (t : Tree) (e : s ≡ signature t) (z : size (whole t) ≡ n) (l : 6 * n ≤ length room₀) where
        all_fits : at + length (tag_bytes (emit_tags m next top)) ≤ length room
        all_fits = omega (arith, g.fits, g.long, ap length (emit_bytes t n e z), back_length t e)

        pub closed_fits : ends_at s next top ≡ true → at + 2 ≤ length room
        closed_fits h = omega (arith, all_fits, ap length (closing_bytes h))

        pub opened_fits : ends_at s next top ≡ false → at + 4 ≤ length room
        opened_fits h = omega (arith, all_fits, ap length (opening_bytes h))
