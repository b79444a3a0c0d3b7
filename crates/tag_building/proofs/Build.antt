-- Building a signature in the room: tag by tag it becomes the signature of the tree that the tags tell.
--   close_…                one tag
--   build_of               all tags of a list
--   build_row, build_tree  the tags of a row, and of a tree, leave its signature in the room
--   whole_numbers         tags that are one whole tree: which tree, and its signature
--   Built, built_…        a loop that builds
use Prim.Native.Nat.{ℕ, suc, ◌+◌, ◌-◌, ◌*◌, ◌≤◌, ◌<◌}
use mathlib.Core.Path.{◌≡◌, refl, ap, ◌∙◌, sym}
use mathlib.Core.Bool.{Bool, true, false}
use mathlib.Core.List.{List, [], ◌∷◌, ◌++◌, append_assoc, append-nil}
use native.Mathlib.Omega.{arith}
use lib.ListN.{length, get_or, drop, set, length-append, length-drop}
use lib.Seq.{sets, length-sets, set_at, get_or_at, drop-drop}
use borrow.Author.Tests.{ne_eqb, le-ltb}
use Rattle.turns.specs.Pick.{pick}
use Rattle.trees.specs.Tree.{Forest, none, elem, size, Tree, whole}
use Rattle.trees.specs.Signature.{row_signature, signature}
use Rattle.trees.specs.Listed.{signature_length}
use Rattle.trees.specs.Tags.{Tag, opens, closes, tags_of, tree_tags, tree_of, WholeTags}
use Rattle.trees.specs.TagLaws.{tags_length, tags_read}
use Rattle.trees.specs.Nesting.{nested_tree}
use Rattle.bytes_read.specs.Bytes.{number_at}
use Rattle.terms.specs.Room.{front_with}
use Rattle.tag_scan.specs.TagLists.{opening, tags_from, tree_numbers, numbers_in}
use Rattle.tag_scan.proofs.TagsFrom.{tags_length_from, tags_open, tags_close, tags_none}
use Rattle.tag_building.specs.Builds.{open_room, lacks, close_room, parent_in}

-- ---- one tag

module _ (room : List ℕ) (top : ℕ) where
  has_entry : 0 < top → 4 * top ≤ length room → lacks room top ≡ false
  has_entry h l = simp (ne_eqb (4 * top) 0 (λ z. omega (arith, z)), le-ltb _ _ l)

  close_in : (p f : ℕ) → 0 < top → 4 * top ≤ length room → close_room room top p f ≡ sets room (4 * top - 3) (p ∷ f ∷ [])
  unfolding close_room
  close_in p f h l = simp (has_entry h l)

  parent_in_law : 0 < top → 4 * top ≤ length room → parent_in room top ≡ get_or room (4 * top - 1) 0
  unfolding parent_in
  parent_in_law h l = simp (has_entry h l)

  pub close_long : (p f : ℕ) → length (close_room room top p f) ≡ length room
  unfolding close_room
  close_long p f = go (lacks room top)
    where
      go : (t : Bool) → length (pick t room (sets room (4 * top - 3) (p ∷ f ∷ []))) ≡ length room
      go true = refl
      go false = length-sets room (4 * top - 3) (p ∷ f ∷ [])

-- ---- all tags of a list: i elements opened, top the innermost open one, c closed

unfoldable pub build_of : List Tag → ℕ → ℕ → ℕ → List ℕ → List ℕ
build_of [] i top c room = room
build_of (opens a ∷ l) i top c room = build_of l (i + 1) (i + 1) c (open_room room i a top)
build_of (closes ∷ l) i top c room = build_of l i (parent_in room top) (c + 1) (close_room room top (c + 1) (i + 1))

pub build_eq : (l : List Tag) {i j top up c d : ℕ} {room lent : List ℕ} → i ≡ j → top ≡ up → c ≡ d → room ≡ lent
    → build_of l i top c room ≡ build_of l j up d lent
build_eq l p q r s = cc

-- the room as a part that is written, and what comes after it
sets_seam : (pre : List ℕ) (x₀ x₁ x₂ x₃ : ℕ) (junk : List ℕ) (n a b c d : ℕ) → length pre ≡ n
    → sets (pre ++ x₀ ∷ x₁ ∷ x₂ ∷ x₃ ∷ junk) n (a ∷ b ∷ c ∷ d ∷ []) ≡ pre ++ a ∷ b ∷ c ∷ d ∷ junk
sets_seam pre x₀ x₁ x₂ x₃ junk n a b c d e =
    ap (λ (r : List ℕ). set (set (set r (suc n) b) (suc (suc n)) c) (suc (suc (suc n))) d) (set_at pre x₀ _ a n e)
    ∙ ap (λ (r : List ℕ). set (set r (suc (suc n)) c) (suc (suc (suc n))) d) (later (a ∷ []) x₁ (x₂ ∷ x₃ ∷ junk) b (suc n) (omega arith))
    ∙ ap (λ (r : List ℕ). set r (suc (suc (suc n))) d) (later (a ∷ b ∷ []) x₂ (x₃ ∷ junk) c (suc (suc n)) (omega arith))
    ∙ later (a ∷ b ∷ c ∷ []) x₃ junk d (suc (suc (suc n))) (omega arith)
  where
    later : (front : List ℕ) (x : ℕ) (rest : List ℕ) (v m : ℕ) → length pre + length front ≡ m
        → set (pre ++ (front ++ x ∷ rest)) m v ≡ pre ++ (front ++ v ∷ rest)
    later front x rest v m q =
        ap (λ (r : List ℕ). set r m v) (sym (append_assoc pre front (x ∷ rest)))
        ∙ set_at (pre ++ front) x rest v m (length-append pre front ∙ q)
        ∙ append_assoc pre front (v ∷ rest)

-- the entry of an element that closes: its parent is read, its post and ff are written
module _ (pre : List ℕ) (i a x y up : ℕ) (rest : List ℕ) (e : length pre ≡ 4 * i) where
  entry_fits : 4 * (i + 1) ≤ length (pre ++ a ∷ x ∷ y ∷ up ∷ rest)
  entry_fits = omega (arith, e, length-append pre (a ∷ x ∷ y ∷ up ∷ rest))

  entry_up : parent_in (pre ++ a ∷ x ∷ y ∷ up ∷ rest) (i + 1) ≡ up
  entry_up =
      parent_in_law _ _ (omega arith) entry_fits
      ∙ ap (λ (r : List ℕ). get_or r (4 * (i + 1) - 1) 0) (sym (append_assoc pre (a ∷ x ∷ y ∷ []) (up ∷ rest)))
      ∙ get_or_at (pre ++ a ∷ x ∷ y ∷ []) up rest 0 (4 * (i + 1) - 1) (length-append pre (a ∷ x ∷ y ∷ []) ∙ omega arith)

  entry_closed : (p f : ℕ) → close_room (pre ++ a ∷ x ∷ y ∷ up ∷ rest) (i + 1) p f ≡ pre ++ a ∷ p ∷ f ∷ up ∷ rest
  entry_closed p f =
      close_in _ _ p f (omega arith) entry_fits
      ∙ ap (λ (r : List ℕ). set (set r (4 * (i + 1) - 3) p) (suc (4 * (i + 1) - 3)) f) (sym (append_assoc pre (a ∷ []) (x ∷ y ∷ up ∷ rest)))
      ∙ ap (λ (r : List ℕ). set r (suc (4 * (i + 1) - 3)) f)
      (set_at (pre ++ a ∷ []) x (y ∷ up ∷ rest) p (4 * (i + 1) - 3) (length-append pre (a ∷ []) ∙ omega arith)
      ∙ append_assoc pre (a ∷ []) (p ∷ y ∷ up ∷ rest) ∙ sym (append_assoc pre (a ∷ p ∷ []) (y ∷ up ∷ rest)))
      ∙ set_at (pre ++ a ∷ p ∷ []) y (up ∷ rest) f (suc (4 * (i + 1) - 3)) (length-append pre (a ∷ p ∷ []) ∙ omega arith)
      ∙ append_assoc pre (a ∷ p ∷ []) (f ∷ up ∷ rest)

-- ---- the tags of a row leave its signature

pub build_row : (f : Forest) (l : List Tag) (i top c : ℕ) (pre junk : List ℕ) → length pre ≡ 4 * i → 4 * size f ≤ length junk
    → build_of (tags_of f ++ l) i top c (pre ++ junk)
    ≡ build_of l (i + size f) top (c + size f) ((pre ++ row_signature f (i + 1) top c) ++ drop (4 * size f) junk)
unfolding tags_of build_of
build_row none l i top c pre junk e h =
    build_eq l (omega arith) refl (omega arith) (ap (λ (r : List ℕ). r ++ junk) (sym (append-nil pre)))
build_row (elem a k r) l i top c pre [] e h = absurd (omega arith)
build_row (elem a k r) l i top c pre (x₀ ∷ []) e h = absurd (omega arith)
build_row (elem a k r) l i top c pre (x₀ ∷ x₁ ∷ []) e h = absurd (omega arith)
build_row (elem a k r) l i top c pre (x₀ ∷ x₁ ∷ x₂ ∷ []) e h = absurd (omega arith)
build_row (elem a k r) l i top c pre (x₀ ∷ x₁ ∷ x₂ ∷ x₃ ∷ junk) e h =
    ap (λ (t : List Tag). build_of t (i + 1) (i + 1) c (open_room (pre ++ x₀ ∷ x₁ ∷ x₂ ∷ x₃ ∷ junk) i a top))
    (append_assoc (tags_of k) (closes ∷ tags_of r) l)
    ∙ build_eq (tags_of k ++ closes ∷ (tags_of r ++ l)) refl refl refl
    (sets_seam pre x₀ x₁ x₂ x₃ junk (4 * i) a 0 0 top e ∙ sym (append_assoc pre (a ∷ 0 ∷ 0 ∷ top ∷ []) junk))
    ∙ build_row k (closes ∷ (tags_of r ++ l)) (i + 1) (i + 1) c (pre ++ a ∷ 0 ∷ 0 ∷ top ∷ []) junk
    (length-append pre (a ∷ 0 ∷ 0 ∷ top ∷ []) ∙ omega arith) (omega arith)
    ∙ build_eq (closes ∷ (tags_of r ++ l)) {room = lower 0 0} refl refl refl (ap (λ (s : List ℕ). s ++ rest) (append_assoc pre (a ∷ 0 ∷ 0 ∷ top ∷ []) below) ∙ append_assoc pre (a ∷ 0 ∷ 0 ∷ top ∷ below) rest)
    ∙ build_eq (tags_of r ++ l) refl (entry_up pre i a 0 0 top (below ++ rest) e) refl
    (entry_closed pre i a 0 0 top (below ++ rest) e (c + size k + 1) (i + 1 + size k + 1))
    ∙ build_eq (tags_of r ++ l) {lent = upper ++ rest} refl refl refl seam
    ∙ build_row r l (i + 1 + size k) top (c + size k + 1) upper rest upper_length (omega (arith, length-drop (4 * size k) junk))
    ∙ build_eq l (omega arith) refl (omega arith) last
  where
    below : List ℕ
    below = row_signature k (i + 1 + 1) (i + 1) c

    rest : List ℕ
    rest = drop (4 * size k) junk

    lower : ℕ → ℕ → List ℕ
    lower p f = ((pre ++ a ∷ p ∷ f ∷ top ∷ []) ++ below) ++ rest

    upper : List ℕ
    upper = pre ++ a ∷ (c + size k + 1) ∷ (i + 1 + size k + 1) ∷ top ∷ below

    seam : pre ++ a ∷ (c + size k + 1) ∷ (i + 1 + size k + 1) ∷ top ∷ (below ++ rest) ≡ upper ++ rest
    seam = sym (append_assoc pre (a ∷ (c + size k + 1) ∷ (i + 1 + size k + 1) ∷ top ∷ below) rest)

    upper_length : length upper ≡ 4 * (i + 1 + size k)
    upper_length = length-append pre _ ∙ omega (arith, signature_length k (i + 1 + 1) (i + 1) c)

    last : (upper ++ row_signature r (i + 1 + size k + 1) top (c + size k + 1)) ++ drop (4 * size r) rest
        ≡ (pre ++ row_signature (elem a k r) (i + 1) top c) ++ drop (4 * size (elem a k r)) (x₀ ∷ x₁ ∷ x₂ ∷ x₃ ∷ junk)
    last = ap (λ (s : List ℕ). s ++ drop (4 * size r) rest) front ∙ ap (λ (s : List ℕ). (pre ++ row_signature (elem a k r) (i + 1) top c) ++ s) back
      where
        next : i + 1 + size k + 1 ≡ i + 1 + 1 + size k
        next = omega arith

        front : upper ++ row_signature r (i + 1 + size k + 1) top (c + size k + 1) ≡ pre ++ row_signature (elem a k r) (i + 1) top c
        front =
            append_assoc pre (a ∷ (c + size k + 1) ∷ (i + 1 + size k + 1) ∷ top ∷ below) _
            ∙ ap (λ (z : ℕ). pre ++ a ∷ (c + size k + 1) ∷ z ∷ top ∷ (below ++ row_signature r z top (c + size k + 1))) next

        many : suc (suc (suc (suc (4 * size k + 4 * size r)))) ≡ 4 * size (elem a k r)
        many = omega arith

        back : drop (4 * size r) rest ≡ drop (4 * size (elem a k r)) (x₀ ∷ x₁ ∷ x₂ ∷ x₃ ∷ junk)
        back = drop-drop (4 * size r) (4 * size k) junk ∙ ap (λ (z : ℕ). drop z (x₀ ∷ x₁ ∷ x₂ ∷ x₃ ∷ junk)) many

-- the tags of a tree leave its signature at the front of the room
pub build_tree : (t : Tree) (room : List ℕ) → 4 * size (whole t) ≤ length room
    → build_of (tree_tags t) 0 0 0 room ≡ front_with (signature t) room
unfolding build_of
build_tree t room h =
    ap (λ (l : List Tag). build_of l 0 0 0 room) (sym (append-nil (tree_tags t)))
    ∙ build_row (whole t) [] 0 0 0 [] room refl h
    ∙ ap (λ (k : ℕ). signature t ++ drop k room) (sym (signature_length (whole t) 1 0 0))

-- tags that are one whole tree
pub record Told (b : List ℕ) (p n : ℕ) : Type 0 where
  pub tree : Tree
  pub tags : tree_tags tree ≡ tags_from b (2 * n) p
  pub many : size (whole tree) ≡ n
  pub numbers : numbers_in b p n ≡ signature tree

pub whole_numbers : (b : List ℕ) (p n : ℕ) → WholeTags (tags_from b (2 * n) p) → Told b p n
whole_numbers b p n h =
    let t = nested_tree (tags_from b (2 * n) p) h in
    record {
      tree = t.0;
      tags = t.1;
      many = omega (arith, tags_length (whole t.0), ap length t.1, tags_length_from b (2 * n) p);
      numbers = ap (λ (l : List Tag). tree_numbers (tree_of l)) (sym t.1) ∙ ap tree_numbers (tags_read t.0);
    }

-- ---- a loop that builds

-- size elements were opened and closed ones closed, by the tags from place p to place at: with any number of tags after them they make of the room at the
-- start what those after them make of the room here
pub record Built (b : List ℕ) (p : ℕ) (room₀ room : List ℕ) (at size top closed : ℕ) : Type 0 where
  pub same : (rest : ℕ) → build_of (tags_from b rest at) size top closed room ≡ build_of (tags_from b (size + closed + rest) p) 0 0 0 room₀
  pub long : length room ≡ length room₀

pub built_start : (b : List ℕ) (p : ℕ) (room : List ℕ) → Built b p room room p 0 0 0
built_start b p room = record {
  same = λ rest. let e : rest ≡ 0 + 0 + rest = omega arith in ap (λ (k : ℕ). build_of (tags_from b k p) 0 0 0 room) e;
  long = refl;
}

module _ (b : List ℕ) (p : ℕ) (room₀ room : List ℕ) (at size top closed : ℕ) (g : Built b p room₀ room at size top closed) where
  -- the tags of one whole tree leave its signature
  pub built_end : closed ≡ size → WholeTags (tags_from b (2 * size) p) → 4 * size ≤ length room₀ → room ≡ front_with (numbers_in b p size) room₀
  unfolding build_of
  built_end z w h =
      let t = whole_numbers b p size w in
      let e : size + closed + 0 ≡ 2 * size = omega arith in
      ap (λ (l : List Tag). build_of l size top closed room) (sym (tags_none b 0 at refl)) ∙ g.same 0
      ∙ ap (λ (k : ℕ). build_of (tags_from b k p) 0 0 0 room₀) e ∙ ap (λ (l : List Tag). build_of l 0 0 0 room₀) (sym t.tags)
      ∙ build_tree t.tree room₀ (omega (arith, t.many)) ∙ ap (λ (s : List ℕ). front_with s room₀) (sym t.numbers)

  pub built_open : (name : ℕ) (after : List ℕ) → opening b at ≡ true → name ≡ number_at b (at + 2)
      → after ≡ open_room room size name top → Built b p room₀ after (at + 4) (size + 1) (size + 1) closed
  unfolding build_of
  built_open name after h n q =
      let r = q ∙ ap (λ (x : ℕ). open_room room size x top) n in
      record {
        same = λ rest. let e : size + closed + suc rest ≡ size + 1 + closed + rest = omega arith in
            ap (build_of (tags_from b rest (at + 4)) (size + 1) (size + 1) closed) r
            ∙ ap (λ (l : List Tag). build_of l size top closed room) (sym (tags_open b rest at h)) ∙ g.same (suc rest)
            ∙ ap (λ (k : ℕ). build_of (tags_from b k p) 0 0 0 room₀) e;
        long = ap length r ∙ length-sets room (4 * size) (number_at b (at + 2) ∷ 0 ∷ 0 ∷ top ∷ []) ∙ g.long;
      }

  pub built_close : (up : ℕ) (after : List ℕ) → opening b at ≡ false → up ≡ parent_in room top
      → after ≡ close_room room top (closed + 1) (size + 1) → Built b p room₀ after (at + 2) size up (closed + 1)
  unfolding build_of
  built_close up after h u q = record {
    same = λ rest. let e : size + closed + suc rest ≡ size + (closed + 1) + rest = omega arith in
        ap (λ (r : List ℕ). build_of (tags_from b rest (at + 2)) size up (closed + 1) r) q
        ∙ ap (λ (x : ℕ). build_of (tags_from b rest (at + 2)) size x (closed + 1) (close_room room top (closed + 1) (size + 1))) u
        ∙ ap (λ (l : List Tag). build_of l size top closed room) (sym (tags_close b rest at h)) ∙ g.same (suc rest)
        ∙ ap (λ (k : ℕ). build_of (tags_from b k p) 0 0 0 room₀) e;
    long = ap length q ∙ close_long room top (closed + 1) (size + 1) ∙ g.long;
  }
