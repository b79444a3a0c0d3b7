-- Tag lists there and back, over the promises of both calls.
--   back_written             what a tree yields is written as its tag list
--   there_and_back           bytes read as numbers and written back are the same bytes
--   back_and_there           numbers written as bytes and read back are the same numbers
use Rattle.std.specs.Prelude.{ℕ, ◌≤◌, ◌≡◌, refl, List, length, Ok}
use Rattle.std.proofs.Common.{ap, ◌∙◌, sym, subst, eq-eqb}
use Rattle.trees.specs.Tree.{Tree}
use Rattle.trees.specs.Signature.{signature}
use Rattle.trees.specs.Tags.{tree_tags}
use Rattle.terms.specs.Stops.{Told, Written}
use Rattle.checking.specs.Whole.{whole_of}
use Rattle.terms.specs.declared.Kind.{Kind}
use Rattle.checked.specs.Yields.{Yields}
use Rattle.checked.specs.Wholly.{yields_accepted}
use Rattle.terms.specs.Room.{left_by, front_with}
use Rattle.tag_scan.specs.TagLists.{tag_bytes}
use Rattle.tag_lists.specs.Readers.{TagsPromise}
use Rattle.tag_writing.specs.TagsBack.{back_bytes, back_left, BackPromise}
use Rattle.tag_writing.proofs.Emit.{tree_in_law}
use Rattle.tag_writing.proofs.Back.{left_as}
use Rattle.retold.specs.Rooms.{fits_written}
use Rattle.retold.specs.Taken.{Taken}
use Rattle.retold.specs.Exact.{tags_signature}

pub accepted_left : (k : Kind) (s room : List ℕ) → (whole_of k s).reason ≡ 1 → left_by 0 0 (back_bytes s) room ≡ back_left k s room
unfolding back_left
accepted_left k s room h = simp (eq-eqb _ _ h)

-- the bytes of what a tree yields are the tree's tag list
back_is : (k : Kind) (s : List ℕ) (y : Yields k s) → back_bytes s ≡ tag_bytes (tree_tags y.tree)
back_is k s y = ap (λ (t : Tree). tag_bytes (tree_tags t)) (tree_in_law s y.tree y.is)

-- what a tree yields is written as the tree's tag list
pub back_written : (k : Kind) (s : List ℕ) (y : Yields k s) (room : List ℕ) (w : Written) (after : List ℕ) → BackPromise k s room w after
    → length (tag_bytes (tree_tags y.tree)) ≤ length room
    → (w ≡ Ok (length (tag_bytes (tree_tags y.tree)))) × (after ≡ front_with (tag_bytes (tree_tags y.tree)) room)
back_written k s y room w after p l =
    let q = left_as _ _ w after (accepted_left k s room (ap (λ (t : Told). t.reason) (sym (yields_accepted k s y)))) p in
    subst (λ (b : List ℕ). (w ≡ Ok (length b)) × (after ≡ front_with b room)) (back_is k s y)
    (fits_written 0 0 (back_bytes s) room w after q refl (subst (λ (b : List ℕ). length b ≤ length room) (sym (back_is k s y)) l))

-- and these bytes are taken
pub back_taken : (k : Kind) (s : List ℕ) (y : Yields k s) → Taken k (back_bytes s)
back_taken k s y = record { tree = y.tree; grown = y.grown; is = back_is k s y }

-- numbers to bytes to numbers: what one call wrote, the other reads back as the same numbers
pub back_and_there : (k : Kind) (s : List ℕ) → Yields k s → (room : List ℕ) (w : Written) (after : List ℕ) → TagsPromise k (back_bytes s) room w after
    → length s ≤ length room → (w ≡ Ok (length s)) × (after ≡ front_with s room)
unfolding back_taken
back_and_there k s y room w after p l =
    let r = tags_signature k (back_bytes s) room w after p (back_taken k s y) (subst (λ (x : List ℕ). length x ≤ length room) y.is l) in
    (r.0 ∙ ap (λ (x : List ℕ). Ok (length x)) (sym y.is), r.1 ∙ ap (λ (x : List ℕ). front_with x room) (sym y.is))

-- bytes to numbers to bytes: the numbers that were read are a tree's signature, and are written back as the same bytes
pub there_and_back : (k : Kind) (b : List ℕ) (y : Taken k b) → (room : List ℕ) (w : Written) (after : List ℕ)
    → BackPromise k (signature y.tree) room w after → length b ≤ length room → (w ≡ Ok (length b)) × (after ≡ front_with b room)
there_and_back k b y room w after p l =
    subst (λ (x : List ℕ). (w ≡ Ok (length x)) × (after ≡ front_with x room)) (sym y.is)
    (back_written k (signature y.tree) (record { tree = y.tree; grown = y.grown; is = refl }) room w after p
    (subst (λ (x : List ℕ). length x ≤ length room) y.is l))
