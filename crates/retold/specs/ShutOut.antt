-- Demand 2 of the reader of tag lists, over any call: ours meets it, and document 01's wrong programs do not.
--   Reads k b room w after   what demand 2 asks of one call: a tag list's tree in the room where it fits, 10 where it does not, and a refusal for other bytes
--   TagsTwo k call after     every call is so
--   ours_tags                whatever keeps our promise meets it
--   shut_out_refusing, shut_out_fixed, shut_out_idle   refusing everything, one fixed answer, a call that does nothing
use Rattle.std.specs.Prelude.{ℕ, zero, suc, ◌≤◌, ◌<◌, ◌≡◌, refl, true, List, [], ◌∷◌, length, get_or, Ok, Err}
use Rattle.std.proofs.Common.{ap, ◌∙◌, sym, subst, arith}
use Rattle.trees.specs.Tree.{none, whole}
use Rattle.trees.specs.Signature.{signature}
use Rattle.trees.specs.Tags.{tags_of}
use Rattle.terms.specs.declared.Kind.{Kind}
use Rattle.terms.specs.declared.Refusal.{Refusal}
use Rattle.terms.specs.Kinds.{any_name, most}
use Rattle.checked.specs.Menus.{single_tags}
use Rattle.checked.specs.Apart.{answered_apart}
use Rattle.terms.specs.Room.{Left, front_with}
use Rattle.tag_scan.specs.TagLists.{tag_bytes}
use Rattle.tag_lists.specs.Readers.{TagsPromise}
use Rattle.tag_writing.proofs.Emit.{tag_bytes_length}
use Rattle.retold.specs.Taken.{Bytes, Taken}
use Rattle.retold.specs.Rooms.{Case, refused, short, written, which, ten_given, refused_writes_nothing}
use Rattle.retold.specs.Exact.{number, result, fine_taken, taken_fine, tags_signature}
use Rattle.retold.specs.Numbers.{never_ten}
use Rattle.terms.specs.Stops.{Written}

-- the refusal of a room that is too small
abbrev pub ten : Refusal
ten = record { number = 10; entry = record { 0 = 0 } }

-- "Tag lists become signatures": the tree's signature where the room is long enough, 10 where it is not; other bytes are refused, and not for the room
pub record Reads (k : Kind) (b room : List ℕ) (w : Written) (after : List ℕ) : Type 0 where
  pub fits : (y : Taken k b) → length (signature y.tree) ≤ length room
      → (w ≡ Ok (length (signature y.tree))) × (after ≡ front_with (signature y.tree) room)
  pub long : (y : Taken k b) → length room < length (signature y.tree) → (w ≡ Err ten) × (after ≡ room)
  pub other : (Taken k b → ⊥) → (r : Refusal) × (w ≡ Err r) × (r.number ≡ 10 → ⊥) × (after ≡ room)

-- demand 2 over any call, by what it answers and what it leaves
abbrev pub TagsTwo : Kind → (List ℕ → List ℕ → Written) → (List ℕ → List ℕ → List ℕ) → Type 0
TagsTwo k call after = (b room : List ℕ) → Bytes b → Reads k b room (call b room) (after b room)

-- ---- ours meets it

module _ (k : Kind) (b room : List ℕ) (w : Written) (after : List ℕ) (h : Bytes b) (p : TagsPromise k b room w after) where
  is_long : (y : Taken k b) → length room < length (signature y.tree) → (w ≡ Err ten) × (after ≡ room)
  is_long y l =
      let f = taken_fine k b y in
      let q = ten_given (number k b) 0 (result k b) room w after p f.0 (subst (λ (x : List ℕ). length room < length x) (sym f.1) l) in
      (q, refused_writes_nothing (number k b) 0 (result k b) room w after p ten q)

  is_other : (Taken k b → ⊥) → (r : Refusal) × (w ≡ Err r) × (r.number ≡ 10 → ⊥) × (after ≡ room)
  is_other n = go (which (number k b) 0 (result k b) room)
    where
      go : Case (number k b) 0 (result k b) room → (r : Refusal) × (w ≡ Err r) × (r.number ≡ 10 → ⊥) × (after ≡ room)
      go (refused z e) =
          let r : Refusal = record { number = number k b; entry = record { 0 = 0 } } in
          (r, answered_apart w (Err r) (p.told ∙ ap (λ (x : Left). x.answer) e), never_ten true (any_name k) (most k) b 0, p.left ∙ ap (λ (x : Left). x.room) e)
      go (short z l e) = absurd (n (fine_taken k b h z).0)
      go (written z l e) = absurd (n (fine_taken k b h z).0)

  pub promised_reads : Reads k b room w after
  promised_reads = record { fits = tags_signature k b room w after p; long = is_long; other = is_other }

pub ours_tags : (k : Kind) (call : List ℕ → List ℕ → Written) (after : List ℕ → List ℕ → List ℕ)
    → ((b room : List ℕ) → TagsPromise k b room (call b room) (after b room)) → TagsTwo k call after
ours_tags k call after p b room h = promised_reads k b room (call b room) (after b room) h (p b room)

-- ---- the wrong programs do not

-- a room that is just long enough for document 01's starred entry 7,1,2,0
abbrev zeros : List ℕ
zeros = 0 ∷ 0 ∷ 0 ∷ 0 ∷ []

one_bytes : Bytes single_tags
one_bytes zero = omega arith
one_bytes (suc zero) = omega arith
one_bytes (suc (suc zero)) = omega arith
one_bytes (suc (suc (suc zero))) = omega arith
one_bytes (suc (suc (suc (suc zero)))) = omega arith
one_bytes (suc (suc (suc (suc (suc zero))))) = omega arith
one_bytes (suc (suc (suc (suc (suc (suc i)))))) = omega arith

pub one_taken : Taken Kind.Data single_tags
unfolding tag_bytes tags_of
one_taken = record {
  tree = record { name = 7; below = none };
  grown = record { named = (record { code = omega arith; some = λ z. omega arith }, tt, tt); small = omega arith };
  is = refl;
}

-- nothing is no tag list
nothing_taken : Taken Kind.Data [] → ⊥
nothing_taken y = omega (arith, ap length y.is, tag_bytes_length (whole y.tree))

apart : (l : ℕ) (r : Refusal) → Ok l ≡ Err r → ⊥
apart l r e = let z : ◌≡◌ {A = ℕ} 0 1 = cc in omega arith

-- refusing everything, each time as it likes, 10 too
pub shut_out_refusing : (x : List ℕ → List ℕ → Refusal) (after : List ℕ → List ℕ → List ℕ) → TagsTwo Kind.Data (λ b room. Err (x b room)) after → ⊥
unfolding one_taken
shut_out_refusing x after p = apart _ (x single_tags zeros) (sym ((p single_tags zeros one_bytes).fits one_taken (omega arith)).0)

-- one fixed answer, whatever it leaves
pub shut_out_fixed : (w : Written) (after : List ℕ → List ℕ → List ℕ) → TagsTwo Kind.Data (λ b room. w) after → ⊥
unfolding one_taken
shut_out_fixed w after p =
    let e = ((p single_tags zeros one_bytes).fits one_taken (omega arith)).0 in
    let q = (p [] zeros (λ i. omega arith)).other nothing_taken in
    apart _ q.0 (sym e ∙ q.1)

-- a call that does nothing to the room, whatever it answers
pub shut_out_idle : (call : List ℕ → List ℕ → Written) → TagsTwo Kind.Data call (λ b room. room) → ⊥
unfolding one_taken
shut_out_idle call p =
    let q = ((p single_tags zeros one_bytes).fits one_taken (omega arith)).1 in
    let z : ◌≡◌ {A = ℕ} 0 7 = ap (λ (l : List ℕ). get_or l 0 0) q in
    omega arith
