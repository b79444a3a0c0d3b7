-- Document 01's wrong programs keep none of this layer's promises. Each call is tried on the starred entry 7,1,2,0 and on nothing at all.
--   …_shut_refusing   refusing everything, with any numbers
--   …_shut_fixed      one fixed answer
--   …_shut_idle       a call that does nothing to the room
use Rattle.std.specs.Prelude.{ℕ, ◌≡◌, refl, false, List, [], ◌∷◌, get_or, Ok, Err}
use Rattle.std.proofs.Common.{ap, ◌∙◌, sym, arith}
use Rattle.turns.specs.Turn.{run}
use Rattle.trees.specs.Signature.{cell}
use Rattle.trees.specs.Tags.{tags_of, opened, closed, rows_of, one_tree, tree_of}
use Rattle.checking.specs.Rule.{step_of, close_of, accepted, nameless, second_root, in_range}
use Rattle.terms.specs.Stops.{Answered, Written}
use Rattle.checking.specs.Turn.{turn_within}
use Rattle.terms.specs.Length.{length_fault}
use Rattle.terms.specs.declared.Kind.{Kind}
use Rattle.terms.specs.declared.Refusal.{Refusal}
use Rattle.checked.specs.Menus.{single, single_record, single_tags}
use Rattle.bytes_read.specs.Bytes.{marked}
use Rattle.bytes_read.specs.Scans.{step_by, halt_number}
use Rattle.terms.specs.Room.{Left, left_by, room_for, Leaves}
use Rattle.records.specs.Records.{record_fault, records_end, numbers_from, bytes_from, nameless_from, write_fault, read_left, write_left, ReadPromise, WritePromise}
use Rattle.tag_scan.specs.TagLists.{tag_bytes, closed_with, nameless_at, misnested, tag_fault, tag_next, tree_end, tree_scan, tags_from, numbers_in}
use Rattle.tag_lists.specs.Readers.{read_told, tags_left, TagsPromise, TreePromise, TreeRead}
use Rattle.tag_writing.specs.TagsBack.{row_from, back_left, BackPromise}

-- nothing, and a room
abbrev none : List ℕ
none = []

abbrev zeros : List ℕ
zeros = 0 ∷ 0 ∷ 0 ∷ 0 ∷ 0 ∷ 0 ∷ 0 ∷ 0 ∷ 0 ∷ 0 ∷ []

-- ---- an answer of a call that writes into lent room

module _ (x : Left) (after : List ℕ) where
  not_refused : x.answer.refused ≡ 0 → (r : Refusal) → Leaves x (Err r) after → ⊥
  not_refused h r p = let z : ◌≡◌ {A = ℕ} 1 0 = ap (λ (a : Answered). a.refused) p.told ∙ h in omega arith

  not_worked : x.answer.refused ≡ 1 → (l : ℕ) → Leaves x (Ok l) after → ⊥
  not_worked h l p = let z : ◌≡◌ {A = ℕ} 0 1 = ap (λ (a : Answered). a.refused) p.told ∙ h in omega arith

-- one answer for a case that works and for one that is refused
fixed_not : (x y : Left) (u v : List ℕ) (w : Written) → x.answer.refused ≡ 0 → y.answer.refused ≡ 1 → Leaves x w u → Leaves y w v → ⊥
fixed_not x y u v (Err r) h g p q = not_refused x u h r p
fixed_not x y u v (Ok l) h g p q = not_worked y v g l q

-- the room's first number was 0 and must be another
idle_not : (x : Left) (w : Written) (n : ℕ) → get_or x.room 0 0 ≡ n → (n ≡ 0 → ⊥) → Leaves x w zeros → ⊥
idle_not x w n h g p = g (sym h ∙ ap (λ (l : List ℕ). get_or l 0 0) (sym p.left))

-- ---- signature records, read

read_entry : (read_left single_record zeros).answer.refused ≡ 0
unfolding run step_by marked record_fault records_end numbers_from left_by room_for
read_entry = refl

read_nothing : (read_left none zeros).answer.refused ≡ 1
unfolding run step_by marked record_fault records_end numbers_from left_by room_for
read_nothing = refl

read_first : get_or (read_left single_record zeros).room 0 0 ≡ 7
unfolding run step_by marked record_fault records_end numbers_from left_by room_for
read_first = refl

pub read_shut_refusing : (r : List ℕ → List ℕ → Refusal) (after : List ℕ → List ℕ → List ℕ)
    → ((x room : List ℕ) → ReadPromise x room (Err (r x room)) (after x room)) → ⊥
read_shut_refusing r after p = not_refused _ _ read_entry _ (p single_record zeros)

pub read_shut_fixed : (w : Written) (after : List ℕ → List ℕ → List ℕ) → ((x room : List ℕ) → ReadPromise x room w (after x room)) → ⊥
read_shut_fixed w after p = fixed_not _ _ _ _ w read_entry read_nothing (p single_record zeros) (p none zeros)

pub read_shut_idle : (call : List ℕ → List ℕ → Written) → ((x room : List ℕ) → ReadPromise x room (call x room) room) → ⊥
read_shut_idle call p = idle_not _ _ 7 read_first (λ z. omega arith) (p single_record zeros)

-- ---- signature records, written

write_entry : (write_left single zeros).answer.refused ≡ 0
unfolding length_fault bytes_from nameless_from write_fault left_by room_for
write_entry = refl

write_nothing : (write_left none zeros).answer.refused ≡ 1
unfolding length_fault bytes_from nameless_from write_fault left_by room_for
write_nothing = refl

write_first : get_or (write_left single zeros).room 0 0 ≡ 83
unfolding length_fault bytes_from nameless_from write_fault left_by room_for
write_first = refl

pub write_shut_refusing : (r : List ℕ → List ℕ → Refusal) (after : List ℕ → List ℕ → List ℕ)
    → ((x room : List ℕ) → WritePromise x room (Err (r x room)) (after x room)) → ⊥
write_shut_refusing r after p = not_refused _ _ write_entry _ (p single zeros)

pub write_shut_fixed : (w : Written) (after : List ℕ → List ℕ → List ℕ) → ((x room : List ℕ) → WritePromise x room w (after x room)) → ⊥
write_shut_fixed w after p = fixed_not _ _ _ _ w write_entry write_nothing (p single zeros) (p none zeros)

pub write_shut_idle : (call : List ℕ → List ℕ → Written) → ((x room : List ℕ) → WritePromise x room (call x room) room) → ⊥
write_shut_idle call p = idle_not _ _ 83 write_first (λ z. omega arith) (p single zeros)

-- ---- a whole tag list, read

tags_entry : (tags_left Kind.Data single_tags zeros).answer.refused ≡ 0
unfolding run step_by marked closed_with nameless_at misnested tag_fault tag_next tree_end tags_from opened closed rows_of one_tree tree_of left_by room_for
tags_entry = refl

tags_nothing : (tags_left Kind.Data none zeros).answer.refused ≡ 1
unfolding run step_by marked closed_with nameless_at misnested tag_fault tag_next tree_end tags_from opened closed rows_of one_tree tree_of left_by room_for
tags_nothing = refl

tags_first : get_or (tags_left Kind.Data single_tags zeros).room 0 0 ≡ 7
unfolding run step_by marked closed_with nameless_at misnested tag_fault tag_next tree_end tags_from opened closed rows_of one_tree tree_of left_by room_for
tags_first = refl

pub tags_shut_refusing : (r : List ℕ → List ℕ → Refusal) (after : List ℕ → List ℕ → List ℕ)
    → ((x room : List ℕ) → TagsPromise Kind.Data x room (Err (r x room)) (after x room)) → ⊥
tags_shut_refusing r after p = not_refused _ _ tags_entry _ (p single_tags zeros)

pub tags_shut_fixed : (w : Written) (after : List ℕ → List ℕ → List ℕ) → ((x room : List ℕ) → TagsPromise Kind.Data x room w (after x room)) → ⊥
tags_shut_fixed w after p = fixed_not _ _ _ _ w tags_entry tags_nothing (p single_tags zeros) (p none zeros)

pub tags_shut_idle : (call : List ℕ → List ℕ → Written) → ((x room : List ℕ) → TagsPromise Kind.Data x room (call x room) room) → ⊥
tags_shut_idle call p = idle_not _ _ 7 tags_first (λ z. omega arith) (p single_tags zeros)

-- ---- a signature, written as a tag list

back_entry : (back_left Kind.Data single zeros).answer.refused ≡ 0
unfolding run turn_within length_fault in_range step_of close_of nameless second_root accepted cell tags_of tag_bytes row_from back_left left_by room_for
back_entry = refl

back_nothing : (back_left Kind.Data none zeros).answer.refused ≡ 1
unfolding run turn_within length_fault in_range step_of close_of nameless second_root accepted cell tags_of tag_bytes row_from back_left left_by room_for
back_nothing = refl

back_first : get_or (back_left Kind.Data single zeros).room 0 0 ≡ 79
unfolding run turn_within length_fault in_range step_of close_of nameless second_root accepted cell tags_of tag_bytes row_from back_left left_by room_for
back_first = refl

pub back_shut_refusing : (r : List ℕ → List ℕ → Refusal) (after : List ℕ → List ℕ → List ℕ)
    → ((x room : List ℕ) → BackPromise Kind.Data x room (Err (r x room)) (after x room)) → ⊥
back_shut_refusing r after p = not_refused _ _ back_entry _ (p single zeros)

pub back_shut_fixed : (w : Written) (after : List ℕ → List ℕ → List ℕ) → ((x room : List ℕ) → BackPromise Kind.Data x room w (after x room)) → ⊥
back_shut_fixed w after p = fixed_not _ _ _ _ w back_entry back_nothing (p single zeros) (p none zeros)

pub back_shut_idle : (call : List ℕ → List ℕ → Written) → ((x room : List ℕ) → BackPromise Kind.Data x room (call x room) room) → ⊥
back_shut_idle call p = idle_not _ _ 79 back_first (λ z. omega arith) (p single zeros)

-- ---- one tree, read from a place on

tree_entry : (left_by (halt_number (tree_scan false false 4096 single_tags 0).halt) 0 (numbers_in single_tags 0 (tree_scan false false 4096 single_tags 0).state.count) zeros).answer.refused ≡ 0
unfolding run step_by marked closed_with nameless_at misnested tag_fault tag_next tree_end tags_from opened closed rows_of one_tree tree_of left_by room_for
tree_entry = refl

tree_nothing : (left_by (halt_number (tree_scan false false 4096 none 0).halt) 0 (numbers_in none 0 (tree_scan false false 4096 none 0).state.count) zeros).answer.refused ≡ 1
unfolding run step_by marked closed_with nameless_at misnested tag_fault tag_next tree_end tags_from opened closed rows_of one_tree tree_of left_by room_for
tree_nothing = refl

tree_first : get_or (left_by (halt_number (tree_scan false false 4096 single_tags 0).halt) 0 (numbers_in single_tags 0 (tree_scan false false 4096 single_tags 0).state.count) zeros).room 0 0 ≡ 7
unfolding run step_by marked closed_with nameless_at misnested tag_fault tag_next tree_end tags_from opened closed rows_of one_tree tree_of left_by room_for
tree_first = refl

pub tree_shut_refusing : (r : List ℕ → List ℕ → Refusal) (after : List ℕ → List ℕ → List ℕ)
    → ((x room : List ℕ) → TreePromise Kind.Data x 0 room (Err (r x room)) (after x room)) → ⊥
tree_shut_refusing r after p = let z : ◌≡◌ {A = ℕ} 1 0 = ap (λ (a : Answered). a.refused) (p single_tags zeros).told ∙ tree_entry in omega arith

pub tree_shut_fixed : (r : TreeRead) (after : List ℕ → List ℕ → List ℕ) → ((x room : List ℕ) → TreePromise Kind.Data x 0 room r (after x room)) → ⊥
tree_shut_fixed r after p =
    let u : (read_told r).answer.refused ≡ 0 = ap (λ (a : Answered). a.refused) (p single_tags zeros).told ∙ tree_entry in
    let v : (read_told r).answer.refused ≡ 1 = ap (λ (a : Answered). a.refused) (p none zeros).told ∙ tree_nothing in
    omega arith

pub tree_shut_idle : (call : List ℕ → List ℕ → TreeRead) → ((x room : List ℕ) → TreePromise Kind.Data x 0 room (call x room) room) → ⊥
tree_shut_idle call p =
    let z : ◌≡◌ {A = ℕ} 0 7 = ap (λ (l : List ℕ). get_or l 0 0) (p single_tags zeros).left ∙ tree_first in omega arith
