-- "10 is given exactly if the result is longer than the room": contents that are refused are never refused as a room that is too small.
--   TenExactly   10 exactly if nothing before room is refused and the result is longer than the room
--   ten_exactly   of any answer whose refusals before room are never 10
--   read_ten_exactly, write_ten_exactly, tags_ten_exactly, tree_ten_exactly, back_ten_exactly   of each call, over its promise
use Rattle.std.specs.Prelude.{ℕ, ◌/◌, ◌<◌, ◌≡◌, refl, true, false, List, ◌∷◌, length}
use Rattle.std.proofs.Common.{ap, ◌∙◌, sym, arith}
use Rattle.std.proofs.Math.Decide.{ℕ_discrete}
use Rattle.terms.specs.Kinds.{any_name, most}
use Rattle.terms.specs.Stops.{Answered, answered, Written}
use Rattle.checking.specs.Whole.{whole_of}
use Rattle.checked.specs.Refusals.{one_not, whole_not_ten}
use Rattle.terms.specs.declared.Kind.{Kind}
use Rattle.bytes_read.specs.Scans.{halt_number}
use Rattle.terms.specs.Room.{Left, left_by}
use Rattle.bytes_read.proofs.Rooms.{short_is}
use Rattle.records.specs.Records.{records_scan, numbers_from, bytes_from, write_fault, ReadPromise, WritePromise}
use Rattle.tag_scan.specs.TagLists.{tree_scan, numbers_in}
use Rattle.tag_lists.specs.Readers.{read_told, TagsPromise, TreePromise, TreeRead}
use Rattle.tag_writing.specs.TagsBack.{back_bytes, BackPromise}
use Rattle.retold.specs.Calls.{back_ten, back_unaccepted}
use Rattle.retold.specs.Rooms.{Case, refused, short, written, which}
use Rattle.retold.specs.Numbers.{record_refusals, records_numbers, write_refusals, write_numbers, never_ten}

-- "10 is given exactly if the result is longer than the room", and nothing before room is refused
pub record TenExactly (ten before : ℕ) (result room : List ℕ) : Type 0 where
  pub given : before ≡ 0 → length room < length result → ten ≡ 10
  pub only : ten ≡ 10 → (before ≡ 0) × (length room < length result)

-- ---- any answer

module _ (before entry : ℕ) (result room : List ℕ) (a : Answered) (told : a ≡ (left_by before entry result room).answer) (never : before ≡ 10 → ⊥) where
  is_told : {x : Left} → left_by before entry result room ≡ x → a.number ≡ x.answer.number
  is_told e = ap (λ (y : Answered). y.number) (told ∙ ap (λ (y : Left). y.answer) e)

  pub ten_exactly : TenExactly a.number before result room
  ten_exactly = record { given = λ h l. is_told (short_is before entry result room h l); only = λ q. go q (which before entry result room) }
    where
      go : a.number ≡ 10 → Case before entry result room → (before ≡ 0) × (length room < length result)
      go q (refused h e) = absurd (never (sym (is_told e) ∙ q))
      go q (short h l e) = (h, l)
      go q (written h l e) = let z : ◌≡◌ {A = ℕ} 0 10 = sym (is_told e) ∙ q in absurd (omega arith)

-- ---- each call

pub read_ten_exactly : (b room : List ℕ) (w : Written) (after : List ℕ) → ReadPromise b room w after
    → TenExactly (answered w).number (halt_number (records_scan b).halt) (numbers_from b 0 (records_scan b).state.count) room
read_ten_exactly b room w after p = ten_exactly _ 0 _ room (answered w) p.told
    (one_not (0 ∷ record_refusals) (halt_number (records_scan b).halt) 10 (records_numbers b) refl)

pub write_ten_exactly : (s room : List ℕ) (w : Written) (after : List ℕ) → WritePromise s room w after
    → TenExactly (answered w).number (write_fault s) (bytes_from s 0 (length s / 4)) room
write_ten_exactly s room w after p = ten_exactly _ 0 _ room (answered w) p.told (one_not (0 ∷ write_refusals) (write_fault s) 10 (write_numbers s) refl)

pub tags_ten_exactly : (k : Kind) (b room : List ℕ) (w : Written) (after : List ℕ) → TagsPromise k b room w after
    → TenExactly (answered w).number (halt_number (tree_scan true (any_name k) (most k) b 0).halt)
    (numbers_in b 0 (tree_scan true (any_name k) (most k) b 0).state.count) room
tags_ten_exactly k b room w after p = ten_exactly _ 0 _ room (answered w) p.told (never_ten true (any_name k) (most k) b 0)

pub tree_ten_exactly : (k : Kind) (b : List ℕ) (p : ℕ) (room : List ℕ) (r : TreeRead) (after : List ℕ) → TreePromise k b p room r after
    → TenExactly (read_told r).answer.number (halt_number (tree_scan false (any_name k) (most k) b p).halt)
    (numbers_in b p (tree_scan false (any_name k) (most k) b p).state.count) room
tree_ten_exactly k b p room r after g = ten_exactly _ 0 _ room (read_told r).answer g.told (never_ten false (any_name k) (most k) b p)

-- what the whole check accepts has number 0 before room; what it refuses has another number than 10
pub back_ten_exactly : (k : Kind) (s room : List ℕ) (w : Written) (after : List ℕ) → BackPromise k s room w after
    → ((answered w).number ≡ 10 → ((whole_of k s).reason ≡ 1) × (length room < length (back_bytes s)))
    × ((whole_of k s).reason ≡ 1 → length room < length (back_bytes s) → (answered w).number ≡ 10)
back_ten_exactly k s room w after p = (λ q. only q (ℕ_discrete (whole_of k s).reason 1), λ h. (back_ten k s room w after p h).given)
  where
    only : (answered w).number ≡ 10 → Dec ((whole_of k s).reason ≡ 1) → ((whole_of k s).reason ≡ 1) × (length room < length (back_bytes s))
    only q (yes h) = (h, (back_ten k s room w after p h).only q)
    only q (no h) =
        absurd (whole_not_ten k s (sym (ap (λ (y : Answered). y.number) (p.told ∙ ap (λ (y : Left). y.answer) (back_unaccepted k s room h))) ∙ q))
