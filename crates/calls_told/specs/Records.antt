-- A call for records or tag lists on bare numbers returns 0 exactly if it worked.
--   read_zero, write_zero, tags_zero, back_zero   the four calls
--   single_zero, short_zero   the one entry 7,1,2,0 is written as its tag list of six bytes with 0, and not into a room of five
--   record_read_zero, record_written_zero, list_read_zero   its record of ten bytes is read and written with 0, and so is its tag list read
use Rattle.std.specs.Prelude.{ℕ, ◌≡◌, refl, ◌↔◌, List, replicate}
use Rattle.std.proofs.Common.{arith}
use Rattle.turns.specs.Turn.{run}
use Rattle.trees.specs.Signature.{cell}
use Rattle.trees.specs.Tags.{tags_of, opened, closed, rows_of, one_tree, tree_of}
use Rattle.terms.specs.declared.Kind.{Kind}
use Rattle.checking.specs.Rule.{step_of, close_of, accepted, nameless, second_root, in_range}
use Rattle.checking.specs.Turn.{turn_within}
use Rattle.terms.specs.Length.{length_fault}
use Rattle.terms.specs.Room.{Left, room_for, left_by, refused_left}
use Rattle.checking.specs.Whole.{whole_of}
use Rattle.checked.specs.Menus.{single, single_record, single_tags}
use Rattle.bytes_read.specs.Bytes.{marked}
use Rattle.bytes_read.specs.Scans.{step_by}
use Rattle.records.specs.Records.{read_left, write_left, record_fault, records_end, numbers_from, bytes_from, nameless_from, write_fault}
use Rattle.tag_scan.specs.TagLists.{tag_bytes, closed_with, nameless_at, misnested, tag_fault, tag_next, tree_end, tags_from}
use Rattle.tag_lists.specs.Readers.{tags_left}
use Rattle.tag_writing.specs.TagsBack.{row_from, back_bytes, back_left}
use Rattle.terms.specs.Kinds.{kind_of}
use Rattle.calls_told.specs.Numbered.{ZeroAnswer, by_check, refused_zero, left_zero, left_returns}
use Rattle.record_calls.specs.Records.{ReadNumbers, WriteNumbers, TagsNumbers, BackNumbers}

module _ (room : List ℕ) (r : ℕ) (after out : List ℕ) where
  pub read_zero : (b : List ℕ) → ReadNumbers b room r after out → (r ≡ 0) ↔ ((read_left b room).answer.refused ≡ 0)
  read_zero b p = left_returns (read_left b room) r after out (left_zero _ _ _ room) p

  pub write_zero : (s : List ℕ) → WriteNumbers s room r after out → (r ≡ 0) ↔ ((write_left s room).answer.refused ≡ 0)
  write_zero s p = left_returns (write_left s room) r after out (left_zero _ _ _ room) p

  pub tags_zero : (k : ℕ) (b : List ℕ) → TagsNumbers k b room r after out → (r ≡ 0) ↔ ((tags_left (kind_of k) b room).answer.refused ≡ 0)
  tags_zero k b p = left_returns (tags_left (kind_of k) b room) r after out (left_zero _ _ _ room) p

  pub back_zero : (k : ℕ) (s : List ℕ) → BackNumbers k s room r after out → (r ≡ 0) ↔ ((back_left (kind_of k) s room).answer.refused ≡ 0)
  unfolding back_left
  back_zero k s p =
      left_returns (back_left (kind_of k) s room) r after out
      (by_check (kind_of k) s (λ (x : Left). ZeroAnswer x.answer) (left_by 0 0 (back_bytes s) room)
      (refused_left room (whole_of (kind_of k) s).number (whole_of (kind_of k) s).entry) (left_zero 0 0 (back_bytes s) room)
      (λ l. refused_zero _ l)) p

-- ---- used once: on the one entry 7,1,2,0

-- whether writing its tag list into this room is refused
abbrev single_refused : List ℕ → ℕ
single_refused room = (back_left Kind.Data single room).answer.refused

single_works : single_refused (replicate 6 0) ≡ 0
unfolding back_left left_by room_for row_from tags_of tag_bytes run turn_within length_fault in_range step_of close_of nameless second_root accepted cell
single_works = refl

pub single_zero : (r : ℕ) (after out : List ℕ) → BackNumbers 0 single (replicate 6 0) r after out → r ≡ 0
single_zero r after out p = (back_zero (replicate 6 0) r after out 0 single p).1 single_works

single_short : single_refused (replicate 5 0) ≡ 1
unfolding back_left left_by room_for row_from tags_of tag_bytes run turn_within length_fault in_range step_of close_of nameless second_root accepted cell
single_short = refl

pub short_zero : (r : ℕ) (after out : List ℕ) → BackNumbers 0 single (replicate 5 0) r after out → r ≡ 0 → ⊥
short_zero r after out p z =
    let q : single_refused (replicate 5 0) ≡ 0 = (back_zero (replicate 5 0) r after out 0 single p).0 z in omega (arith, single_short)

record_read : (read_left single_record (replicate 4 0)).answer.refused ≡ 0
unfolding left_by room_for run marked step_by record_fault records_end numbers_from
record_read = refl

pub record_read_zero : (r : ℕ) (after out : List ℕ) → ReadNumbers single_record (replicate 4 0) r after out → r ≡ 0
record_read_zero r after out p = (read_zero (replicate 4 0) r after out single_record p).1 record_read

record_written : (write_left single (replicate 10 0)).answer.refused ≡ 0
unfolding left_by room_for length_fault cell bytes_from nameless_from write_fault
record_written = refl

pub record_written_zero : (r : ℕ) (after out : List ℕ) → WriteNumbers single (replicate 10 0) r after out → r ≡ 0
record_written_zero r after out p = (write_zero (replicate 10 0) r after out single p).1 record_written

list_read : (tags_left Kind.Data single_tags (replicate 4 0)).answer.refused ≡ 0
unfolding left_by room_for run marked step_by tags_of opened closed rows_of one_tree tree_of
    tag_bytes closed_with nameless_at misnested tag_fault tag_next tree_end tags_from
list_read = refl

pub list_read_zero : (r : ℕ) (after out : List ℕ) → TagsNumbers 0 single_tags (replicate 4 0) r after out → r ≡ 0
list_read_zero r after out p = (tags_zero (replicate 4 0) r after out 0 single_tags p).1 list_read
