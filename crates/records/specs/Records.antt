-- Signature records: "`SE` and the four numbers, 10 bytes".
--   record_fault b st        the refusal of the record at the scan's place
--   record_at n              where a reader stands after n records
--   records_scan b           all records of b
--   numbers_from b p n       the numbers of n records from place p on
--   bytes_from s k n         the records of n entries, from number k of the signature on
--   read_left, write_left     what the two calls answer and leave
--   CountPromise b r          the promise of judging signature records: how many there are, or the first fault
--   ReadPromise, WritePromise   the promises of the two calls
use Rattle.std.specs.Prelude.{ℕ, zero, suc, ◌+◌, ◌*◌, ◌≤◌, ◌≡◌, Bool, false, not, ◌&&◌, ◌||◌, List, [], ◌∷◌, length, get_or, ltb, leb, eqb, Result, Ok, Err}
use Rattle.turns.specs.Pick.{pick}
use Rattle.turns.specs.Turn.{Turned}
use Rattle.trees.specs.Signature.{width, entries}
use Rattle.terms.specs.Faults.{number_of}
use Rattle.terms.specs.Kinds.{most}
use Rattle.terms.specs.Length.{length_fault}
use Rattle.terms.specs.declared.Fault.{Fault}
use Rattle.terms.specs.declared.Kind.{Kind}
use Rattle.bytes_read.specs.Bytes.{number_at, low, high, marked}
use Rattle.bytes_read.specs.Scans.{Scan, first_fault, begin, scan_by, halt_number}
use Rattle.terms.specs.Room.{Left, left_by, Leaves}
use Rattle.terms.specs.Stops.{Written}

-- "Signature-record calls judge only the name."
unfoldable pub record_fault : List ℕ → Scan → ℕ
record_fault b st =
    first_fault (ltb (length b) (st.at + 2)) (not (marked b st.at 83 69)) (ltb (length b) (st.at + 10))
    (eqb (number_at b (st.at + 2)) 0) false (leb (most Kind.Data) st.count)

-- one record further: 10 bytes and one entry
abbrev pub record_next : Scan → Scan
record_next st = record { at = st.at + 10; depth = st.depth; count = st.count + 1 }

-- after n records, each of 10 bytes
abbrev pub record_at : ℕ → Scan
record_at n = record { at = 10 * n; depth = 0; count = n }

-- some record, and no byte after the last one
unfoldable pub records_end : List ℕ → Scan → Bool
records_end b st = eqb st.at (length b) && ltb 0 st.count

-- "Byte readers go record by record", here over all of b
abbrev pub records_scan : List ℕ → Turned Scan
records_scan b = scan_by (records_end b) (record_fault b) record_next (length b) (begin 0)

-- the promise of judging signature records: all are read, and this many, or one has this fault
abbrev pub CountPromise : List ℕ → Result ℕ Fault → Type 0
CountPromise b (Ok n) =
    (record_at n ≡ (records_scan b).state) × (halt_number (records_scan b).halt ≡ 0) × (n ≤ 4096) × (10 * n ≤ length b)
CountPromise b (Err f) = number_of f ≡ halt_number (records_scan b).halt

-- the four numbers stand after the mark
unfoldable pub numbers_from : List ℕ → ℕ → ℕ → List ℕ
numbers_from b p zero = []
numbers_from b p (suc n) =
    number_at b (p + 2) ∷ number_at b (p + 4) ∷ number_at b (p + 6) ∷ number_at b (p + 8) ∷ numbers_from b (p + 10) n

-- what reading signature records answers and leaves
abbrev pub read_left : List ℕ → List ℕ → Left
read_left b room = left_by (halt_number (records_scan b).halt) 0 (numbers_from b 0 (records_scan b).state.count) room

-- the promise of reading signature records
abbrev pub ReadPromise : List ℕ → List ℕ → Written → List ℕ → Type 0
ReadPromise b room w after = Leaves (read_left b room) w after

-- "`SE` and the four numbers"
abbrev pub entry_bytes : ℕ → ℕ → ℕ → ℕ → List ℕ → List ℕ
entry_bytes a p f u rest = 83 ∷ 69 ∷ low a ∷ high a ∷ low p ∷ high p ∷ low f ∷ high f ∷ low u ∷ high u ∷ rest

-- the records of n entries, from number k of the signature on
unfoldable pub bytes_from : List ℕ → ℕ → ℕ → List ℕ
bytes_from s k zero = []
bytes_from s k (suc n) = entry_bytes (get_or s k 0) (get_or s (k + 1) 0) (get_or s (k + 2) 0) (get_or s (k + 3) 0) (bytes_from s (k + 4) n)

-- a name of n entries, from number k on, is 0
unfoldable pub nameless_from : List ℕ → ℕ → ℕ → Bool
nameless_from s k zero = false
nameless_from s k (suc n) = eqb (get_or s k 0) 0 || nameless_from s (k + 4) n

-- "whole length (1, then 7), contents from the front"
unfoldable pub write_fault : List ℕ → ℕ
write_fault s =
    pick (eqb (length_fault (most Kind.Data) width (length s)) 0)
    (pick (nameless_from s 0 (entries s)) 3 0)
    (length_fault (most Kind.Data) width (length s))

-- what writing signature records answers and leaves
abbrev pub write_left : List ℕ → List ℕ → Left
write_left s room = left_by (write_fault s) 0 (bytes_from s 0 (entries s)) room

-- the promise of writing signature records
abbrev pub WritePromise : List ℕ → List ℕ → Written → List ℕ → Type 0
WritePromise s room w after = Leaves (write_left s room) w after
