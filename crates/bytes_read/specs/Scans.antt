-- Byte readers go record by record.
--   Scan                where a reader stands
--   first_fault …        the refusal of one record: the first of the document's list that it has, or 0
--   begin p             the state of a scan that begins at place p
--   step_by fault next   one record: its refusal, with the place where it begins, or on to the next one
--   scan_by …            records from a state on, to the end or to the first refused one
--   halt_number h        the refusal's number of what a scan came to, 0 at its end
use Rattle.std.specs.Prelude.{ℕ, ◌+◌, Bool, eqb}
use Rattle.turns.specs.Pick.{pick}
use Rattle.turns.specs.Turn.{Next, moved, refused, Halt, Turned, turn}

-- where a reader stands: the place of the next record, the elements that are open, and the elements or entries read so far
pub record Scan : Type 0 where
  pub at : ℕ
  pub depth : ℕ
  pub count : ℕ

-- "Byte readers go record by record: mark cut (1), mark (2), body cut (1), name (3), nesting (12), count (7)"
abbrev pub first_fault : Bool → Bool → Bool → Bool → Bool → Bool → ℕ
first_fault mark_cut unknown body_cut nameless misnested over =
    pick mark_cut 1 (pick unknown 2 (pick body_cut 1 (pick nameless 3 (pick misnested 12 (pick over 7 0)))))

-- nothing open, nothing counted
abbrev pub begin : ℕ → Scan
begin p = record { at = p; depth = 0; count = 0 }

-- a record with no fault is passed; the refusal of a faulty one comes with the place where it begins
unfoldable pub step_by : (Scan → ℕ) → (Scan → Scan) → Scan → Next Scan
step_by fault next st = pick (eqb (fault st) 0) (moved (next st)) (refused (fault st) st.at)

-- each record takes a byte at least, so that l bytes are never too many
abbrev pub scan_by : (Scan → Bool) → (Scan → ℕ) → (Scan → Scan) → ℕ → Scan → Turned Scan
scan_by ended fault next l st = turn Scan ended (step_by fault next) (l + 1) st

-- 0 at the end, else the refusal's number
abbrev pub halt_number : Halt → ℕ
halt_number Halt.answer = 0
halt_number Halt.end = 0
halt_number Halt.budget = 0
halt_number (Halt.refusal number place) = number
