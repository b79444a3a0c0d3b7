-- "10 is given exactly if the result is longer than the room, or a lent table is shorter than 2×n", or the room of a turn of the ordered question than m×n, of
-- the calls on bare numbers.
--   read_ten, write_ten, tags_ten, back_ten   records and tag lists: nothing is refused before room, and the result is longer
--   axis_ten, ordered_ten                     the same of axes and of the ordered call
--   fits_ten                                  the room is shorter than m×n, and nothing is refused before it
--   start_ten, prepare_ten, walk_ten          the table is shorter than 2×n, and nothing is refused before it
use Rattle.std.specs.Prelude.{ℕ, ◌*◌, ◌≤◌, ◌<◌, ◌≡◌, refl, ◌↔◌, Bool, true, false, List, ◌∷◌, eqb, leb, length, get_or}
use Rattle.std.proofs.Common.{arith, eqb-true, leb-true, leb-false}
use Rattle.std.proofs.lemmas.Bool.{eqb-false}
use Rattle.turns.specs.Pick.{pick}
use Rattle.trees.specs.Signature.{entries}
use Rattle.terms.specs.declared.Kind.{Kind}
use Rattle.terms.specs.Kinds.{any_name, most, kind_of}
use Rattle.terms.specs.Room.{written_left, refused_left, room_for, left_by}
use Rattle.checking.specs.Whole.{whole_of}
use Rattle.checked.specs.Refusals.{one_not, whole_not_ten}
use Rattle.bytes_read.specs.Scans.{halt_number}
use Rattle.records.specs.Records.{records_scan, numbers_from, bytes_from, write_fault, read_left, write_left}
use Rattle.tag_scan.specs.TagLists.{tree_scan, numbers_in}
use Rattle.tag_lists.specs.Readers.{tags_left}
use Rattle.tag_writing.specs.TagsBack.{back_bytes, back_left}
use Rattle.twig_turns.specs.Given.{table_width}
use Rattle.twig_turns.specs.Refusals.{RoomTen}
use Rattle.preparing.specs.PrepTurn.{prep_in_range, underway}
use Rattle.fits.specs.FitTurn.{fitting, fit_fits}
use Rattle.walking.specs.WalkTurn.{walk_fits}
use Rattle.retold.specs.Numbers.{record_refusals, records_numbers, write_refusals, write_numbers, never_ten}
use Rattle.retold.specs.Tens.{TenExactly, ten_exactly}
use Rattle.ordered_calls.specs.Tens as ordered
use Rattle.fits_laws.specs.Refusals.{fit_ten}
use Rattle.loose_turns.specs.Refusals as loose
use Rattle.loose_turns.specs.Refusals.{TableTen}
use Rattle.axes_told.specs.Tens as axes
use Rattle.telling.specs.Walk.{walk_of}
use Rattle.telling.specs.Fits.{fit_state_of}
use Rattle.record_calls.specs.Records.{ReadNumbers, WriteNumbers, TagsNumbers, BackNumbers}
use Rattle.signature_calls.specs.Axes.{AxisNumbers}
use Rattle.twig_calls.specs.Fits.{FitsTurnPromise}
use Rattle.twig_calls.specs.Ordered.{OrderedNumbers}
use Rattle.twig_calls.specs.Prepare.{StartNumbers, PrepareTurnPromise}
use Rattle.twig_calls.specs.Walk.{WalkTurnPromise}

-- ---- records and tag lists

back_left_law : (k : Kind) (s room : List ℕ)
    → ((back_left k s room).answer.number ≡ 10) ↔ (((whole_of k s).reason ≡ 1) × (length room < length (back_bytes s)))
unfolding back_left left_by room_for
back_left_law k s room = by (eqb (whole_of k s).reason 1) (leb (length (back_bytes s)) (length room)) refl refl
  where
    by : (a b : Bool) → eqb (whole_of k s).reason 1 ≡ a → leb (length (back_bytes s)) (length room) ≡ b
        → ((pick a (pick b (written_left room (back_bytes s)) (refused_left room 10 0)) (refused_left room (whole_of k s).number (whole_of k s).entry)
        ).answer.number ≡ 10) ↔ (((whole_of k s).reason ≡ 1) × (length room < length (back_bytes s)))
    by true true p q = (λ z. absurd (omega arith), λ z. absurd (omega (arith, leb-true (length (back_bytes s)) (length room) q, z.1)))
    by true false p q = (λ z. (eqb-true (whole_of k s).reason 1 p, leb-false (length (back_bytes s)) (length room) q), λ z. refl)
    by false b p q = (λ z. absurd (whole_not_ten k s z), λ z. absurd (eqb-false (whole_of k s).reason 1 p z.0))

module _ (room : List ℕ) (r : ℕ) (after out : List ℕ) where
  pub read_ten : (b : List ℕ) → ReadNumbers b room r after out
      → TenExactly r (halt_number (records_scan b).halt) (numbers_from b 0 (records_scan b).state.count) room
  read_ten b p =
      rw p.says.number_is
      (ten_exactly (halt_number (records_scan b).halt) 0 (numbers_from b 0 (records_scan b).state.count) room (read_left b room).answer refl
      (one_not (0 ∷ record_refusals) (halt_number (records_scan b).halt) 10 (records_numbers b) refl))

  pub write_ten : (s : List ℕ) → WriteNumbers s room r after out → TenExactly r (write_fault s) (bytes_from s 0 (entries s)) room
  write_ten s p =
      rw p.says.number_is
      (ten_exactly (write_fault s) 0 (bytes_from s 0 (entries s)) room (write_left s room).answer refl
      (one_not (0 ∷ write_refusals) (write_fault s) 10 (write_numbers s) refl))

  pub tags_ten : (k : ℕ) (b : List ℕ) → TagsNumbers k b room r after out
      → TenExactly r (halt_number (tree_scan true (any_name (kind_of k)) (most (kind_of k)) b 0).halt)
      (numbers_in b 0 (tree_scan true (any_name (kind_of k)) (most (kind_of k)) b 0).state.count) room
  tags_ten k b p =
      rw p.says.number_is
      (ten_exactly (halt_number (tree_scan true (any_name (kind_of k)) (most (kind_of k)) b 0).halt) 0
      (numbers_in b 0 (tree_scan true (any_name (kind_of k)) (most (kind_of k)) b 0).state.count) room (tags_left (kind_of k) b room).answer refl
      (never_ten true (any_name (kind_of k)) (most (kind_of k)) b 0))

  pub back_ten : (k : ℕ) (s : List ℕ) → BackNumbers k s room r after out
      → (r ≡ 10) ↔ (((whole_of (kind_of k) s).reason ≡ 1) × (length room < length (back_bytes s)))
  back_ten k s p = rw p.says.number_is (back_left_law (kind_of k) s room)

-- ---- axes and the ordered call

pub axis_ten : (s contexts : List ℕ) (axis name p : ℕ) (room : List ℕ) (r : ℕ) (after out : List ℕ)
    → AxisNumbers s contexts axis name p room r after out → (r ≡ 10) ↔ axes.AxisTen s contexts axis name p room
axis_ten s contexts axis name p room r after out q = rw q.says.number_is (axes.axis_ten s contexts axis name p room)

pub ordered_ten : (s w g room : List ℕ) (r : ℕ) (after out : List ℕ) → OrderedNumbers s w g room r after out → (r ≡ 10) ↔ ordered.OrderedTen s w g room
ordered_ten s w g room r after out p = rw p.says.number_is (ordered.ordered_ten s w g room)

-- ---- turns with a twig

pub fits_ten : (sig twig room l : List ℕ) (b r : ℕ) (after state out : List ℕ) → FitsTurnPromise sig twig room l b r after state out
    → (r ≡ 10) ↔ RoomTen (entries twig * entries sig) sig twig (fit_fits sig twig (fitting (fit_state_of l) room)) (length room)
fits_ten sig twig room l b r after state out p = rw p.says.number_is (fit_ten sig twig b (fitting (fit_state_of l) room))

pub start_ten : (n : ℕ) (table : List ℕ) (r : ℕ) (after out : List ℕ) → StartNumbers n table r after out
    → (r ≡ 10) ↔ ((1 ≤ n) × (n ≤ most Kind.Data) × (length table < table_width * n))
start_ten n table r after out p = rw p.says.number_is (loose.start_ten n (length table))

pub prepare_ten : (sig twig table l : List ℕ) (b r : ℕ) (after state out : List ℕ) → PrepareTurnPromise sig twig table l b r after state out
    → (r ≡ 10) ↔ TableTen sig twig (prep_in_range (entries sig) (underway (get_or l 0 0) table)) (length table)
prepare_ten sig twig table l b r after state out p = rw p.says.number_is (loose.prepare_ten sig twig b (underway (get_or l 0 0) table))

pub walk_ten : (sig twig table l : List ℕ) (b r : ℕ) (state out : List ℕ) → WalkTurnPromise sig twig table l b r state out
    → (r ≡ 10) ↔ TableTen sig twig (walk_fits sig twig (walk_of l)) (length table)
walk_ten sig twig table l b r state out p = rw p.says.number_is (loose.walk_ten sig twig table b (walk_of l))
