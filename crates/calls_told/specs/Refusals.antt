-- Which numbers each call on bare numbers can return: the lists "Refuses …" of the C interface, and 0.
--   room_numbers, left_numbers   calls that write into lent room: 10 beside what is judged before it
--   tags_give, back_gives, check_gives   the lists that depend on the kind of tree
--   rank_gives, answer_gives, turn_gives   those that two or three calls share
--   read_numbers, write_numbers, tags_numbers, back_numbers   records and tag lists
--   check_numbers_law                a turn of the check
--   level_numbers, place_numbers, axis_numbers   level, block and axes
--   ordered_numbers              the ordered call
--   fits_numbers                 a turn of the ordered question
--   start_numbers, prepare_numbers_law, walk_numbers_law   preparing and walking
use Rattle.std.specs.Prelude.{ℕ, ◌*◌, ◌≡◌, Bool, List, [], ◌∷◌, eqb, leb, length, get_or}
use Rattle.std.proofs.Math.Path.{refl}
use Rattle.std.proofs.Math.Bool.{true, false}
use Rattle.turns.specs.Pick.{pick}
use Rattle.trees.specs.Signature.{entries_of, width, entries}
use Rattle.terms.specs.declared.Kind.{Kind}
use Rattle.terms.specs.Kinds.{any_name, most, kind_of}
use Rattle.terms.specs.Room.{Left, written_left, refused_left, room_for, left_by}
use Rattle.terms.specs.Stops.{halt_told}
use Rattle.checking.specs.Turn.{turn_of}
use Rattle.checking.specs.Whole.{whole_of}
use Rattle.checked.specs.Refusals as checked
use Rattle.checked.specs.Refusals.{OneOf, one_among, one_more, all_in, check_refusals, whole_numbers}
use Rattle.xpath.specs.Axes.{level_of}
use Rattle.bytes_read.specs.Scans.{halt_number}
use Rattle.records.specs.Records.{records_scan, numbers_from, bytes_from, write_fault, read_left, write_left}
use Rattle.tag_scan.specs.TagLists.{tree_scan, numbers_in}
use Rattle.tag_lists.specs.Readers.{tags_left}
use Rattle.tag_writing.specs.TagsBack.{back_bytes, back_left}
use Rattle.blocks.specs.Checked.{after_check, is_rank}
use Rattle.blocks.specs.Level.{Leveled, level_worked, level_refused, level_within}
use Rattle.blocks.specs.Block.{Placed, block_place, place_refused, place_within}
use Rattle.marks.specs.Axis.{arguments_fine, answer_in, axis_within}
use Rattle.ordering.specs.Next.{next_answer}
use Rattle.ordered_given.specs.Judged.{tuple_fits}
use Rattle.ordered_calls.specs.Exactly.{ordered_order}
use Rattle.twig_turns.specs.Given.{table_width}
use Rattle.preparing.specs.PrepTurn.{start_fault, prep_turn_of, underway}
use Rattle.fits.specs.Stages.{fit_halt}
use Rattle.fits.specs.FitTurn.{fitting as fitting_of, fit_turn_of}
use Rattle.fits_laws.specs.Refusals as fits
use Rattle.walking.specs.WalkTurn.{walk_turn_of}
use Rattle.retold.specs.Numbers as contents
use Rattle.retold.specs.Numbers.{record_refusals, write_refusals, tag_refusals}
use Rattle.loose_turns.specs.Refusals as turns
use Rattle.twig_turns.specs.Refusals.{turn_refusals}
use Rattle.telling.specs.States.{check_state_of}
use Rattle.telling.specs.Walk.{walk_of}
use Rattle.telling.specs.Fits.{fit_state_of}
use Rattle.record_calls.specs.Records.{ReadNumbers, WriteNumbers, TagsNumbers, BackNumbers}
use Rattle.signature_calls.specs.Check.{CheckTurnPromise}
use Rattle.signature_calls.specs.Axes.{LevelNumbers, PlaceNumbers, AxisNumbers}
use Rattle.twig_calls.specs.Fits.{FitsTurnPromise}
use Rattle.twig_calls.specs.Ordered.{OrderedNumbers}
use Rattle.twig_calls.specs.Prepare.{StartNumbers, PrepareTurnPromise}
use Rattle.twig_calls.specs.Walk.{WalkTurnPromise}
use Rattle.calls_told.specs.Numbered.{by_check}

-- ---- calls that write into lent room

module _ (l room : List ℕ) where
  room_numbers : (result : List ℕ) → OneOf (0 ∷ 10 ∷ l) (room_for room result).answer.number
  unfolding room_for
  room_numbers result = by (leb (length result) (length room))
    where
      by : (c : Bool) → OneOf (0 ∷ 10 ∷ l) (pick c (written_left room result) (refused_left room 10 0)).answer.number
      by true = refl
      by false = refl

  left_numbers : (number entry : ℕ) (result : List ℕ) → OneOf (0 ∷ l) number → OneOf (0 ∷ 10 ∷ l) (left_by number entry result room).answer.number
  unfolding left_by
  left_numbers number entry result h = by (eqb number 0)
    where
      by : (c : Bool) → OneOf (0 ∷ 10 ∷ l) (pick c (room_for room result) (refused_left room number entry)).answer.number
      by true = room_numbers result
      by false = one_more 10 l number h

-- ---- records and tag lists

-- "Refuses 1, 2, 3 (kind IB_DATA only), 7, 10, 12."
abbrev pub tags_give : Kind → List ℕ
tags_give Kind.Data = 0 ∷ 1 ∷ 2 ∷ 3 ∷ 7 ∷ 10 ∷ 12 ∷ []
tags_give Kind.Twig = 0 ∷ 1 ∷ 2 ∷ 7 ∷ 10 ∷ 12 ∷ []

tags_given : (k : Kind) → all_in (0 ∷ 10 ∷ tag_refusals (any_name k)) (tags_give k) ≡ true
tags_given Kind.Data = refl
tags_given Kind.Twig = refl

-- "Refuses 1, 3 (kind IB_DATA only), 4, 5, 6, 7, 10."
abbrev pub back_gives : Kind → List ℕ
back_gives Kind.Data = 0 ∷ 1 ∷ 3 ∷ 4 ∷ 5 ∷ 6 ∷ 7 ∷ 10 ∷ []
back_gives Kind.Twig = 0 ∷ 1 ∷ 4 ∷ 5 ∷ 6 ∷ 7 ∷ 10 ∷ []

back_given : (k : Kind) → all_in (0 ∷ 10 ∷ check_refusals k) (back_gives k) ≡ true
back_given Kind.Data = refl
back_given Kind.Twig = refl

back_left_law : (k : Kind) (s room : List ℕ) → OneOf (0 ∷ 10 ∷ check_refusals k) (back_left k s room).answer.number
unfolding back_left
back_left_law k s room =
    by_check k s (λ (x : Left). OneOf (0 ∷ 10 ∷ check_refusals k) x.answer.number) (left_by 0 0 (back_bytes s) room)
    (refused_left room (whole_of k s).number (whole_of k s).entry) (left_numbers (check_refusals k) room 0 0 (back_bytes s) refl)
    (λ l. one_more 10 (check_refusals k) (whole_of k s).number (whole_numbers k s))

module _ (room : List ℕ) (r : ℕ) (after out : List ℕ) where
  -- "Refuses 1, 2, 3, 7, 10."
  pub read_numbers : (b : List ℕ) → ReadNumbers b room r after out → OneOf (0 ∷ 1 ∷ 2 ∷ 3 ∷ 7 ∷ 10 ∷ []) r
  read_numbers b p =
      rw p.says.number_is
      (one_among (0 ∷ 10 ∷ record_refusals) (0 ∷ 1 ∷ 2 ∷ 3 ∷ 7 ∷ 10 ∷ []) refl (read_left b room).answer.number
      (left_numbers record_refusals room (halt_number (records_scan b).halt) 0 (numbers_from b 0 (records_scan b).state.count) (contents.records_numbers b)))

  -- "Refuses 1, 3, 7, 10."
  pub write_numbers : (s : List ℕ) → WriteNumbers s room r after out → OneOf (0 ∷ 1 ∷ 3 ∷ 7 ∷ 10 ∷ []) r
  write_numbers s p =
      rw p.says.number_is
      (one_among (0 ∷ 10 ∷ write_refusals) (0 ∷ 1 ∷ 3 ∷ 7 ∷ 10 ∷ []) refl (write_left s room).answer.number
      (left_numbers write_refusals room (write_fault s) 0 (bytes_from s 0 (entries s)) (contents.write_numbers s)))

  pub tags_numbers : (k : ℕ) (b : List ℕ) → TagsNumbers k b room r after out → OneOf (tags_give (kind_of k)) r
  tags_numbers k b p =
      let j : Kind = kind_of k in
      rw p.says.number_is
      (one_among (0 ∷ 10 ∷ tag_refusals (any_name j)) (tags_give j) (tags_given j) (tags_left j b room).answer.number
      (left_numbers (tag_refusals (any_name j)) room (halt_number (tree_scan true (any_name j) (most j) b 0).halt) 0
      (numbers_in b 0 (tree_scan true (any_name j) (most j) b 0).state.count) (contents.tags_numbers true (any_name j) (most j) b 0)))

  pub back_numbers : (k : ℕ) (s : List ℕ) → BackNumbers k s room r after out → OneOf (back_gives (kind_of k)) r
  back_numbers k s p =
      let j : Kind = kind_of k in
      rw p.says.number_is
      (one_among (0 ∷ 10 ∷ check_refusals j) (back_gives j) (back_given j) (back_left j s room).answer.number (back_left_law j s room))

-- ---- the check, level, block and axes

-- "Refuses 1, 3 (kind IB_DATA only), 4, 5, 6, 7, 9."
abbrev pub check_gives : Kind → List ℕ
check_gives Kind.Data = 0 ∷ 1 ∷ 3 ∷ 4 ∷ 5 ∷ 6 ∷ 7 ∷ 9 ∷ []
check_gives Kind.Twig = 0 ∷ 1 ∷ 4 ∷ 5 ∷ 6 ∷ 7 ∷ 9 ∷ []

check_given : (k : Kind) → all_in (0 ∷ 9 ∷ check_refusals k) (check_gives k) ≡ true
check_given Kind.Data = refl
check_given Kind.Twig = refl

pub check_numbers_law : (k : ℕ) (s : List ℕ) (b : ℕ) (l : List ℕ) (r : ℕ) (left out : List ℕ) → CheckTurnPromise k s b l r left out
    → OneOf (check_gives (kind_of k)) r
check_numbers_law k s b l r left out p =
    let j : Kind = kind_of k in
    rw p.says.number_is
    (one_among (0 ∷ 9 ∷ check_refusals j) (check_gives j) (check_given j) (halt_told (turn_of j s b (check_state_of l)).halt).number
    (checked.check_numbers_law j s b (check_state_of l)))

-- what the check of a signature gives, in any list that has it all
by_data : (l : List ℕ) → all_in (0 ∷ check_refusals Kind.Data) l ≡ true → (s : List ℕ) → OneOf l (whole_of Kind.Data s).number
by_data l h s = one_among (0 ∷ check_refusals Kind.Data) l h (whole_of Kind.Data s).number (whole_numbers Kind.Data s)

-- "Refuses 1, 3, 4, 5, 6, 7, 8."
abbrev pub rank_gives : List ℕ
rank_gives = 0 ∷ 1 ∷ 3 ∷ 4 ∷ 5 ∷ 6 ∷ 7 ∷ 8 ∷ []

module _ (s : List ℕ) (i : ℕ) where
  level_within_law : OneOf rank_gives (level_within s i).number
  unfolding level_within
  level_within_law = by (is_rank (entries s) i)
    where
      by : (c : Bool) → OneOf rank_gives (pick c (level_worked (level_of (entries s) (entries_of width s).fa i)) (level_refused 8 0)).number
      by true = refl
      by false = refl

  pub level_numbers : (r : ℕ) (out : List ℕ) → LevelNumbers s i r out → OneOf (0 ∷ 1 ∷ 3 ∷ 4 ∷ 5 ∷ 6 ∷ 7 ∷ 8 ∷ []) r
  unfolding after_check
  level_numbers r out p =
      rw p.number_is
      (by_check Kind.Data s (λ (x : Leveled). OneOf rank_gives x.number) (level_within s i)
      (level_refused (whole_of Kind.Data s).number (whole_of Kind.Data s).entry) level_within_law (λ l. by_data rank_gives refl s))

  place_within_law : OneOf rank_gives (place_within s i).number
  unfolding place_within
  place_within_law = by (is_rank (entries s) i)
    where
      by : (c : Bool) → OneOf rank_gives (pick c (block_place s i) (place_refused 8 0)).number
      by true = refl
      by false = refl

  pub place_numbers : (r : ℕ) (out : List ℕ) → PlaceNumbers s i r out → OneOf (0 ∷ 1 ∷ 3 ∷ 4 ∷ 5 ∷ 6 ∷ 7 ∷ 8 ∷ []) r
  unfolding after_check
  place_numbers r out p =
      rw p.number_is
      (by_check Kind.Data s (λ (x : Placed). OneOf rank_gives x.number) (place_within s i)
      (place_refused (whole_of Kind.Data s).number (whole_of Kind.Data s).entry) place_within_law (λ l. by_data rank_gives refl s))

-- "Refuses 1, 3, 4, 5, 6, 7, 8, 10.": arguments (8), then room (10)
abbrev pub answer_gives : List ℕ
answer_gives = 0 ∷ 1 ∷ 3 ∷ 4 ∷ 5 ∷ 6 ∷ 7 ∷ 8 ∷ 10 ∷ []

-- what an argument and then the room give
fitting : (c : Bool) (room result : List ℕ) → OneOf answer_gives (pick c (room_for room result) (refused_left room 8 0)).answer.number
fitting true room result =
    one_among (0 ∷ 10 ∷ []) answer_gives refl (room_for room result).answer.number (room_numbers [] room result)
fitting false room result = refl

module _ (s contexts : List ℕ) (axis name p : ℕ) (room : List ℕ) where
  axis_within_law : OneOf answer_gives (axis_within s contexts axis name p room).answer.number
  unfolding axis_within
  axis_within_law = fitting (arguments_fine axis (entries s) contexts) room (answer_in s contexts axis name p)

  pub axis_numbers : (r : ℕ) (after out : List ℕ) → AxisNumbers s contexts axis name p room r after out
      → OneOf (0 ∷ 1 ∷ 3 ∷ 4 ∷ 5 ∷ 6 ∷ 7 ∷ 8 ∷ 10 ∷ []) r
  unfolding after_check
  axis_numbers r after out q =
      rw q.says.number_is
      (by_check Kind.Data s (λ (x : Left). OneOf answer_gives x.answer.number) (axis_within s contexts axis name p room)
      (refused_left room (whole_of Kind.Data s).number (whole_of Kind.Data s).entry) axis_within_law (λ l. by_data answer_gives refl s))

-- ---- the ordered call

pub ordered_numbers : (s w g room : List ℕ) (r : ℕ) (after out : List ℕ) → OrderedNumbers s w g room r after out
    → OneOf (0 ∷ 1 ∷ 3 ∷ 4 ∷ 5 ∷ 6 ∷ 7 ∷ 8 ∷ 10 ∷ []) r
ordered_numbers s w g room r after out p =
    rw (p.says.number_is, ordered_order s w g room)
    (by_check Kind.Twig w (λ (x : Left). OneOf answer_gives x.answer.number) _
    (refused_left room (whole_of Kind.Twig w).number (whole_of Kind.Twig w).entry)
    (by_check Kind.Data s (λ (x : Left). OneOf answer_gives x.answer.number) _
    (refused_left room (whole_of Kind.Data s).number (whole_of Kind.Data s).entry)
    (fitting (tuple_fits (entries s) (entries w) g) room (next_answer (entries s) (entries_of width s) (entries w) (entries_of width w) g))
    (λ l. by_data answer_gives refl s))
    (λ l. one_among (0 ∷ check_refusals Kind.Twig) answer_gives refl (whole_of Kind.Twig w).number (whole_numbers Kind.Twig w)))

-- ---- turns with a twig

-- "Refuses 1, 4, 5, 6, 7, 9, 10, 11."
abbrev pub turn_gives : List ℕ
turn_gives = 0 ∷ 1 ∷ 4 ∷ 5 ∷ 6 ∷ 7 ∷ 9 ∷ 10 ∷ 11 ∷ []

pub fits_numbers : (sig twig room l : List ℕ) (b r : ℕ) (after state out : List ℕ) → FitsTurnPromise sig twig room l b r after state out
    → OneOf turn_gives r
fits_numbers sig twig room l b r after state out p =
    let t = fit_turn_of sig twig b (fitting_of (fit_state_of l) room) in
    rw p.says.number_is
    (one_among (0 ∷ turn_refusals) turn_gives refl (halt_told (fit_halt t.state.stage t.halt)).number
    (fits.fits_numbers sig twig b (fitting_of (fit_state_of l) room)))

-- "Refuses 1, 7, 10."
pub start_numbers : (n : ℕ) (table : List ℕ) (r : ℕ) (after out : List ℕ) → StartNumbers n table r after out → OneOf (0 ∷ 1 ∷ 7 ∷ 10 ∷ []) r
unfolding start_fault
start_numbers n table r after out p =
    rw p.says.number_is (by (eqb n 0) (leb n (most Kind.Data)) (leb (table_width * n) (length table)))
  where
    by : (a b c : Bool) → OneOf (0 ∷ 1 ∷ 7 ∷ 10 ∷ []) (pick a 1 (pick b (pick c 0 10) 7))
    by true b c = refl
    by false true true = refl
    by false true false = refl
    by false false c = refl

pub prepare_numbers_law : (sig twig table l : List ℕ) (b r : ℕ) (after state out : List ℕ) → PrepareTurnPromise sig twig table l b r after state out
    → OneOf turn_gives r
prepare_numbers_law sig twig table l b r after state out p =
    rw p.says.number_is
    (one_among (0 ∷ turn_refusals) turn_gives refl (halt_told (prep_turn_of sig twig b (underway (get_or l 0 0) table)).halt).number
    (turns.prepare_numbers_law sig twig b (underway (get_or l 0 0) table)))

pub walk_numbers_law : (sig twig table l : List ℕ) (b r : ℕ) (state out : List ℕ) → WalkTurnPromise sig twig table l b r state out → OneOf turn_gives r
walk_numbers_law sig twig table l b r state out p =
    rw p.says.number_is
    (one_among (0 ∷ turn_refusals) turn_gives refl (halt_told (walk_turn_of sig twig table b (walk_of l)).halt).number
    (turns.walk_numbers_law sig twig table b (walk_of l)))
