-- A call for ordered or loose answers on bare numbers returns 0 exactly if it worked; a turn, exactly if it was not refused.
--   ordered_zero    the ordered call
--   start_zero      the start call of preparing: out is then the fresh state's next entry, and else 0
--   fits_zero, prepare_zero, walk_zero   the three turns
--   tarts_zero, tuple_zero_not   2(3,4) on the four entries is answered with 0, but not for a tuple of two numbers
--   five_fits_zero  whether 1(1) fits Five, asked and told yes in eight steps, returns 0
--   five_start_zero, five_prepare_zero, five_walk_zero   preparing 1(1) on Five, begun and done in five steps, and two steps of its walk return 0
use Rattle.std.specs.Prelude.{ℕ, ◌*◌, ◌≤◌, ◌≡◌, ◌↔◌, Bool, leb, length, get_or, replicate}
use Rattle.std.proofs.Math.Path.{refl}
use Rattle.std.proofs.Common.{◌∙◌, arith}
use Rattle.std.proofs.Math.Bool.{true, false}
use mathlib.Core.List.{List, [], ◌∷◌, flat_map}
use Rattle.std.proofs.Math.Dec.{eqb}
use Rattle.std.proofs.lemmas.Bool.{eqb-false}
use Rattle.turns.specs.Pick.{pick}
use Rattle.turns.specs.Turn.{Turned, moved, answered, refused, run}
use Rattle.trees.specs.Signature.{cell, Entries, entries_of, width, entries}
use Rattle.trees.specs.Names.{passes}
use Rattle.terms.specs.declared.Kind.{Kind}
use Rattle.terms.specs.Kinds.{most}
use Rattle.checking.specs.Rule as check
use Rattle.checking.specs.Rule.{close_of, accepted, nameless, second_root, in_range}
use Rattle.checking.specs.Turn.{turn_within}
use Rattle.terms.specs.Length.{length_fault}
use Rattle.terms.specs.Stops.{halt_told, Told}
use Rattle.terms.specs.Room.{refused_left, room_for}
use Rattle.checking.specs.Whole.{whole_of}
use Rattle.checked.specs.Menus.{five, tarts, fork, pair}
use Rattle.ordering.specs.Twig.{bad_end as ff_bad, end_of as ff_of, child_of, next_of}
use Rattle.ordering.specs.Table.{index, ends_in, stands_in, one_of}
use Rattle.ordering.specs.Next.{ranks, tuples, placed_test, later_test, answer_test, smaller_test, first_of, next_answer}
use Rattle.ordered.specs.Promise.{ordered_of}
use Rattle.preparing.specs.Masks.{can, every, has_bit, mask, put}
use Rattle.twig_turns.specs.Given.{given_of, ready_for, begun_for, table_width}
use Rattle.preparing.specs.Preparing.{Preparing, prepared, children_in, stands, can_of, bad_parent, written, joined, step_table, prep_step}
use Rattle.ordered_given.specs.Judged.{all_up_to, tuple_fits, tuple_told, judged_of}
use Rattle.preparing.specs.PrepTurn.{start_fault, prep_in_range, prep_run, prep_turn_of, underway}
use Rattle.fits_rows.specs.declared.Stage.{Stage}
use Rattle.fits_rows.specs.Fitting as rule
use Rattle.fits_rows.specs.Fitting.{Fitting, is_yes, place_fits, goes_on, fit_step}
use Rattle.fits.specs.Stages.{fit_halt}
use Rattle.fits.specs.FitTurn.{fitting, room_for as fit_room, fit_fits, fit_run, fit_turn_of}
use Rattle.walk_ranges.specs.Ranges.{image, place, image_fits, phase_fits}
use Rattle.walking.specs.declared.Walk.{Walk}
use Rattle.walking.specs.Walking.{fresh, ended, bad_end, end_of, back, found, readied, walk_on, step_of}
use Rattle.walking.specs.Walking.{in_range as walk_range}
use Rattle.walking.specs.WalkTurn.{walk_fits, walk_run, walk_turn_of}
use Rattle.calls_told.specs.Numbered.{ZeroAnswer, Numbered, NumberedStep, some_number, halt_zero, turn_numbered, begun_numbered, shown_holds, by_check, refused_zero, room_zero, left_returns, turn_returns, stop_first}
use Rattle.telling.specs.Walk.{walk_of, walk_numbers}
use Rattle.telling.specs.Fits.{fit_state_of}
use Rattle.twig_calls.specs.Fits.{FitsTurnPromise}
use Rattle.twig_calls.specs.Ordered.{OrderedNumbers}
use Rattle.twig_calls.specs.Prepare.{StartNumbers, PrepareTurnPromise}
use Rattle.twig_calls.specs.Walk.{WalkTurnPromise}

-- ---- the ordered call

module _ (s w g room : List ℕ) where
  -- the smallest ordered answer greater than the tuple
  abbrev answer : List ℕ
  answer = next_answer (entries s) (entries_of width s) (entries w) (entries_of width w) g

  -- the twig's refusal, the signature's or the tuple's
  tuple_number : eqb (tuple_told (tuple_fits (entries s) (entries w) g)).reason 1 ≡ false → 1 ≤ (tuple_told (tuple_fits (entries s) (entries w) g)).number
  tuple_number = by (tuple_fits (entries s) (entries w) g)
    where
      by : (c : Bool) → eqb (tuple_told c).reason 1 ≡ false → 1 ≤ (tuple_told c).number
      by true q = absurd (eqb-false 1 1 q refl)
      by false q = omega arith

  judged_number : eqb (judged_of s w g).reason 1 ≡ false → 1 ≤ (judged_of s w g).number
  unfolding judged_of
  judged_number =
      by_check Kind.Twig w (λ (t : Told). eqb t.reason 1 ≡ false → 1 ≤ t.number) _ (whole_of Kind.Twig w)
      (by_check Kind.Data s (λ (t : Told). eqb t.reason 1 ≡ false → 1 ≤ t.number) _ (whole_of Kind.Data s) tuple_number (λ l q. l))
      (λ l q. l)

  call_zero : ZeroAnswer (ordered_of s w g room).answer
  unfolding ordered_of
  call_zero = by (eqb (judged_of s w g).reason 1) refl
    where
      by : (c : Bool) → eqb (judged_of s w g).reason 1 ≡ c
          → ZeroAnswer (pick c (room_for room answer) (refused_left room (judged_of s w g).number (judged_of s w g).entry)).answer
      by true q = room_zero room answer
      by false q = refused_zero (judged_of s w g).number (judged_number q)

  pub ordered_zero : (r : ℕ) (after out : List ℕ) → OrderedNumbers s w g room r after out → (r ≡ 0) ↔ ((ordered_of s w g room).answer.refused ≡ 0)
  ordered_zero r after out p = left_returns (ordered_of s w g room) r after out call_zero p

-- ---- the ordered question in turns

fit_numbered : (n : ℕ) (e : Entries) (m : ℕ) (w : Entries) (st : Fitting) → NumberedStep (fit_step n e m w st)
unfolding fit_step
fit_numbered n e m w st = by (ff_bad n e st.entry) _
  where
    by : (c : Bool) (to : Fitting) → NumberedStep (pick c (refused 11 0) (moved to))
    by true to = omega arith
    by false to = tt

pub fits_zero : (sig twig room l : List ℕ) (b r : ℕ) (after state out : List ℕ) → FitsTurnPromise sig twig room l b r after state out
    → (r ≡ 0) ↔ (get_or out 0 0 ≡ 3 → ⊥)
fits_zero sig twig room l b r after state out p =
    let st = fitting (fit_state_of l) room in
    let t = fit_turn_of sig twig b st in
    turn_returns _ _ r out
    (halt_zero (fit_halt t.state.stage t.halt)
    (shown_holds Numbered tt t.state.stage t.halt
    (begun_numbered (fit_room sig twig) sig twig (length room) st (fit_fits sig twig st) (fit_run sig twig b st)
    (turn_numbered Fitting rule.told (fit_step (entries sig) (entries_of width sig) (entries twig) (entries_of width twig))
    (fit_numbered (entries sig) (entries_of width sig) (entries twig) (entries_of width twig)) b st))))
    p.says

-- ---- preparing

pub start_zero : (n : ℕ) (table : List ℕ) (r : ℕ) (after out : List ℕ) → StartNumbers n table r after out → (r ≡ 0) ↔ (1 ≤ get_or out 0 0)
unfolding start_fault
start_zero n table r after out p =
    rw (p.says.number_is, p.says.out_is) (by (eqb n 0) (leb n (most Kind.Data)) (leb (table_width * n) (length table)) refl)
  where
    fault : Bool → Bool → Bool → ℕ
    fault a b c = pick a 1 (pick b (pick c 0 10) 7)

    by : (a b c : Bool) → eqb n 0 ≡ a → (fault a b c ≡ 0) ↔ (1 ≤ pick (eqb (fault a b c) 0) n 0)
    by true b c q = (λ z. absurd (omega arith), λ z. absurd (omega arith))
    by false false c q = (λ z. absurd (omega arith), λ z. absurd (omega arith))
    by false true false q = (λ z. absurd (omega arith), λ z. absurd (omega arith))
    by false true true q = (λ z. some_number n q, λ z. refl)

prep_numbered : (e w : Entries) (m : ℕ) (st : Preparing) → NumberedStep (prep_step e w m st)
unfolding prep_step
prep_numbered e w m st = by (bad_parent e st.next) _
  where
    by : (c : Bool) (to : Preparing) → NumberedStep (pick c (refused 11 0) (moved to))
    by true to = omega arith
    by false to = tt

pub prepare_zero : (sig twig table l : List ℕ) (b r : ℕ) (after state out : List ℕ) → PrepareTurnPromise sig twig table l b r after state out
    → (r ≡ 0) ↔ (get_or out 0 0 ≡ 3 → ⊥)
prepare_zero sig twig table l b r after state out p =
    let st = underway (get_or l 0 0) table in
    turn_returns _ _ r out
    (halt_zero (prep_turn_of sig twig b st).halt
    (begun_numbered (table_width * entries sig) sig twig (length table) st (prep_in_range (entries sig) st) (prep_run sig twig b st)
    (turn_numbered Preparing prepared (prep_step (entries_of width sig) (entries_of width twig) (entries twig))
    (prep_numbered (entries_of width sig) (entries_of width twig) (entries twig)) b st)))
    p.says

-- ---- walking

walk_numbered : (n m : ℕ) (e t : Entries) (bits : ℕ → ℕ) (w : Walk) → NumberedStep (step_of n m e t bits w)
unfolding step_of walk_on back found
walk_numbered n m e t bits w =
    let v = readied w in
    by (bad_end n e t w) (leb (end_of n e t v) v.candidate.0) (has_bit (bits v.candidate.0) v.node) (leb v.node 1) (eqb v.node m) _ _ _ _ _
  where
    by : (a b c d f : Bool) (u v x y z : Walk)
        → NumberedStep (pick a (refused 11 0) (pick b (pick d (moved u) (moved v)) (pick c (pick f (answered x) (moved y)) (moved z))))
    by true b c d f u v x y z = omega arith
    by false true c true f u v x y z = tt
    by false true c false f u v x y z = tt
    by false false true d true u v x y z = tt
    by false false true d false u v x y z = tt
    by false false false d f u v x y z = tt

pub walk_zero : (sig twig table l : List ℕ) (b r : ℕ) (state out : List ℕ) → WalkTurnPromise sig twig table l b r state out
    → (r ≡ 0) ↔ (get_or out 0 0 ≡ 3 → ⊥)
walk_zero sig twig table l b r state out p =
    let w = walk_of l in
    turn_returns _ _ r out
    (halt_zero (walk_turn_of sig twig table b w).halt
    (begun_numbered (table_width * entries sig) sig twig (length table) w (walk_fits sig twig w) (walk_run sig twig table b w)
    (turn_numbered Walk ended (step_of (entries sig) (entries twig) (entries_of width sig) (entries_of width twig) (can table))
    (walk_numbered (entries sig) (entries twig) (entries_of width sig) (entries_of width twig) (can table)) b w)))
    p.says

-- ---- used once: the four entries and the twig 2(3,4)

-- whether the ordered call refuses a tuple, with no room lent
abbrev tarts_refused : List ℕ → ℕ
tarts_refused g = (ordered_of tarts (fork 2 3 4) g []).answer.refused

tarts_works : tarts_refused (replicate 3 0) ≡ 0
unfolding run turn_within length_fault in_range check.step_of close_of nameless second_root accepted cell passes room_for
    ranks tuples placed_test later_test answer_test smaller_test first_of next_answer flat_map all_up_to tuple_fits judged_of ordered_of
tarts_works = refl

pub tarts_zero : (r : ℕ) (after out : List ℕ) → OrderedNumbers tarts (fork 2 3 4) (replicate 3 0) [] r after out → r ≡ 0
tarts_zero r after out p = (ordered_zero tarts (fork 2 3 4) (replicate 3 0) [] r after out p).1 tarts_works

tuple_short : tarts_refused (replicate 2 0) ≡ 1
unfolding run turn_within length_fault in_range check.step_of close_of nameless second_root accepted cell all_up_to tuple_fits judged_of ordered_of
tuple_short = refl

pub tuple_zero_not : (r : ℕ) (after out : List ℕ) → OrderedNumbers tarts (fork 2 3 4) (replicate 2 0) [] r after out → r ≡ 0 → ⊥
tuple_zero_not r after out p z =
    let q : tarts_refused (replicate 2 0) ≡ 0 = (ordered_zero tarts (fork 2 3 4) (replicate 2 0) [] r after out p).0 z in omega (arith, tuple_short)

-- ---- used once: Five and the twig 1(1)

-- ten steps to spend, from the beginning, on any room of ten numbers
abbrev five_fits : Turned Fitting
five_fits = fit_turn_of five pair 10 (rule.at 2 5 Stage.Asking (replicate 10 7))

fits_answers : (halt_told (fit_halt five_fits.state.stage five_fits.halt)).reason ≡ 0
unfolding run turn_within length_fault in_range check.step_of close_of nameless second_root accepted cell passes
    given_of ready_for begun_for ff_of child_of next_of index ends_in stands_in one_of rule.in_range place_fits ff_bad is_yes goes_on fit_step
fits_answers = refl

pub five_fits_zero : (r : ℕ) (after state out : List ℕ) → FitsTurnPromise five pair (replicate 10 7) (2 ∷ 5 ∷ 0 ∷ []) 10 r after state out → r ≡ 0
five_fits_zero r after state out p =
    let q : get_or out 0 0 ≡ 0 = stop_first (halt_told (fit_halt five_fits.state.stage five_fits.halt)) five_fits.steps r out p.says ∙ fits_answers in
    (fits_zero five pair (replicate 10 7) (2 ∷ 5 ∷ 0 ∷ []) 10 r after state out p).1 (λ z. omega arith)

-- the start call for Five, in a room of ten numbers
pub five_start_zero : (r : ℕ) (after out : List ℕ) → StartNumbers 5 (replicate 10 7) r after out → r ≡ 0
unfolding start_fault
five_start_zero r after out p = (start_zero 5 (replicate 10 7) r after out p).1 (rw p.says.out_is (omega arith))

-- five steps of preparing, from what the start call leaves
abbrev five_prepared : Turned Preparing
five_prepared = prep_turn_of five pair 5 (underway 5 (replicate 10 0))

prepare_ends : (halt_told five_prepared.halt).reason ≡ 1
unfolding run turn_within length_fault in_range check.step_of close_of nameless second_root accepted cell passes
    every has_bit mask put given_of ready_for begun_for children_in stands can_of bad_parent written joined step_table prep_step
prepare_ends = refl

pub five_prepare_zero : (r : ℕ) (after state out : List ℕ) → PrepareTurnPromise five pair (replicate 10 0) (5 ∷ []) 5 r after state out → r ≡ 0
five_prepare_zero r after state out p =
    let q : get_or out 0 0 ≡ 1 = stop_first (halt_told five_prepared.halt) five_prepared.steps r out p.says ∙ prepare_ends in
    (prepare_zero five pair (replicate 10 0) (5 ∷ []) 5 r after state out p).1 (λ z. omega arith)

-- the table that they leave: every entry can be node 2, and node 1 where it has entries below
abbrev pub five_table : List ℕ
five_table = 3 ∷ 3 ∷ 2 ∷ 0 ∷ 3 ∷ 2 ∷ 2 ∷ 0 ∷ 2 ∷ 0 ∷ []

prepare_leaves : five_prepared.state.table ≡ five_table
unfolding run turn_within length_fault in_range check.step_of close_of nameless second_root accepted cell passes
    every has_bit mask put given_of ready_for begun_for children_in stands can_of bad_parent written joined step_table prep_step
prepare_leaves = refl

-- two steps of the walk, to the first answer
abbrev five_walked : Turned Walk
five_walked = walk_turn_of five pair five_table 2 (walk_of (walk_numbers fresh))

walk_answers : (halt_told five_walked.halt).reason ≡ 0
unfolding run turn_within length_fault in_range check.step_of close_of nameless second_root accepted cell
    every has_bit given_of ready_for begun_for image place image_fits phase_fits end_of bad_end back found walk_on walk_range step_of
walk_answers = refl

pub five_walk_zero : (r : ℕ) (state out : List ℕ) → WalkTurnPromise five pair five_table (walk_numbers fresh) 2 r state out → r ≡ 0
five_walk_zero r state out p =
    let q : get_or out 0 0 ≡ 0 = stop_first (halt_told five_walked.halt) five_walked.steps r out p.says ∙ walk_answers in
    (walk_zero five pair five_table (walk_numbers fresh) 2 r state out p).1 (λ z. omega arith)
