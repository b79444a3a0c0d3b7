-- The theorems of preparing and walking on bare numbers, used once on Five and the twig 1(1), and that calls may be cut anywhere, on Ten too:
-- no premise is empty.
--   five_question             two calls of the check accept Five and the twig
--   five_start, five_calls    a start call, and two calls of preparing, of 2 and of at most 9 steps
--   five_half, five_rest      these two calls
--   five_readied, five_n, five_ends   so the table is prepared, in 5 steps
--   five_done                 a call on a preparation that is done leaves number and table
--   five_walk, five_told      seven calls of the walk tell the six answers, in 14 steps
--   five_listed, five_once    those are all loose answers; every chain of calls to the end takes 14 steps
--   five_step, five_on, five_first, five_from_start, five_from_answer   the limit, from the fresh walk's numbers and from an answer's
--   five_saved, five_nowhere  a call with nothing to spend leaves the numbers of a walk; any call those that stand for no walk
--   …_written                 what a call leaves is the state after the steps in out
--   …_cut, …_kept            calls cut in two, and calls that a larger budget does not change
use Rattle.std.specs.Prelude.{ℕ, ◌≤◌, ◌<◌, ◌≡◌, refl, ◌⊎◌, false, List, [], ◌∷◌, ◌++◌, get_or, replicate}
use Rattle.std.proofs.Common.{ap, ◌∙◌, sym, arith}
use Rattle.turns.specs.Turn.{run, Steps}
use Rattle.turns.specs.Chains.{one, more}
use Rattle.trees.specs.Signature.{cell, entries_of, width}
use Rattle.trees.specs.Names.{passes}
use Rattle.walks.specs.Chained.{told}
use Rattle.checking.specs.Rule as check
use Rattle.terms.specs.declared.Kind.{Kind}
use Rattle.checking.specs.declared.CheckState.{CheckState}
use Rattle.checking.specs.Turn.{turn_of, turn_within}
use Rattle.terms.specs.Length.{length_fault}
use Rattle.checked.specs.ShutOut.{small, small_words}
use Rattle.checked.specs.Menus.{ten, five, pair}
use Rattle.preparing.specs.Masks.{every, has_bit, mask, put}
use Rattle.twig_turns.specs.Given.{given_of, ready_for, begun_for}
use Rattle.twig_turns.specs.Grounds.{Accepted}
use Rattle.preparing.specs.Preparing.{Preparing, prepared, children_in, stands, can_of, bad_parent, written, joined, step_table, prep_step}
use Rattle.preparing.specs.PrepTurn.{cleared, start_fault, underway}
use Rattle.walk_ranges.specs.declared.Phase.{Phase}
use Rattle.walk_ranges.specs.Ranges.{image, place, image_fits, phase_fits}
use Rattle.walking.specs.declared.Walk.{Walk}
use Rattle.walking.specs.Walking.{at, fresh, ended, in_range, end_of, bad_end, back, found, walk_on, step_of}
use Rattle.loose_turns.specs.Prepared as Prepared
use Rattle.loose_turns.specs.Walked as Walked
use Rattle.listed.specs.Questions.{TableSays}
use Rattle.listed.specs.Exactly.{all_loose}
use Rattle.listed.specs.Cases.{five_table, lent_for, cleared_for}
use Rattle.listed.specs.Worked.{six_answers}
use Rattle.telling.specs.States.{check_state_of}
use Rattle.telling.specs.Walk.{walk_numbers}
use Rattle.signature_calls.specs.Check.{CheckTurnPromise}
use Rattle.twig_calls.specs.Prepare.{StartNumbers, PrepareTurnPromise}
use Rattle.twig_calls.specs.Walk.{WalkFreshPromise, WalkTurnPromise}
use Rattle.calls_told.specs.Chains.{Called, stop_number, steps}
use Rattle.calls_told.specs.Checks.{check_as_written, check_called, check_called_law, first}
use Rattle.calls_told.specs.Prepares.{Given, PrepCalled, again, Promised, PrepareCalls, Readied, prepare_as_written, prepare_untouched, numbers_prepare_n, numbers_prepare_ends}
use Rattle.calls_told.specs.Walks.{WalkCalls, tell_numbers, walk_as_written, walk_untouched}
use Rattle.calls_told.specs.Cuts.{Cut, Same, check_cut, check_kept, prepare_cut, prepare_kept, walk_cut, walk_kept}
use Rattle.calls_told.specs.Looses.{numbers_question, NumbersWithin, begins, came, numbers_loose_exactly, numbers_end_once, numbers_walk_within}

-- ---- accepted

-- whether a call of 10 steps on Five, and one of 4 on the twig, from 1, 0, 0, came to the end
both_end : (stop_number (check_called (turn_of Kind.Data five 10 check.fresh)) ≡ 1) × (stop_number (check_called (turn_of Kind.Twig pair 4 check.fresh)) ≡ 1)
unfolding turn_within length_fault check.in_range run check.step_of check.close_of check.nameless check.second_root check.accepted cell
both_end = (refl, refl)

pub five_question : Accepted five pair
unfolding small
five_question =
    numbers_question five pair (small_words five refl) (small_words pair refl)
    (one {b = 10} (check_called_law 0 five 10 (1 ∷ 0 ∷ 0 ∷ []))) both_end.0 (one {b = 4} (check_called_law 1 pair 4 (1 ∷ 0 ∷ 0 ∷ []))) both_end.1

-- ---- preparing

-- what a call of preparing gives: the next entry, out, and the table
abbrev prepared_to : ℕ → List ℕ → List ℕ → PrepCalled
prepared_to t out table = record { called = record { number = 0; left = t ∷ []; out = out }; table = table }

pub five_start : StartNumbers 5 (lent_for 5) 0 (cleared_for 5) (5 ∷ [])
unfolding start_fault cleared
five_start = record { says = record { number_is = refl; out_is = refl }; left = refl }

-- after two entries of five
abbrev half : PrepCalled
half = prepared_to 3 (2 ∷ 2 ∷ 0 ∷ []) (0 ∷ 0 ∷ 0 ∷ 0 ∷ 0 ∷ 2 ∷ 2 ∷ 0 ∷ 2 ∷ 0 ∷ 7 ∷ [])

-- when the other three are done too
abbrev done : PrepCalled
done = prepared_to 0 (1 ∷ 3 ∷ 0 ∷ []) five_table

-- the fresh state and the table as the start call left them
abbrev begun_with : Given
begun_with = record { numbers = 5 ∷ []; table = cleared_for 5 }

five_half : Promised five pair 2 begun_with half
unfolding begun_for ready_for given_of turn_within length_fault check.in_range run check.step_of check.close_of check.nameless check.second_root
    check.accepted cell
    every has_bit mask put passes children_in stands can_of bad_parent written joined step_table prep_step cleared
five_half = record { says = record { number_is = refl; out_is = refl }; left = refl; now_at = refl }

five_rest : Promised five pair 9 (again half) done
unfolding begun_for ready_for given_of turn_within length_fault check.in_range run check.step_of check.close_of check.nameless check.second_root
    check.accepted cell
    every has_bit mask put passes children_in stands can_of bad_parent written joined step_table prep_step
five_rest = record { says = record { number_is = refl; out_is = refl }; left = refl; now_at = refl }

pub five_calls : PrepareCalls five pair begun_with 11 5 done
five_calls = more {b = 2} {r = half} five_half (one {b = 9} five_rest)

pub five_prepare_written : Steps Preparing prepared (Prepared.step five pair) 2 (underway 5 (cleared_for 5)) (underway 3 half.table)
five_prepare_written = prepare_as_written five pair (cleared_for 5) (5 ∷ []) 2 0 half.table (3 ∷ []) (2 ∷ 2 ∷ 0 ∷ []) five_half

pub five_prepare_cut : (r : PrepCalled) → Promised five pair 11 begun_with r → Cut 2 done.called r.called × (r.table ≡ five_table)
five_prepare_cut r o = prepare_cut five pair 2 9 begun_with half r five_half o done refl five_rest

pub five_prepare_kept : (r : PrepCalled) → Promised five pair 14 (again half) r → Same r.called done.called × (r.table ≡ five_table)
five_prepare_kept r o = prepare_kept five pair 9 5 (again half) done r five_rest o (λ e. omega arith)

pub five_readied : Readied five pair five_table
five_readied = record {
  lent = lent_for 5;
  number = 0;
  cleared_table = cleared_for 5;
  out = 5 ∷ [];
  start = five_start;
  worked = refl;
  budgets = 11;
  total = 5;
  last = done;
  calls = five_calls;
  ended = refl;
  leaves = refl;
}

pub five_n : (◌≡◌ {A = ℕ} 5 5) × TableSays five pair five_table
five_n = numbers_prepare_n five pair five_question (lent_for 5) (cleared_for 5) (5 ∷ []) 0 five_start refl five_calls refl

pub five_ends : ((5 ≤ 11) × (◌≡◌ {A = ℕ} 1 1)) ⊎ ((11 < 5) × (◌≡◌ {A = ℕ} 1 2) × (◌≡◌ {A = ℕ} 5 11))
five_ends = numbers_prepare_ends five pair five_question (lent_for 5) (cleared_for 5) (5 ∷ []) 0 five_start refl five_calls

pub five_done : (r : ℕ) (after state out : List ℕ) → PrepareTurnPromise five pair five_table (0 ∷ []) 9 r after state out
    → (state ≡ 0 ∷ []) × (after ≡ five_table)
unfolding begun_for ready_for given_of turn_within length_fault check.in_range run check.step_of check.close_of check.nameless check.second_root
    check.accepted cell
five_done r after state out p =
    prepare_untouched five pair five_table (0 ∷ []) 9 r after state out refl p (ap (λ (o : List ℕ). get_or o 1 0) p.says.out_is)

-- ---- walking

-- a call that comes to the answer a b after k steps
abbrev answer : ℕ → ℕ → ℕ → Called
answer a b k = record { number = 0; left = walk_numbers (at (a ∷ b ∷ replicate 14 0) 2 b Phase.Answer); out = 0 ∷ k ∷ 0 ∷ [] }

-- a call that comes to the end after 4 steps
abbrev over : Called
over = record { number = 0; left = walk_numbers (at (replicate 16 0) 1 6 Phase.Ended); out = 1 ∷ 4 ∷ 0 ∷ [] }

five_fresh : WalkFreshPromise 0 (walk_numbers fresh)
five_fresh = record { number = refl; numbers = refl }

pub five_walk : WalkCalls five pair five_table (walk_numbers fresh) 63 14 over
unfolding begun_for ready_for given_of turn_within length_fault check.in_range run check.step_of check.close_of check.nameless check.second_root
    check.accepted cell
    every has_bit image place image_fits phase_fits in_range end_of bad_end back found walk_on step_of
five_walk =
    more {b = 9} {r = answer 1 2 2} (record { says = record { number_is = refl; out_is = refl }; now_at = refl })
    (more {b = 9} {r = answer 1 3 1} (record { says = record { number_is = refl; out_is = refl }; now_at = refl })
    (more {b = 9} {r = answer 1 4 1} (record { says = record { number_is = refl; out_is = refl }; now_at = refl })
    (more {b = 9} {r = answer 1 5 1} (record { says = record { number_is = refl; out_is = refl }; now_at = refl })
    (more {b = 9} {r = answer 3 4 4} (record { says = record { number_is = refl; out_is = refl }; now_at = refl })
    (more {b = 9} {r = answer 3 5 1} (record { says = record { number_is = refl; out_is = refl }; now_at = refl })
    (one {b = 9} (record { says = record { number_is = refl; out_is = refl }; now_at = refl })))))))

pub five_told : told (tell_numbers 2) five_walk ≡ six_answers
unfolding told five_walk
five_told = refl

-- all loose answers, by numbers_loose_exactly
pub five_listed : all_loose five pair ≡ six_answers
five_listed = sym ((numbers_loose_exactly five pair five_table five_question five_readied five_fresh five_walk).whole refl) ∙ five_told

pub five_once : {B K : ℕ} {r : Called} → WalkCalls five pair five_table (walk_numbers fresh) B K r → stop_number r ≡ 1 → K ≡ 14
five_once c h = numbers_end_once five pair five_table five_question five_readied five_fresh five_fresh c five_walk h refl

-- ---- the limit: 2×m×n+1 = 21 steps from the start, and from an answer

-- one step: the root has image 1
abbrev one_step : Called
one_step = record { number = 0; left = walk_numbers (at (1 ∷ replicate 15 0) 2 2 Phase.Walking); out = 2 ∷ 1 ∷ 0 ∷ [] }

-- that a call on Five gave this, from these numbers
abbrev Gave : ℕ → List ℕ → Called → Type 0
Gave b l r = WalkTurnPromise five pair five_table l b r.number r.left r.out

five_step : Gave 1 (walk_numbers fresh) one_step
unfolding begun_for ready_for given_of turn_within length_fault check.in_range run check.step_of check.close_of check.nameless check.second_root
    check.accepted cell
    every has_bit image place image_fits phase_fits in_range end_of bad_end back found walk_on step_of
five_step = record { says = record { number_is = refl; out_is = refl }; now_at = refl }

five_on : Gave 21 one_step.left (answer 1 2 1)
unfolding begun_for ready_for given_of turn_within length_fault check.in_range run check.step_of check.close_of check.nameless check.second_root
    check.accepted cell
    every has_bit image place image_fits phase_fits in_range end_of bad_end back found walk_on step_of
five_on = record { says = record { number_is = refl; out_is = refl }; now_at = refl }

pub five_first : WalkCalls five pair five_table (walk_numbers fresh) 22 2 (answer 1 2 1)
five_first = more {b = 1} {r = one_step} five_step (one {b = 21} five_on)

pub five_walk_written : Steps Walk ended (Walked.step five pair five_table) 1 fresh (at (1 ∷ replicate 15 0) 2 2 Phase.Walking)
five_walk_written = walk_as_written five pair five_table (walk_numbers fresh) 1 0 one_step.left one_step.out five_step

pub five_walk_cut : (r : Called) → Gave 22 (walk_numbers fresh) r → Cut 1 (answer 1 2 1) r
five_walk_cut r o = walk_cut five pair five_table 1 21 (walk_numbers fresh) one_step r five_step o (answer 1 2 1) refl five_on

pub five_walk_kept : (r : Called) → Gave 26 one_step.left r → Same r (answer 1 2 1)
five_walk_kept r o = walk_kept five pair five_table 21 5 one_step.left (answer 1 2 1) r five_on o (λ e. omega arith)

pub five_from_start : NumbersWithin five pair five_table 22 2 (answer 1 2 1)
unfolding five_first
five_from_start = numbers_walk_within five pair five_table five_question five_readied (begins five_fresh) five_first (refl, tt)

pub five_from_answer : NumbersWithin five pair five_table 21 1 (answer 1 3 1)
unfolding begun_for ready_for given_of turn_within length_fault check.in_range run check.step_of check.close_of check.nameless check.second_root
    check.accepted cell
    every has_bit image place image_fits phase_fits in_range end_of bad_end back found walk_on step_of
five_from_answer =
    numbers_walk_within five pair five_table five_question five_readied (came five_fresh five_first)
    (one {b = 21} (record { says = record { number_is = refl; out_is = refl }; now_at = refl })) tt

-- ---- no step, nothing rewritten

pub five_saved : (r : ℕ) (left out : List ℕ) → WalkTurnPromise five pair five_table (answer 1 2 2).left 0 r left out → left ≡ (answer 1 2 2).left
unfolding begun_for ready_for given_of turn_within length_fault check.in_range run check.step_of check.close_of check.nameless check.second_root
    check.accepted cell every image image_fits phase_fits in_range
five_saved r left out p =
    walk_untouched five pair five_table (answer 1 2 2).left 0 r left out refl p (ap (λ (o : List ℕ). get_or o 1 0) p.says.out_is)

-- the phase 3 is none
pub five_nowhere : (r : ℕ) (left out : List ℕ) → WalkTurnPromise five pair five_table (replicate 18 0 ++ 3 ∷ []) 9 r left out
    → left ≡ replicate 18 0 ++ 3 ∷ []
unfolding begun_for ready_for given_of turn_within length_fault check.in_range run check.step_of check.close_of check.nameless check.second_root
    check.accepted cell in_range
five_nowhere r left out p =
    walk_untouched five pair five_table (replicate 18 0 ++ 3 ∷ []) 9 r left out refl p (ap (λ (o : List ℕ). get_or o 1 0) p.says.out_is)

-- ---- calls of the check on Ten, cut after 3 of 20 steps

-- the other 17 steps, from the numbers that the first call left
abbrev others : Called
others = check_called (turn_of Kind.Data ten 17 (check_state_of first.left))

-- all of them in one call
abbrev all_twenty : Called
all_twenty = check_called (turn_of Kind.Data ten 20 check.fresh)

first_spent : stop_number first ≡ 2
unfolding turn_within length_fault check.in_range run check.step_of check.close_of check.nameless check.second_root check.accepted cell
first_spent = refl

all_ended : stop_number all_twenty ≡ 1
unfolding turn_within length_fault check.in_range run check.step_of check.close_of check.nameless check.second_root check.accepted cell
all_ended = refl

pub ten_written : Steps CheckState (check.accepted 10) (check.step_of false 10 (entries_of width ten)) (steps first) check.fresh (check_state_of first.left)
ten_written = check_as_written 0 ten 3 (1 ∷ 0 ∷ 0 ∷ []) first.number first.left first.out (check_called_law 0 ten 3 (1 ∷ 0 ∷ 0 ∷ []))

pub ten_cut : Cut 3 others all_twenty
ten_cut =
    check_cut 0 ten 3 17 (1 ∷ 0 ∷ 0 ∷ []) first all_twenty (check_called_law 0 ten 3 (1 ∷ 0 ∷ 0 ∷ [])) (check_called_law 0 ten 20 (1 ∷ 0 ∷ 0 ∷ [])) others
    first_spent (check_called_law 0 ten 17 first.left)

pub ten_kept : (r : Called) → CheckTurnPromise 0 ten 25 (1 ∷ 0 ∷ 0 ∷ []) r.number r.left r.out → Same r all_twenty
ten_kept r o =
    check_kept 0 ten 20 5 (1 ∷ 0 ∷ 0 ∷ []) all_twenty r (check_called_law 0 ten 20 (1 ∷ 0 ∷ 0 ∷ [])) o (λ e. omega (arith, all_ended))
