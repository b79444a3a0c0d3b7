-- The theorems of the ordered question in turns on bare numbers, used once on Five and the twig 1(1), which fits, and on the four entries and 2(3,4), which does not:
-- no premise is empty.
--   five_first, five_second    a call of 3 steps from the beginning, and one of at most 9 on what it left, which comes to yes
--   five_asks                  these two calls one after the other: 8 steps
--   five_asks_written          what the first one leaves is the question after its 3 steps
--   five_asks_cut, five_asks_kept   the two are one call of 12; and 5 steps more change nothing of the second
--   five_fits_law, five_steps      so an ordered answer exists; and 8 steps are at most m×n
--   four_asks, four_fits_not   a call of 12 steps comes to no; so there is none
--   five_at_yes, five_no_stage   a call on a question at yes leaves numbers and room; any call those that stand for no question
use Rattle.std.specs.Prelude.{ℕ, ◌≤◌, ◌<◌, ◌≡◌, refl, List, [], ◌∷◌, get_or}
use Rattle.std.proofs.Common.{ap, arith}
use Rattle.turns.specs.Turn.{run, Steps}
use Rattle.turns.specs.Chains.{one, more}
use Rattle.trees.specs.Signature.{cell}
use Rattle.trees.specs.Names.{passes}
use Rattle.checking.specs.Rule as check
use Rattle.checking.specs.Turn.{turn_within}
use Rattle.terms.specs.Length.{length_fault}
use Rattle.checked.specs.Menus.{five, tarts, fork, pair}
use Rattle.ordering.specs.Twig.{end_of, child_of, next_of, bad_end}
use Rattle.ordering.specs.Table.{index, ends_in, stands_in, one_of}
use Rattle.twig_turns.specs.Given.{given_of, ready_for, begun_for}
use Rattle.fits_rows.specs.declared.Stage.{Stage}
use Rattle.fits_rows.specs.Fitting.{Fitting, at, told, place_fits, in_range, is_yes, goes_on, fit_step}
use Rattle.fits_laws.specs.Questions.{Fits, FitsNot}
use Rattle.fits_laws.specs.Public.{step}
use Rattle.fits_laws.specs.Cases.{four_accepted, full}
use Rattle.twig_calls.specs.Fits.{FitsTurnPromise}
use Rattle.calls_told.specs.Fits.{FitCalled, again, Promised, FitCalls, fits_as_written, fits_untouched, beginning, numbers_fits_exactly, numbers_fits_within}
use Rattle.calls_told.specs.Tried.{five_question}
use Rattle.calls_told.specs.Cuts.{Cut, Same, fits_cut, fits_kept}

-- what a call gives: node, entry and stage, what stopped it, its steps, and the room
abbrev gave : ℕ → ℕ → ℕ → ℕ → ℕ → List ℕ → FitCalled
gave q t stage stop k room = record { called = record { number = 0; left = q ∷ t ∷ stage ∷ []; out = stop ∷ k ∷ 0 ∷ [] }; room = room }

-- three numbers of node 2's row are written
abbrev third : FitCalled
third = gave 2 2 0 2 3 (65535 ∷ 65535 ∷ 65535 ∷ 65535 ∷ 65535 ∷ 65535 ∷ 65535 ∷ 5 ∷ 5 ∷ 6 ∷ 65535 ∷ [])

-- the room at yes: all of node 2's row, and of node 1's the numbers from entry 3 on
abbrev yes_room : List ℕ
yes_room = 65535 ∷ 65535 ∷ 6 ∷ 7 ∷ 7 ∷ 3 ∷ 3 ∷ 5 ∷ 5 ∷ 6 ∷ 65535 ∷ []

-- yes, after five steps more: the root fits at entry 3
abbrev told_yes : FitCalled
told_yes = gave 1 3 1 0 5 yes_room

five_first : Promised five pair 3 (beginning five pair (full 11)) third
unfolding begun_for ready_for given_of turn_within length_fault check.in_range run check.step_of check.close_of check.nameless check.second_root
    check.accepted cell passes
    end_of child_of next_of index ends_in stands_in one_of place_fits in_range bad_end is_yes goes_on fit_step
five_first = record { says = record { number_is = refl; out_is = refl }; left = refl; now_at = refl }

five_second : Promised five pair 9 (again third) told_yes
unfolding begun_for ready_for given_of turn_within length_fault check.in_range run check.step_of check.close_of check.nameless check.second_root
    check.accepted cell passes
    end_of child_of next_of index ends_in stands_in one_of place_fits in_range bad_end is_yes goes_on fit_step
five_second = record { says = record { number_is = refl; out_is = refl }; left = refl; now_at = refl }

pub five_asks : FitCalls five pair (beginning five pair (full 11)) 12 8 told_yes
five_asks = more {b = 3} {r = third} five_first (one {b = 9} five_second)

pub five_asks_written : Steps Fitting told (step five pair) 3 (at 2 5 Stage.Asking (full 11)) (at 2 2 Stage.Asking third.room)
five_asks_written = fits_as_written five pair (full 11) (2 ∷ 5 ∷ 0 ∷ []) 3 0 third.room third.called.left third.called.out five_first

pub five_asks_cut : (r : FitCalled) → Promised five pair 12 (beginning five pair (full 11)) r → Cut 3 told_yes.called r.called × (r.room ≡ yes_room)
five_asks_cut r o = fits_cut five pair 3 9 (beginning five pair (full 11)) third r five_first o told_yes refl five_second

pub five_asks_kept : (r : FitCalled) → Promised five pair 14 (again third) r → Same r.called told_yes.called × (r.room ≡ yes_room)
five_asks_kept r o = fits_kept five pair 9 5 (again third) told_yes r five_second o (λ e. omega arith)

-- ---- the verdicts

pub five_fits_law : Fits five pair
five_fits_law = (numbers_fits_exactly five pair five_question (full 11) (omega arith) five_asks).yes_sound refl

pub five_steps : (8 ≤ 10) × (◌≡◌ {A = ℕ} 0 2 → (◌≡◌ {A = ℕ} 8 12) × (12 < 10))
five_steps = numbers_fits_within five pair five_question (full 11) (omega arith) five_asks

-- no, after twelve steps: node 1 fits nowhere
abbrev told_no : FitCalled
told_no = gave 1 1 2 1 12 (6 ∷ 6 ∷ 6 ∷ 6 ∷ 5 ∷ 5 ∷ 5 ∷ 6 ∷ 5 ∷ 5 ∷ 5 ∷ 5 ∷ [])

pub four_asks : FitCalls tarts (fork 2 3 4) (beginning tarts (fork 2 3 4) (full 12)) 12 12 told_no
unfolding begun_for ready_for given_of turn_within length_fault check.in_range run check.step_of check.close_of check.nameless check.second_root
    check.accepted cell passes
    end_of child_of next_of index ends_in stands_in one_of place_fits in_range bad_end is_yes goes_on fit_step
four_asks = one {b = 12} (record { says = record { number_is = refl; out_is = refl }; left = refl; now_at = refl })

pub four_fits_not : FitsNot tarts (fork 2 3 4)
four_fits_not = (numbers_fits_exactly tarts (fork 2 3 4) four_accepted (full 12) (omega arith) four_asks).no_sound refl

-- ---- no step, nothing rewritten

pub five_at_yes : (r : ℕ) (after state out : List ℕ) → FitsTurnPromise five pair yes_room (1 ∷ 3 ∷ 1 ∷ []) 9 r after state out
    → (state ≡ 1 ∷ 3 ∷ 1 ∷ []) × (after ≡ yes_room)
unfolding begun_for ready_for given_of turn_within length_fault check.in_range run check.step_of check.close_of check.nameless check.second_root
    check.accepted cell place_fits in_range
five_at_yes r after state out p =
    fits_untouched five pair yes_room (1 ∷ 3 ∷ 1 ∷ []) 9 r after state out refl p (ap (λ (o : List ℕ). get_or o 1 0) p.says.out_is)

-- the stage 3 is none
pub five_no_stage : (r : ℕ) (after state out : List ℕ) → FitsTurnPromise five pair yes_room (1 ∷ 3 ∷ 3 ∷ []) 9 r after state out
    → (state ≡ 1 ∷ 3 ∷ 3 ∷ []) × (after ≡ yes_room)
unfolding begun_for ready_for given_of turn_within length_fault check.in_range run check.step_of check.close_of check.nameless check.second_root
    check.accepted cell place_fits in_range
five_no_stage r after state out p =
    fits_untouched five pair yes_room (1 ∷ 3 ∷ 3 ∷ []) 9 r after state out refl p (ap (λ (o : List ℕ). get_or o 1 0) p.says.out_is)
