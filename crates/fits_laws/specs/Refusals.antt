-- Which numbers a turn of the ordered question can refuse with, and when its room is too short.
--   fit_number            at yes the end is told as an answer, which changes no number
--   fits_numbers          a turn gives 0, 9, 10, 11, or what the twig's check and the signature's length give
--   fit_ten, fit_ten_exactly   10 exactly if the room is shorter than m×n and nothing that is judged before it is refused
--   single_ten            used once: no room for one node and one entry
use Rattle.std.specs.Prelude.{ℕ, ◌≡◌, refl, ◌↔◌, Bool, true, false, List, [], ◌∷◌, length}
use Rattle.std.proofs.Common.{arith}
use Rattle.turns.specs.Pick.{pick}
use Rattle.turns.specs.Turn.{moved, refused, Halt, run}
use Rattle.trees.specs.Signature.{cell, Entries, entries_of, width, entries}
use Rattle.terms.specs.Stops.{told, halt_told}
use Rattle.terms.specs.Length.{length_fault}
use Rattle.checking.specs.Rule as check
use Rattle.checking.specs.Turn.{turn_within}
use Rattle.checked.specs.Menus.{single}
use Rattle.checked.specs.Refusals.{OneOf, StepIn, turn_numbers}
use Rattle.twig_turns.specs.Given.{given_of}
use Rattle.twig_turns.specs.Refusals.{turn_refusals, RoomTen, begun_numbers, begun_ten}
use Rattle.fits_rows.specs.declared.Stage.{Stage}
use Rattle.fits_rows.specs.Fitting as rule
use Rattle.ordering.specs.Twig.{bad_end}
use Rattle.fits_rows.specs.Fitting.{Fitting, place_fits, in_range, fit_step}
use Rattle.fits.specs.declared.Fit.{Fit}
use Rattle.fits.specs.Stages.{fit_halt}
use Rattle.fits.specs.FitTurn.{fresh_of, fitting, room_for, fit_run, fit_fits, fit_turn_of, FitPromise}
use Rattle.terms.specs.declared.Turn.{Turn}

pub fit_number : (s : Stage) (h : Halt) → (halt_told (fit_halt s h)).number ≡ (halt_told h).number
fit_number s Halt.answer = refl
fit_number s Halt.budget = refl
fit_number s (Halt.refusal u v) = refl
fit_number Stage.Asking Halt.end = refl
fit_number Stage.Yes Halt.end = refl
fit_number Stage.No Halt.end = refl

fit_step_law : (n : ℕ) (e : Entries) (m : ℕ) (w : Entries) (st : Fitting) → StepIn (0 ∷ 11 ∷ []) (fit_step n e m w st)
unfolding fit_step
fit_step_law n e m w st = by (bad_end n e st.entry) _
  where
    by : (c : Bool) (to : Fitting) → StepIn (0 ∷ 11 ∷ []) (pick c (refused 11 0) (moved to))
    by true to = refl
    by false to = tt

module _ (sig twig : List ℕ) (b : ℕ) (st : Fitting) where
  fit_steps : OneOf (0 ∷ 11 ∷ []) (halt_told (fit_run sig twig b st).halt).number
  fit_steps =
      turn_numbers Fitting rule.told (fit_step (entries sig) (entries_of width sig) (entries twig) (entries_of width twig)) (0 ∷ 11 ∷ []) refl st
      (λ j to m. fit_step_law (entries sig) (entries_of width sig) (entries twig) (entries_of width twig) to) b

  pub fits_numbers : OneOf (0 ∷ turn_refusals) (halt_told (fit_halt (fit_turn_of sig twig b st).state.stage (fit_turn_of sig twig b st).halt)).number
  fits_numbers =
      rw (fit_number (fit_turn_of sig twig b st).state.stage (fit_turn_of sig twig b st).halt)
      (begun_numbers (room_for sig twig) sig twig (length st.room) st (fit_fits sig twig st) (fit_run sig twig b st) fit_steps)

  -- "A room shorter than m×n gives 10", after the twig, the length and the state
  pub fit_ten : ((halt_told (fit_halt (fit_turn_of sig twig b st).state.stage (fit_turn_of sig twig b st).halt)).number ≡ 10)
      ↔ RoomTen (room_for sig twig) sig twig (fit_fits sig twig st) (length st.room)
  fit_ten =
      rw (fit_number (fit_turn_of sig twig b st).state.stage (fit_turn_of sig twig b st).halt)
      (begun_ten (room_for sig twig) sig twig (length st.room) st (fit_fits sig twig st) (fit_run sig twig b st) fit_steps)

pub fit_ten_exactly : (sig twig room : List ℕ) (b : ℕ) (st : Fit) (r : Turn Fit) (left : List ℕ) → FitPromise sig twig room b st r left
    → ((told r.stop).number ≡ 10) ↔ RoomTen (room_for sig twig) sig twig (fit_fits sig twig (fitting st room)) (length room)
fit_ten_exactly sig twig room b st r left p = rw p.stop (fit_ten sig twig b (fitting st room))

-- ---- used once: one entry 7,1,2,0 as signature and as twig, with no room

single_given : (given_of single single).reason ≡ 1
unfolding given_of turn_within length_fault check.in_range run check.step_of check.close_of check.nameless check.second_root check.accepted cell
single_given = refl

single_fresh : fit_fits single single (fitting (fresh_of 1 1) []) ≡ true
unfolding in_range place_fits
single_fresh = refl

pub single_ten : (b : ℕ) (r : Turn Fit) (left : List ℕ) → FitPromise single single [] b (fresh_of 1 1) r left → (told r.stop).number ≡ 10
single_ten b r left p = (fit_ten_exactly single single [] b (fresh_of 1 1) r left p).1 (single_given, single_fresh, omega arith)
