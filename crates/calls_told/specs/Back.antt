-- The saved states of the C interface as bare numbers, there and back. That what was read is written as the same numbers stands in Back of telling.
--   check_back, prepare_back, walk_back_law, fits_back   the numbers that a state is written as are read as that state
--   full                 a walk that was read has sixteen images
--   Saved, walk_saved, fit_saved   what walk and question have in common: numbers whose last one is over 2 stand for no state, and are left
--   kept_read, kept_same, kept_again   what a turn left is read as what it handed back, or is what was given; calls one after the other keep the same
--   one_check_said, one_prepare_said, one_walk_said, one_fit_said   two results that telling a turn allows are equal
--   ten_back, five_back, five_numbers_back, ten_fits_back, ten_question_back   used once: the check of Ten, a walk on Five, a question at yes on Ten
use Rattle.std.specs.Prelude.{ℕ, ◌≤◌, ◌<◌, ◌≡◌, refl, Bool, true, false, List, [], ◌∷◌, ltb, length, get_or, replicate}
use Rattle.std.proofs.Common.{ap, ◌∙◌, sym, arith}
use Rattle.std.proofs.Math.Decide.{dec_le}
use Rattle.turns.specs.Pick.{pick}
use Rattle.terms.specs.declared.Turn.{Turn}
use Rattle.checking.specs.declared.CheckState.{CheckState}
use Rattle.preparing.specs.declared.Prep.{Prep}
use Rattle.preparing.specs.PrepTurn.{prep_at}
use Rattle.walk_ranges.specs.declared.Phase.{Phase}
use Rattle.walk_ranges.specs.Phases.{phase_number}
use Rattle.walking.specs.declared.Walk.{Walk}
use Rattle.walking.specs.Walking as walking
use Rattle.fits_rows.specs.declared.Stage.{Stage}
use Rattle.fits_rows.specs.Stages.{stage_number}
use Rattle.fits.specs.declared.Fit.{Fit}
use Rattle.fits.specs.FitTurn.{fit_at}
use Rattle.telling.specs.States.{check_state_of, check_numbers, prepare_numbers, CheckSaid, PrepareSaid}
use Rattle.telling.specs.Once.{one_turn_said}
use Rattle.telling.specs.Back.{sixteen_whole, check_numbers_back, walk_numbers_back, fits_numbers_back}
use Rattle.telling.specs.Walk as walks
use Rattle.telling.specs.Walk.{phase_of, sixteen, outside, walk_of, walk_numbers, WalkSaid}
use Rattle.telling.proofs.WalkLaws.{walk_outside, kept_given, kept_walk}
use Rattle.telling.specs.Fits as fits
use Rattle.telling.specs.Fits.{fit_state_of, fit_numbers, FitSaid}
use Rattle.telling.proofs.FitLaws as fit
use Rattle.telling.proofs.FitLaws.{fit_outside, kept_fit}

-- ---- the check

pub check_back : (st : CheckState) → check_state_of (check_numbers st) ≡ st
check_back st = refl

-- ---- preparing

pub prepare_back : (st : Prep) → prep_at (get_or (prepare_numbers st) 0 0) ≡ st
prepare_back st = refl

-- ---- the walk

pub walk_back_law : (w : Walk) → length w.images ≡ 16 → walk_of (walk_numbers w) ≡ w
walk_back_law w h = by w.phase
  where
    by : (p : Phase) → walk_of (walk_numbers (walking.at w.images w.node w.candidate.0 p)) ≡ walking.at w.images w.node w.candidate.0 p
    by Phase.Walking = ap (λ (l : List ℕ). walking.at l w.node w.candidate.0 Phase.Walking) (sixteen_whole w.images h)
    by Phase.Answer = ap (λ (l : List ℕ). walking.at l w.node w.candidate.0 Phase.Answer) (sixteen_whole w.images h)
    by Phase.Ended = ap (λ (l : List ℕ). walking.at l w.node w.candidate.0 Phase.Ended) (sixteen_whole w.images h)

-- that a walk has sixteen images is its type; here it follows from how it is read
pub full : (l : List ℕ) → length (walk_of l).images ≡ 16
full l = by (ltb 2 (get_or l 18 0))
  where
    by : (c : Bool) → length (pick c outside (walking.at (sixteen l []) (get_or l 16 0) (get_or l 17 0) (phase_of (get_or l 18 0)))).images ≡ 16
    by true = refl
    by false = refl

-- ---- the ordered question

pub fits_back : (st : Fit) → fit_state_of (fit_numbers st) ≡ st
fits_back st = by st.stage
  where
    by : (s : Stage) → fit_state_of (fit_numbers (fit_at st.node st.entry.0 s)) ≡ fit_at st.node st.entry.0 s
    by Stage.Asking = refl
    by Stage.Yes = refl
    by Stage.No = refl

-- ---- numbers whose last one is over 2

-- the number at place i says which of three a state is; over 2, the numbers stand for no state, and a turn leaves them
pub record Saved (S : Type 0) (i : ℕ) (nowhere : S) (read : List ℕ → S) (numbers : S → List ℕ) (kept : List ℕ → S → List ℕ) : Type 0 where
  pub no_state : (l : List ℕ) → 2 < get_or l i 0 → read l ≡ nowhere
  pub left : (l : List ℕ) (st : S) → 2 < get_or l i 0 → kept l st ≡ l
  pub rewritten : (l : List ℕ) (st : S) → get_or l i 0 ≤ 2 → kept l st ≡ numbers st
  pub small : (st : S) → get_or (numbers st) i 0 ≤ 2

phase_small : (p : Phase) → phase_number p ≤ 2
phase_small Phase.Walking = omega arith
phase_small Phase.Answer = omega arith
phase_small Phase.Ended = omega arith

pub walk_saved : Saved Walk 18 outside walk_of walk_numbers walks.kept_of
walk_saved = record { no_state = walk_outside; left = kept_given; rewritten = kept_walk; small = λ w. phase_small w.phase }

stage_small : (s : Stage) → stage_number s ≤ 2
stage_small Stage.Asking = omega arith
stage_small Stage.Yes = omega arith
stage_small Stage.No = omega arith

pub fit_saved : Saved Fit 2 fits.outside fit_state_of fit_numbers fits.kept_of
fit_saved = record { no_state = fit_outside; left = fit.kept_given; rewritten = kept_fit; small = λ st. stage_small st.stage }

module _ {S : Type 0} {i : ℕ} {nowhere : S} {read : List ℕ → S} {numbers : S → List ℕ} {kept : List ℕ → S → List ℕ}
    (x : Saved S i nowhere read numbers kept) where
  -- a state that is read from its own numbers is read from those left, if numbers that stand for no state come to none
  pub kept_read : (l : List ℕ) (st : S) → read (numbers st) ≡ st → (2 < get_or l i 0 → st ≡ nowhere) → read (kept l st) ≡ st
  kept_read l st e n = by (dec_le (get_or l i 0) 2)
    where
      by : Dec (get_or l i 0 ≤ 2) → read (kept l st) ≡ st
      by (yes k) = ap read (x.rewritten l st k) ∙ e
      by (no k) = ap read (x.left l st (omega arith)) ∙ x.no_state l (omega arith) ∙ sym (n (omega arith))

  -- a turn that handed back what was read left the numbers given
  pub kept_same : (l : List ℕ) (st : S) → (get_or l i 0 ≤ 2 → numbers (read l) ≡ l) → st ≡ read l → kept l st ≡ l
  kept_same l st e q = by (dec_le (get_or l i 0) 2)
    where
      by : Dec (get_or l i 0 ≤ 2) → kept l st ≡ l
      by (yes k) = x.rewritten l st k ∙ ap numbers q ∙ e k
      by (no k) = x.left l st (omega arith)

  -- what is kept of the numbers that a call left is what is kept of those that it was given
  pub kept_again : (l after : List ℕ) (was st : S) → after ≡ kept l was → kept after st ≡ kept l st
  kept_again l after was st q = by (dec_le (get_or l i 0) 2)
    where
      by : Dec (get_or l i 0 ≤ 2) → kept after st ≡ kept l st
      by (yes k) =
          let e : get_or after i 0 ≡ get_or (numbers was) i 0 = ap (λ (z : List ℕ). get_or z i 0) (q ∙ x.rewritten l was k) in
          x.rewritten after st (omega (arith, x.small was)) ∙ sym (x.rewritten l st k)
      by (no k) = ap (λ (z : List ℕ). kept z st) (q ∙ x.left l was (omega arith))

-- ---- one result

pub one_check_said : (t : Turn CheckState) (r q : ℕ) (left later o p : List ℕ) → CheckSaid t r left o → CheckSaid t q later p
    → ((r ≡ q) × (o ≡ p)) × (left ≡ later)
one_check_said t r q left later o p a b = one_turn_said check_numbers t r q left later o p a b

pub one_prepare_said : (t : Turn Prep) (r q : ℕ) (left later o p : List ℕ) → PrepareSaid t r left o → PrepareSaid t q later p
    → ((r ≡ q) × (o ≡ p)) × (left ≡ later)
one_prepare_said t r q left later o p a b = one_turn_said prepare_numbers t r q left later o p a b

pub one_walk_said : (l : List ℕ) (t : Turn Walk) (r q : ℕ) (left later o p : List ℕ) → WalkSaid l t r left o → WalkSaid l t q later p
    → ((r ≡ q) × (o ≡ p)) × (left ≡ later)
one_walk_said l t r q left later o p a b = one_turn_said (walks.kept_of l) t r q left later o p a b

pub one_fit_said : (l : List ℕ) (t : Turn Fit) (r q : ℕ) (left later o p : List ℕ) → FitSaid l t r left o → FitSaid l t q later p
    → ((r ≡ q) × (o ≡ p)) × (left ≡ later)
one_fit_said l t r q left later o p a b = one_turn_said (fits.kept_of l) t r q left later o p a b

-- ---- used once

-- after 3 steps of the check of Ten: next 4, top 3, none closed
pub ten_back : check_numbers (check_state_of (4 ∷ 3 ∷ 0 ∷ [])) ≡ 4 ∷ 3 ∷ 0 ∷ []
ten_back = check_numbers_back (4 ∷ 3 ∷ 0 ∷ []) refl

-- the first answer of 1(1) on Five, 1 2
abbrev first_answer : Walk
first_answer = walking.at (1 ∷ 2 ∷ replicate 14 0) 2 2 Phase.Answer

pub five_back : walk_of (walk_numbers first_answer) ≡ first_answer
five_back = walk_back_law first_answer refl

pub five_numbers_back : walk_numbers (walk_of (walk_numbers first_answer)) ≡ walk_numbers first_answer
five_numbers_back = walk_numbers_back (walk_numbers first_answer) refl (omega arith)

-- 8(9,10) on Ten: yes, with the root at entry 8
pub ten_fits_back : fit_numbers (fit_state_of (1 ∷ 8 ∷ 1 ∷ [])) ≡ 1 ∷ 8 ∷ 1 ∷ []
ten_fits_back = fits_numbers_back (1 ∷ 8 ∷ 1 ∷ []) refl (omega arith)

pub ten_question_back : fit_state_of (fit_numbers (fit_at 1 8 Stage.Yes)) ≡ fit_at 1 8 Stage.Yes
ten_question_back = fits_back (fit_at 1 8 Stage.Yes)
