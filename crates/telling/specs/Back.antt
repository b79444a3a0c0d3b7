-- Saved states as numbers, there and back: numbers that stand for a state are that state's.
--   sixteen_whole              a list of sixteen is its first sixteen
--   nineteen_whole             a list of nineteen is its first sixteen and then three
--   third_back                 one of three, numbered from 0, is told by its number
--   check_numbers_back, prepare_numbers_back, walk_numbers_back, fits_numbers_back   what was read is written as the same numbers
--   walk_read, fit_read        what is read where the phase or the stage is at most 2
--   walk_back, fit_back        the same as numbers back, where the numbers stand for a state
--   sixteen_set                three numbers set behind sixteen are a walk's last three
use Rattle.std.specs.Prelude.{ℕ, zero, suc, ◌+◌, ◌≤◌, ◌≡◌, refl, Bool, true, false, List, [], ◌∷◌, ◌++◌, eqb, length, get_or, drop, slice_set}
use Rattle.std.proofs.Common.{ap, ◌∙◌, sym, subst, arith, drop_of_length-le, drop-cons, eqb-true, le-ltb}
use Rattle.std.proofs.lemmas.Bool.{eqb-false, ltb-false}
use Rattle.turns.specs.Pick.{pick}
use Rattle.preparing.specs.PrepTurn.{prep_at}
use Rattle.walk_ranges.specs.declared.Phase.{Phase}
use Rattle.walk_ranges.specs.Phases.{phase_number}
use Rattle.walking.specs.Walking as walking
use Rattle.fits_rows.specs.declared.Stage.{Stage}
use Rattle.fits_rows.specs.Stages.{stage_number}
use Rattle.fits.specs.FitTurn.{fit_at}
use Rattle.telling.specs.States.{check_state_of, check_numbers, prepare_numbers}
use Rattle.telling.specs.Walk.{phase_of, sixteen, walk_of, walk_void, walk_numbers}
use Rattle.telling.specs.Fits.{stage_of, fit_state_of, fit_void, fit_numbers}

-- k numbers from place i on
abbrev rising : List ℕ → ℕ → ℕ → List ℕ
rising l i zero = []
rising l i (suc k) = get_or l i 0 ∷ rising l (suc i) k

rising_drop : (l : List ℕ) (i k : ℕ) → length l ≡ i + k → rising l i k ≡ drop i l
rising_drop l i zero h = sym (drop_of_length-le l {i = i} (omega arith))
rising_drop l i (suc k) h =
    ap (λ (x : List ℕ). get_or l i 0 ∷ x) (rising_drop l (suc i) k (omega arith)) ∙ sym (drop-cons l i 0 (omega arith))

-- a list of sixteen is its first sixteen
pub sixteen_whole : (l : List ℕ) → length l ≡ 16 → sixteen l [] ≡ l
sixteen_whole l h = rising_drop l 0 16 h

-- a list of nineteen is its first sixteen and then three
nineteen_whole : (l : List ℕ) → length l ≡ 19 → sixteen l (get_or l 16 0 ∷ get_or l 17 0 ∷ get_or l 18 0 ∷ []) ≡ l
nineteen_whole l h = rising_drop l 0 19 h

-- one of three, numbered from 0, is told by its number
third_back : {A : Type 0} (number : A → ℕ) (x y z : A) → number x ≡ 0 → number y ≡ 1 → number z ≡ 2 → (k : ℕ) → k ≤ 2
    → number (pick (eqb k 0) x (pick (eqb k 1) y z)) ≡ k
third_back number x y z p q r k l = by (eqb k 0) (eqb k 1) refl refl
  where
    by : (a b : Bool) → eqb k 0 ≡ a → eqb k 1 ≡ b → number (pick a x (pick b y z)) ≡ k
    by true b e f = p ∙ sym (eqb-true k 0 e)
    by false true e f = q ∙ sym (eqb-true k 1 f)
    by false false e f = omega (arith, r, eqb-false k 0 e, eqb-false k 1 f)

pub check_numbers_back : (l : List ℕ) → length l ≡ 3 → check_numbers (check_state_of l) ≡ l
check_numbers_back l h = rising_drop l 0 3 h

pub prepare_numbers_back : (l : List ℕ) → length l ≡ 1 → prepare_numbers (prep_at (get_or l 0 0)) ≡ l
prepare_numbers_back l h = rising_drop l 0 1 h

-- ---- a phase or a stage of at most 2

phase_back : (k : ℕ) → k ≤ 2 → phase_number (phase_of k) ≡ k
phase_back k l = third_back phase_number Phase.Walking Phase.Answer Phase.Ended refl refl refl k l

-- a phase of at most 2 stands for a walk
pub walk_read : (l : List ℕ) → get_or l 18 0 ≤ 2 → walk_of l ≡ walking.at (sixteen l []) (get_or l 16 0) (get_or l 17 0) (phase_of (get_or l 18 0))
walk_read l p = simp (le-ltb 2 (get_or l 18 0) p)

pub walk_numbers_back : (l : List ℕ) → length l ≡ 19 → get_or l 18 0 ≤ 2 → walk_numbers (walk_of l) ≡ l
walk_numbers_back l h p =
    ap walk_numbers (walk_read l p)
    ∙ ap (λ (x : ℕ). sixteen l (get_or l 16 0 ∷ get_or l 17 0 ∷ x ∷ [])) (phase_back (get_or l 18 0) p)
    ∙ nineteen_whole l h

-- a stage of at most 2 stands for a question
pub fit_read : (l : List ℕ) → get_or l 2 0 ≤ 2 → fit_state_of l ≡ fit_at (get_or l 0 0) (get_or l 1 0) (stage_of (get_or l 2 0))
fit_read l p = simp (le-ltb 2 (get_or l 2 0) p)

pub fits_numbers_back : (l : List ℕ) → length l ≡ 3 → get_or l 2 0 ≤ 2 → fit_numbers (fit_state_of l) ≡ l
fits_numbers_back l h p =
    ap fit_numbers (fit_read l p)
    ∙ ap (λ (x : ℕ). get_or l 0 0 ∷ get_or l 1 0 ∷ x ∷ []) (third_back stage_number Stage.Asking Stage.Yes Stage.No refl refl refl (get_or l 2 0) p)
    ∙ rising_drop l 0 3 h

-- ---- the same where the numbers stand for a state

pub walk_back : (l : List ℕ) → length l ≡ 19 → walk_void l ≡ false → walk_numbers (walk_of l) ≡ l
walk_back l h k = walk_numbers_back l h (ltb-false 2 (get_or l 18 0) k)

pub fit_back : (l : List ℕ) → length l ≡ 3 → fit_void l ≡ false → fit_numbers (fit_state_of l) ≡ l
fit_back l h k = fits_numbers_back l h (ltb-false 2 (get_or l 2 0) k)

-- ---- a walk's numbers, put down one after the other

-- three numbers set behind sixteen
pub sixteen_set : (l : List ℕ) (a b c : ℕ) → length l ≡ 16
    → slice_set (slice_set (slice_set (l ++ 0 ∷ 0 ∷ 0 ∷ []) 16 a) 17 b) 18 c ≡ sixteen l (a ∷ b ∷ c ∷ [])
sixteen_set l a b c h =
    subst (λ (x : List ℕ). slice_set (slice_set (slice_set (x ++ 0 ∷ 0 ∷ 0 ∷ []) 16 a) 17 b) 18 c ≡ sixteen l (a ∷ b ∷ c ∷ [])) (sixteen_whole l h) refl
