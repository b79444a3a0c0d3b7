-- Document 01's wrong programs do not meet the demands on the ordered question: each is any call that does what its name says, tried on the four entries with 2(3,4)
-- and on Ten with 8(9,10).
--   shut_out_refusing     refusing everything (demand 2)
--   shut_out_fixed        one fixed answer, whatever it is (demand 2)
--   shut_out_idle         a turn that does nothing (demand 2 for answers)
--   shut_out_forgetting   the end reported after a yes (demand 2)
--   shut_out_still        a turn that hands back the state that it was given (demand 3, as a paid step leaves a named state)
--   shut_out_at_once      all the work in the first turn, whatever a turn of no step does (demand 3)
--   shut_out_invented     an invented step count (demand 3, since the state left is the one after just that many steps)
use Rattle.std.specs.Prelude.{ℕ, ◌+◌, ◌≡◌, refl, ◌⊎◌, true, List}
use Rattle.std.proofs.Common.{ap, ◌∙◌, sym, inl, inr, arith}
use Rattle.turns.specs.Turn.{Turned, run}
use Rattle.turns.specs.Counts.{counted}
use Rattle.turns.specs.Chains.{one, more}
use Rattle.trees.specs.Signature.{cell}
use Rattle.trees.specs.Names.{passes}
use Rattle.terms.specs.declared.Stop.{Stop}
use Rattle.terms.specs.declared.Refusal.{Refusal}
use Rattle.checked.specs.Menus.{ten, tarts, fork}
use Rattle.twig_turns.specs.Given.{given_of}
use Rattle.twig_turns.specs.Grounds.{accepted_grounds}
use Rattle.ordering.specs.Twig.{end_of, child_of, next_of, bad_end}
use Rattle.ordering.specs.Table.{index, ends_in, stands_in, one_of}
use Rattle.fits_rows.specs.declared.Stage.{Stage}
use Rattle.fits_rows.specs.Fitting.{Fitting, told, place_fits, in_range, is_yes, goes_on, fit_step}
use Rattle.fits_rows.specs.FittingLaws.{ranged_facts, left_of}
use Rattle.fits.specs.declared.Fit.{Fit}
use Rattle.fits.specs.FitTurn.{fit_at, fit_fits, fit_run}
use Rattle.fits_laws.specs.Questions.{FitLent, FitBack, lend, reading, begins}
use Rattle.fits_laws.specs.Public.{step, handed_turned, count_exact}
use Rattle.fits_laws.specs.Cases.{full, four_accepted, ten_accepted, four_not, ten_fits}
use Rattle.fits_laws.specs.Demands.{Fitter, FitTwo, FitThree, fit_three_turn}

-- the question as it begins, in a room that nobody cleared
abbrev four_fresh : FitLent
four_fresh = begins tarts (fork 2 3 4) (full 12)

abbrev ten_fresh : FitLent
ten_fresh = begins ten (fork 8 9 10) (full 30)

-- ---- demand 2

-- a turn that may spend m×n steps has to say no on the four entries, and yes on Ten
module _ (call : Fitter) (d : FitTwo call) where
  four_ends : (call tarts (fork 2 3 4) 12 four_fresh).turn.stop ≡ Stop.End
  four_ends = by (d.complete tarts (fork 2 3 4) (full 12) four_accepted (omega arith) (one {b = 12} refl) (omega arith))
    where
      by : ((call tarts (fork 2 3 4) 12 four_fresh).turn.stop ≡ Stop.Answer) ⊎ ((call tarts (fork 2 3 4) 12 four_fresh).turn.stop ≡ Stop.End)
          → (call tarts (fork 2 3 4) 12 four_fresh).turn.stop ≡ Stop.End
      by (inl e) = let f = d.yes_sound tarts (fork 2 3 4) (full 12) four_accepted (omega arith) (one {b = 12} refl) e in absurd (four_not f.0 f.1)
      by (inr e) = e

  ten_answers : (b : ℕ) (r : FitBack) → call ten (fork 8 9 10) b ten_fresh ≡ r → r.turn.stop ≡ Stop.End → ⊥
  ten_answers b r q e =
      d.no_sound ten (fork 8 9 10) (full 30) ten_accepted (omega arith) (one {b = b} refl) (ap (λ (x : FitBack). x.turn.stop) q ∙ e) ten_fits.0 ten_fits.1

pub shut_out_refusing : (call : Fitter) → ((s tw : List ℕ) (b : ℕ) (st : FitLent) → (x : Refusal) × ((call s tw b st).turn.stop ≡ Stop.Refused x))
    → FitTwo call → ⊥
shut_out_refusing call h d =
    let q = sym (four_ends call d) ∙ (h tarts (fork 2 3 4) 12 four_fresh).1 in let z : ◌≡◌ {A = ℕ} 0 1 = cc in omega arith

pub shut_out_idle : (call : Fitter) → ((s tw : List ℕ) (b : ℕ) (st : FitLent) → (call s tw b st).turn.stop ≡ Stop.Budget) → FitTwo call → ⊥
shut_out_idle call h d =
    let q = sym (four_ends call d) ∙ h tarts (fork 2 3 4) 12 four_fresh in let z : ◌≡◌ {A = ℕ} 0 1 = cc in omega arith

pub shut_out_fixed : (r : FitBack) → FitTwo (λ s tw b st. r) → ⊥
shut_out_fixed r d = ten_answers (λ s tw b st. r) d 30 r refl (four_ends (λ s tw b st. r) d)

-- any turn that reports the end where the one before said yes
pub shut_out_forgetting : (call : Fitter) → ((s tw : List ℕ) (b c : ℕ) (st : FitLent) → (call s tw b st).turn.stop ≡ Stop.Answer
    → (call s tw c (lend (call s tw b st))).turn.stop ≡ Stop.End) → FitTwo call → ⊥
shut_out_forgetting call h d = by (d.complete ten (fork 8 9 10) (full 30) ten_accepted (omega arith) (one {b = 30} refl) (omega arith))
  where
    first : FitBack
    first = call ten (fork 8 9 10) 30 ten_fresh

    by : ((call ten (fork 8 9 10) 30 ten_fresh).turn.stop ≡ Stop.Answer) ⊎ ((call ten (fork 8 9 10) 30 ten_fresh).turn.stop ≡ Stop.End) → ⊥
    by (inr e) = ten_answers call d 30 first refl e
    by (inl e) =
        d.no_sound ten (fork 8 9 10) (full 30) ten_accepted (omega arith) (more {b = 30} {r = first} refl (one {b = 0} refl))
        (h ten (fork 8 9 10) 30 0 ten_fresh e) ten_fits.0 ten_fits.1

-- ---- demand 3

four_given : (given_of tarts (fork 2 3 4)).reason ≡ 1
four_given = (accepted_grounds tarts (fork 2 3 4) four_accepted).given

four_fits : fit_fits tarts (fork 2 3 4) (reading four_fresh) ≡ true
unfolding in_range place_fits
four_fits = refl

-- the first step looks at entry 4 for node 3, and leads to entry 3
four_first : (fit_run tarts (fork 2 3 4) 1 (reading four_fresh)).state.entry ≡ 3
unfolding run cell passes end_of child_of next_of index ends_in stands_in one_of bad_end is_yes goes_on fit_step
four_first = refl

-- what demand 3 says of a turn on the four entries
module _ (call : Fitter) (d : FitThree call) (b : ℕ) where
  four_entry : (call tarts (fork 2 3 4) b four_fresh).turn.state.entry.0 ≡ (fit_run tarts (fork 2 3 4) b (reading four_fresh)).state.entry
  four_entry = ap (λ (f : Fit). f.entry.0) (fit_three_turn call d tarts (fork 2 3 4) four_given b four_fresh four_fits (omega arith)).state

  -- the steps that it says it took are the numbers written between the two states
  four_count : left_of 4 (reading (lend (call tarts (fork 2 3 4) b four_fresh))) + (call tarts (fork 2 3 4) b four_fresh).turn.steps ≡ left_of 4 (reading four_fresh)
  four_count =
      let t = fit_three_turn call d tarts (fork 2 3 4) four_given b four_fresh four_fits (omega arith) in
      let r = call tarts (fork 2 3 4) b four_fresh in
      let q = handed_turned r.turn r.left (fit_run tarts (fork 2 3 4) b (reading four_fresh)) t in
      let c = count_exact tarts (fork 2 3 4) (ranged_facts 4 3 (reading four_fresh) four_fits) (counted Fitting told (step tarts (fork 2 3 4)) b (reading four_fresh)) in
      omega (arith, c, ap (λ (x : Turned Fitting). left_of 4 x.state) q, t.steps)

pub shut_out_still : (call : Fitter) → ((s tw : List ℕ) (b : ℕ) (st : FitLent) → (call s tw b st).turn.state ≡ st.state) → FitThree call → ⊥
shut_out_still call h d =
    let q : ◌≡◌ {A = ℕ} 4 3 = ap (λ (f : Fit). f.entry.0) (sym (h tarts (fork 2 3 4) 1 four_fresh)) ∙ four_entry call d 1 ∙ four_first in omega arith

-- told after the first paid step; what it does at other budgets, 0 among them, and later does not matter
pub shut_out_at_once : (call : Fitter) → (call tarts (fork 2 3 4) 1 four_fresh).turn.state ≡ fit_at 1 1 Stage.No → FitThree call → ⊥
shut_out_at_once call h d =
    let q : ◌≡◌ {A = ℕ} 1 3 = ap (λ (f : Fit). f.entry.0) (sym h) ∙ four_entry call d 1 ∙ four_first in omega arith

-- any count that is not that of the steps between the two states
pub shut_out_invented : (call : Fitter) (b : ℕ)
    → (left_of 4 (reading (lend (call tarts (fork 2 3 4) b four_fresh))) + (call tarts (fork 2 3 4) b four_fresh).turn.steps ≡ left_of 4 (reading four_fresh) → ⊥)
    → FitThree call → ⊥
shut_out_invented call b n d = n (four_count call d b)
