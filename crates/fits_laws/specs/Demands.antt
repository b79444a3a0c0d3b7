-- Demands 2 and 3 of the ordered question, as predicates over any turn. Ours meet them.
--   Fitter             any turn of the ordered question
--   FitCalls           calls one after the other, each given what the one before handed back
--   FitTwo             demand 2: yes and no are right, and with m×n steps to spend one of them is given
--   FitThree           demand 3: each turn is what document 01 says of a turn of the written rule
--   ours_fit_two, ours_fit_three   whatever keeps our promise meets them
--   ours, two_met, three_met       and so does a turn made of our definitions
--   fit_three_turn     demand 3 leaves one turn only
use Rattle.std.specs.Prelude.{ℕ, ◌≤◌, ◌≡◌, ◌⊎◌, true, List, length}
use Rattle.std.proofs.Common.{sym, subst, inl, inr, arith}
use Rattle.turns.specs.Turn.{Turned, Outcome}
use Rattle.turns.specs.Laws.{turn_outcome, outcome_turn}
use Rattle.turns.specs.Chains.{Chain, one, more}
use Rattle.trees.specs.Signature.{entries}
use Rattle.terms.specs.declared.Stop.{Stop}
use Rattle.twig_turns.specs.Given.{given_of}
use Rattle.twig_turns.specs.Grounds.{Accepted}
use Rattle.fits_rows.specs.Fitting.{Fitting, told}
use Rattle.fits_rows.specs.FittingLaws.{ranged_facts}
use Rattle.fits.specs.FitTurn.{room_for, fit_run, fit_fits, fit_turn_of, FitHanded}
use Rattle.fits_laws.specs.Questions.{FitLent, FitBack, lend, reading, begins, Keeps, FitTurns, Fits, FitsNot}
use Rattle.fits_laws.specs.Public.{step, run_is, back_of, back_handed}
use Rattle.fits_laws.specs.Exactly.{Came, yes, no, asks, fits_comes, fits_exactly}

-- given signature, twig, budget, and state and room
abbrev pub Fitter : Type 0
Fitter = List ℕ → List ℕ → ℕ → FitLent → FitBack

-- calls one after the other, each given the state and the room that the one before left
abbrev pub FitCalls : Fitter → List ℕ → List ℕ → FitLent → ℕ → ℕ → FitBack → Type 0
FitCalls call s tw st B K r = Chain FitLent FitBack (λ b from t. t ≡ call s tw b from) lend (λ t. t.turn.steps) st B K r

-- "From a fresh start, on an accepted signature and twig and with nothing altered between turns […] yes is given exactly if an ordered answer exists"
pub record FitTwo (call : Fitter) : Type 0 where
  pub yes_sound : (s tw room : List ℕ) → Accepted s tw → room_for s tw ≤ length room → {B K : ℕ} {r : FitBack}
      → FitCalls call s tw (begins s tw room) B K r → r.turn.stop ≡ Stop.Answer → Fits s tw
  pub no_sound : (s tw room : List ℕ) → Accepted s tw → room_for s tw ≤ length room → {B K : ℕ} {r : FitBack}
      → FitCalls call s tw (begins s tw room) B K r → r.turn.stop ≡ Stop.End → FitsNot s tw
  pub complete : (s tw room : List ℕ) → Accepted s tw → room_for s tw ≤ length room → {B K : ℕ} {r : FitBack}
      → FitCalls call s tw (begins s tw room) B K r → room_for s tw ≤ B → (r.turn.stop ≡ Stop.Answer) ⊎ (r.turn.stop ≡ Stop.End)

-- for any signature, with a twig and a length that are not refused, and any state and room in range
abbrev pub FitThree : Fitter → Type 0
FitThree call =
    (s tw : List ℕ) → (given_of s tw).reason ≡ 1 → (b : ℕ) (st : FitLent) → fit_fits s tw (reading st) ≡ true → room_for s tw ≤ length st.room
    → (t : Turned Fitting) × FitHanded (call s tw b st).turn (call s tw b st).left t × Outcome Fitting told (step s tw) b (reading st) t

-- ---- ours

module _ (call : Fitter) (promise : (s tw : List ℕ) (b : ℕ) (st : FitLent) → Keeps s tw b st (call s tw b st)) where
  keeps : (s tw : List ℕ) {st : FitLent} {B K : ℕ} {r : FitBack} → FitCalls call s tw st B K r → FitTurns s tw st B K r
  keeps s tw (one {st = st} {b = b} q) = one (subst (Keeps s tw b st) (sym q) (promise s tw b st))
  keeps s tw (more {st = st} {b = b} q c) = more (subst (Keeps s tw b st) (sym q) (promise s tw b st)) (keeps s tw c)

  pub ours_fit_two : FitTwo call
  ours_fit_two = record {
    yes_sound = λ s tw room a l c e. (fits_exactly s tw a room l (keeps s tw c)).yes_sound e;
    no_sound = λ s tw room a l c e. (fits_exactly s tw a room l (keeps s tw c)).no_sound e;
    complete = λ s tw room a l c b. by s tw b (fits_comes s tw a room l (keeps s tw c));
  }
    where
      by : (s tw : List ℕ) {B K : ℕ} {r : FitBack} → room_for s tw ≤ B → Came s tw B K r → (r.turn.stop ≡ Stop.Answer) ⊎ (r.turn.stop ≡ Stop.End)
      by s tw b (yes o) = inl o.stop
      by s tw b (no o) = inr o.stop
      by s tw b (asks o) = absurd (omega (arith, o.fewer))

  pub ours_fit_three : FitThree call
  ours_fit_three s tw g b st i l = (
    fit_run s tw b (reading st),
    subst (FitHanded (call s tw b st).turn (call s tw b st).left)
        (run_is s tw b (reading st) (record { given = g; in_range = ranged_facts (entries s) (entries tw) (reading st) i; room = l }))
        (promise s tw b st),
    turn_outcome Fitting told (step s tw) b (reading st),
  )

-- a turn made of our definitions, which the demands are met by
abbrev pub ours : Fitter
ours s tw b st = back_of (fit_turn_of s tw b (reading st))

pub two_met : FitTwo ours
two_met = ours_fit_two ours (λ s tw b st. back_handed (fit_turn_of s tw b (reading st)))

pub three_met : FitThree ours
three_met = ours_fit_three ours (λ s tw b st. back_handed (fit_turn_of s tw b (reading st)))

-- ---- demand 3 leaves one turn only

pub fit_three_turn : (call : Fitter) → FitThree call → (s tw : List ℕ) → (given_of s tw).reason ≡ 1 → (b : ℕ) (st : FitLent)
    → fit_fits s tw (reading st) ≡ true → room_for s tw ≤ length st.room
    → FitHanded (call s tw b st).turn (call s tw b st).left (fit_run s tw b (reading st))
fit_three_turn call d s tw g b st i l =
    let x = d s tw g b st i l in
    subst (FitHanded (call s tw b st).turn (call s tw b st).left) (sym (outcome_turn Fitting told (step s tw) x.2)) x.1
