-- A chain of public turns is a chain of turns of the rule.
--   Ran             those turns, and that the last one is what was handed back
--   chain_ran       from any state that nothing refuses
--   chain_states    the state and the room that a chain hands back are those after exactly the steps added up
--   Altered         public turns whose room anybody may alter between two of them
--   altered_within  even then no more steps are taken in all than there were numbers left
use Rattle.std.specs.Prelude.{ℕ, ◌+◌, ◌≤◌, ◌≡◌, refl, List, [], true}
use Rattle.std.proofs.Common.{ap, sym, subst, arith}
use Rattle.turns.specs.Turn.{Turned, Steps}
use Rattle.turns.specs.Counts.{steps_append, counted}
use Rattle.turns.specs.Chains.{Chain, one, more, Turns}
use Rattle.trees.specs.Signature.{entries_of, width, entries}
use Rattle.fits_rows.specs.Fitting.{Fitting, told}
use Rattle.fits_rows.specs.FittingLaws.{Ranged, ranged_facts, left_of, steps_within}
use Rattle.fits.specs.declared.Fit.{Fit}
use Rattle.fits.specs.FitTurn.{fitting, fit_run, fit_fits, FitHanded, FitPromise}
use Rattle.fits_laws.specs.Questions.{FitLent, FitBack, lend, reading, Keeps, FitTurns}
use Rattle.fits_laws.specs.Public.{handed_turned, step, Good, run_is, kept, step_as_written}
use Rattle.terms.specs.declared.Turn.{Turn}

module _ (s tw : List ℕ) where
  -- the turns of the rule that a chain of public turns is
  pub record Ran (p : Fitting) (B K : ℕ) (r : FitBack) : Type 0 where
    pub last : Turned Fitting
    pub chain : Turns Fitting told (step s tw) p B K last
    pub is : FitHanded r.turn r.left last

  -- one turn
  turn_is : (b : ℕ) (st : FitLent) (r : FitBack) → Good s tw (reading st) → Keeps s tw b st r → FitHanded r.turn r.left (fit_run s tw b (reading st))
  turn_is b st r g p = subst (FitHanded r.turn r.left) (run_is s tw b (reading st) g) p

  next_is : (r : FitBack) (t : Turned Fitting) → FitHanded r.turn r.left t → reading (lend r) ≡ t.state
  next_is r t h = ap (λ (x : Turned Fitting). x.state) (handed_turned r.turn r.left t h)

  steps_good : {k : ℕ} {a b : Fitting} → Steps Fitting told (step s tw) k a b → Good s tw a → Good s tw b
  steps_good Steps.none g = g
  steps_good (Steps.then x m) g = steps_good m (kept s tw _ _ x g)

  pub chain_ran : {st : FitLent} {B K : ℕ} {r : FitBack} → FitTurns s tw st B K r → Good s tw (reading st) → Ran (reading st) B K r
  chain_ran (one {st = st} {b = b} {r = r} p) g =
      let h = turn_is b st r g p in
      record {
        last = fit_run s tw b (reading st);
        chain = subst (λ (i : ℕ). Turns Fitting told (step s tw) (reading st) b i (fit_run s tw b (reading st))) (sym h.steps) (one refl);
        is = h;
      }
  chain_ran (more {st = st} {b = b} {B = B} {K = K} {r = r} {last = last} p c) g =
      let t = fit_run s tw b (reading st) in
      let h = turn_is b st r g p in
      let z = next_is r t h in
      let x = chain_ran c (subst (Good s tw) (sym z) (steps_good (counted Fitting told (step s tw) b (reading st)) g)) in
      record {
        last = x.last;
        chain = subst (λ (i : ℕ). Turns Fitting told (step s tw) (reading st) (b + B) (i + K) x.last) (sym h.steps)
            (more {r = t} refl (subst (λ (p : Fitting). Turns Fitting told (step s tw) p B K x.last) z x.chain));
        is = x.is;
      }

  -- for any signature, twig, room and state: however the turns are cut, and whether they are refused or not
  pub chain_states : {st : FitLent} {B K : ℕ} {r : FitBack} → FitTurns s tw st B K r → Steps Fitting told (step s tw) K (reading st) (reading (lend r))
  chain_states (one {st = st} {b = b} {r = r} p) = step_as_written s tw st.room b st.state r.turn r.left p
  chain_states (more {st = st} {b = b} {r = r} p c) =
      steps_append Fitting told (step s tw) (step_as_written s tw st.room b st.state r.turn r.left p) (chain_states c)

  -- ---- a room that is altered between turns

  -- a turn over some room, which it leaves as it may
  abbrev pub OverSome : ℕ → Fit → Turn Fit → Type 0
  OverSome b st r = (room : List ℕ) × (left : List ℕ) × FitPromise s tw room b st r left

  -- turns each given the state that the one before handed back, over whatever room
  abbrev pub Altered : Fit → ℕ → ℕ → Turn Fit → Type 0
  Altered st B K r = Chain Fit (Turn Fit) OverSome (λ t. t.state) (λ t. t.steps) st B K r

  -- how many numbers are left does not depend on what the room holds
  one_within : (b : ℕ) (st : Fit) (r : Turn Fit) → OverSome b st r → Ranged (entries s) (entries tw) (fitting st [])
      → Ranged (entries s) (entries tw) (fitting r.state []) × (left_of (entries s) (fitting r.state []) + r.steps ≡ left_of (entries s) (fitting st []))
  one_within b st r (room, left, p) g =
      let x = steps_within (entries s) (entries_of width s) (entries tw) (entries_of width tw) (step_as_written s tw room b st r left p) (bare room g) in
      (bare_back left x.0, x.1)
    where
      bare : (l : List ℕ) → Ranged (entries s) (entries tw) (fitting st []) → Ranged (entries s) (entries tw) (fitting st l)
      bare l q = record { node_low = q.node_low; node_high = q.node_high; entry_low = q.entry_low; entry_high = q.entry_high; stage_fits_law = q.stage_fits_law }

      bare_back : (l : List ℕ) → Ranged (entries s) (entries tw) (fitting r.state l) → Ranged (entries s) (entries tw) (fitting r.state [])
      bare_back l q = record { node_low = q.node_low; node_high = q.node_high; entry_low = q.entry_low; entry_high = q.entry_high; stage_fits_law = q.stage_fits_law }

  altered_left : {st : Fit} {B K : ℕ} {r : Turn Fit} → Altered st B K r → Ranged (entries s) (entries tw) (fitting st [])
      → left_of (entries s) (fitting r.state []) + K ≡ left_of (entries s) (fitting st [])
  altered_left (one {st = st} {b = b} {r = r} p) g = (one_within b st r p g).1
  altered_left (more {st = st} {b = b} {r = r} p c) g = let x = one_within b st r p g in omega (arith, x.1, altered_left c x.0)

  -- "each step lowers (q−1)×n + t by one", on any signature and any rooms
  pub altered_within : {st : Fit} {B K : ℕ} {r : Turn Fit} → Altered st B K r → fit_fits s tw (fitting st []) ≡ true → K ≤ left_of (entries s) (fitting st [])
  altered_within {st} c f = omega (arith, altered_left c (ranged_facts (entries s) (entries tw) (fitting st []) f))
