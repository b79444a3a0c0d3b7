-- A turn that is judged before its first step: it is refused as it was given, or it is the turn of the written rule. Its laws, over any state and rule.
--   Judged st       which of the two it is from st, whatever the budget
--   counted         the state handed back is the one after exactly the steps counted
--   good_kept       what let the turn run still holds of the state handed back
--   cut, larger     a turn of a + b steps is one of a and then one of b, unless it stopped
--   fault           a refusal met by a step is that of the next step, which the budget would have paid for
use Rattle.std.specs.Prelude.{ℕ, ◌+◌, ◌≡◌, Bool}
use Rattle.std.proofs.Common.{ap, ◌∙◌, sym, arith}
use Rattle.turns.specs.Turn.{Next, Halt, Turned, turn, Step, Steps, none, then}
use Rattle.turns.specs.Counts as Counts
use Rattle.turns.specs.Laws as Laws
use Rattle.turns.specs.Chains as Chains

module _ (S : Type 0) (done : S → Bool) (step : S → Next S) (whole : ℕ → S → Turned S) (Good : S → Type 0) where
  -- a turn from st runs by the written rule, or is refused as it was given with one number for every budget
  pub data Judged (st : S) : Type 0 where
    runs : Good st → Judged st
    refuses : (number entry : ℕ) → ((b : ℕ) → whole b st ≡ record { state = st; steps = 0; halt = Halt.refusal number entry }) → Judged st

  module _ (run_is : (b : ℕ) (st : S) → Good st → whole b st ≡ turn S done step b st) (kept : (a b : S) → Step S done step a b → Good a → Good b) where
    steps_kept : {k : ℕ} {a b : S} → Steps S done step k a b → Good a → Good b
    steps_kept none g = g
    steps_kept (then s m) g = steps_kept m (kept _ _ s g)

    pub counted : (b : ℕ) (st : S) → Judged st → Steps S done step (whole b st).steps st (whole b st).state
    counted b st (runs g) = rw (run_is b st g) (Counts.counted S done step b st)
    counted b st (refuses u v e) = rw (e b) none

    pub good_kept : (b : ℕ) (st : S) → Good st → Good (whole b st).state
    good_kept b st g = steps_kept (counted b st (runs g)) g

    pub cut : (a b : ℕ) (st : S) → Judged st → (whole a st).halt ≡ Halt.budget
        → whole (a + b) st ≡ Laws.after S done step a (whole b (whole a st).state)
    cut a b st (refuses u v q) e = let h = ap (λ (t : Turned S). t.halt) (sym (q a)) ∙ e in let z : ◌≡◌ {A = ℕ} 0 1 = cc in absurd (omega arith)
    cut a b st (runs g) e =
        let h = ap (λ (t : Turned S). t.halt) (sym (run_is a st g)) ∙ e in
        run_is (a + b) st g ∙ Chains.turn_cut S done step a b st h
        ∙ ap (Laws.after S done step a) (ap (λ (x : S). turn S done step b x) (ap (λ (t : Turned S). t.state) (sym (run_is a st g))) ∙ sym (run_is b (whole a st).state (good_kept a st g)))

    pub larger : (a b : ℕ) (st : S) → Judged st → ((whole a st).halt ≡ Halt.budget → ⊥) → whole (a + b) st ≡ whole a st
    larger a b st (refuses u v q) n = q (a + b) ∙ sym (q a)
    larger a b st (runs g) n =
        run_is (a + b) st g ∙ Chains.turn_kept S done step a b st (λ e. n (ap (λ (t : Turned S). t.halt) (run_is a st g) ∙ e)) ∙ sym (run_is a st g)

    pub fault : (b : ℕ) (st : S) → Good st → (number entry : ℕ) → (whole b st).halt ≡ Halt.refusal number entry
        → Laws.AtFault S done step b st (whole b st) number entry
    fault b st g number entry e =
        rw (run_is b st g)
        (Laws.stops_before_the_fault S done step b st number entry (ap (λ (t : Turned S). t.halt) (sym (run_is b st g)) ∙ e))
