-- Chains of turns over any rule: what their turns told, and those in which only the last turn was stopped by more than its budget.
--   told tell c        what the turns of the chain c told, in order
--   AllButLast Q c     Q holds of what each turn but the last handed back
--   turn_spent         stopped by its budget, a turn took just that many steps
--   turn_ended         the end is reported of a finished state only
--   chain_last         the last turn of a chain is a turn
--   chain_one          where each turn but the last spent its budget, the chain is one turn with all budgets
use Rattle.std.specs.Prelude.{ℕ, ◌+◌, ◌≡◌, refl, Bool, true, List, ◌++◌}
use Rattle.std.proofs.Common.{ap, ◌∙◌, sym, arith}
use Rattle.turns.specs.Turn.{Next, end, budget, Turned, turn, Outcome, ended, spent, told as tells, faulty}
use Rattle.turns.specs.Laws.{turn_outcome, after}
use Rattle.turns.specs.Chains.{Chain, one, more, Turns, turn_cut}

module _ {S R A : Type 0} {Promise : ℕ → S → R → Type 0} {state : R → S} {steps : R → ℕ} where
  -- what the turns told, in order
  unfoldable pub told : (R → List A) → {st : S} {B K : ℕ} {r : R} → Chain S R Promise state steps st B K r → List A
  told tell (one {r = r} p) = tell r
  told tell (more {r = r} p c) = tell r ++ told tell c

module _ {S R : Type 0} {Promise : ℕ → S → R → Type 0} {state : R → S} {steps : R → ℕ} where
  -- Q holds of what each turn but the last handed back
  abbrev pub AllButLast : (R → Type 0) → {st : S} {B K : ℕ} {r : R} → Chain S R Promise state steps st B K r → Type 0
  AllButLast Q (one p) = Unit
  AllButLast Q (more {r = r} p c) = Q r × AllButLast Q c

module _ (S : Type 0) (finished : S → Bool) (step : S → Next S) where
  -- ---- what stopped a turn says of it

  outcome_spent : {b : ℕ} {st : S} {t : Turned S} → Outcome S finished step b st t → t.halt ≡ budget → t.steps ≡ b
  outcome_spent (ended m l f) e = let z : ◌≡◌ {A = ℕ} 0 1 = cc in absurd (omega arith)
  outcome_spent (spent m f) e = refl
  outcome_spent (tells m l f a) e = let z : ◌≡◌ {A = ℕ} 0 1 = cc in absurd (omega arith)
  outcome_spent (faulty m l f a) e = let z : ◌≡◌ {A = ℕ} 0 1 = cc in absurd (omega arith)

  -- stopped by the budget, it took just that many steps
  pub turn_spent : (b : ℕ) (st : S) → (turn S finished step b st).halt ≡ budget → (turn S finished step b st).steps ≡ b
  turn_spent b st e = outcome_spent (turn_outcome S finished step b st) e

  outcome_ended : {b : ℕ} {st : S} {t : Turned S} → Outcome S finished step b st t → t.halt ≡ end → finished t.state ≡ true
  outcome_ended (ended m l f) e = f
  outcome_ended (spent m f) e = let z : ◌≡◌ {A = ℕ} 0 1 = cc in absurd (omega arith)
  outcome_ended (tells m l f a) e = let z : ◌≡◌ {A = ℕ} 0 1 = cc in absurd (omega arith)
  outcome_ended (faulty m l f a) e = let z : ◌≡◌ {A = ℕ} 0 1 = cc in absurd (omega arith)

  -- the end is reported of a finished state only
  pub turn_ended : (b : ℕ) (st : S) → (turn S finished step b st).halt ≡ end → finished (turn S finished step b st).state ≡ true
  turn_ended b st e = outcome_ended (turn_outcome S finished step b st) e

  -- ---- chains

  pub chain_last : {st : S} {B K : ℕ} {t : Turned S} → Turns S finished step st B K t
      → (b : ℕ) × (mid : S) × (t ≡ turn S finished step b mid)
  chain_last {st} (one {b = b} e) = (b, st, e)
  chain_last (more e c) = chain_last c

  -- where each turn but the last spent its budget, they are one turn
  pub chain_one : {st : S} {B K : ℕ} {t : Turned S} (c : Turns S finished step st B K t) → AllButLast (λ u. u.halt ≡ budget) c
      → turn S finished step B st ≡ record { state = t.state; steps = K; halt = t.halt }
  chain_one (one e) q = sym e
  chain_one {st} {t = t} (more {b = b} {B = B} {K = K} {r = r} e c) q =
      let h : (turn S finished step b st).halt ≡ budget = rw (← e) q.0 in
      let n : r.steps ≡ b = rw e (turn_spent b st h) in
      turn_cut S finished step b B st h
      ∙ ap (λ (u : S). after S finished step b (turn S finished step B u)) (ap (λ (u : Turned S). u.state) (sym e))
      ∙ ap (after S finished step b) (chain_one c q.1)
      ∙ ap (λ (k : ℕ). record { state = t.state; steps = k + K; halt = t.halt }) (sym n)
