-- Chains of public turns are chains of turns of the written rule, as long as what a turn judges before its first step lets it run.
--   Back r t        what a public turn hands back is the turn t of the rule
--   turn_kept       what every step keeps, a turn keeps
--   Ran c           the chain of the rule that a chain of public turns is: the same budgets, steps, stops, and the same told
--   chain_ran       there is one
use Rattle.std.specs.Prelude.{ℕ, ◌+◌, ◌≡◌, Bool, List, ◌++◌}
use Rattle.std.proofs.Math.Path.{refl, ap₂, subst}
use Rattle.std.proofs.Common.{◌∙◌, sym}
use Rattle.turns.specs.Turn.{Next, Turned, turn, Step, Steps, none, then}
use Rattle.turns.specs.Counts.{counted}
use Rattle.turns.specs.Chains.{Chain, one, more, Turns}
use Rattle.walks.specs.Chained.{told, AllButLast}
use Rattle.terms.specs.declared.Stop.{Stop}
use Rattle.checked.specs.Apart.{stop_of}

-- what a public turn hands back is a turn of the rule
pub record Back {S R P : Type 0} (state : R → S) (steps : R → ℕ) (stop : R → Stop) (read : S → P) (r : R) (t : Turned P) : Type 0 where
  pub state_same : read (state r) ≡ t.state
  pub steps_same : steps r ≡ t.steps
  pub stop_same : stop r ≡ stop_of t.halt

-- what every step keeps, a turn keeps
module _ {P : Type 0} (done : P → Bool) (step : P → Next P) (Inv : P → Type 0)
    (keeps : (a b : P) → Inv a → Step P done step a b → Inv b) where
  steps_kept : {k : ℕ} {a b : P} → Inv a → Steps P done step k a b → Inv b
  steps_kept i none = i
  steps_kept i (then {st = a} {mid = b} x m) = steps_kept (keeps a b i x) m

  pub turn_kept : (b : ℕ) (p : P) → Inv p → Inv (turn P done step b p).state
  turn_kept b p i = steps_kept i (counted P done step b p)

module _ {S R P : Type 0} (Promise : ℕ → S → R → Type 0) (state : R → S) (steps : R → ℕ) (stop : R → Stop) (read : S → P)
    (done : P → Bool) (step : P → Next P) (Inv : P → Type 0) (stays : (b : ℕ) (p : P) → Inv p → Inv (turn P done step b p).state)
    (runs : (b : ℕ) (st : S) (r : R) → Inv (read st) → Promise b st r → Back state steps stop read r (turn P done step b (read st))) where
  abbrev Is : R → Turned P → Type 0
  Is r t = Back state steps stop read r t

  module _ {A : Type 0} (tell : R → List A) (tells : Turned P → List A)
      (tell_same : (r : R) (t : Turned P) → Inv t.state → Is r t → tell r ≡ tells t) where
    -- the chain of the written rule that a chain of public turns is: the same budgets, steps and stops, and the same told
    pub record Ran (p : P) {st : S} {B K : ℕ} {r : R} (c : Chain S R Promise state steps st B K r) : Type 0 where
      pub last : Turned P
      pub count : ℕ
      pub chain : Turns P done step p B count last
      pub back : Is r last
      pub kept : Inv last.state
      pub count_same : K ≡ count
      pub told_same : told tell c ≡ told tells chain
      pub each_same : AllButLast (λ u. stop u ≡ Stop.Budget) c → AllButLast (λ t. stop_of t.halt ≡ Stop.Budget) chain

    both : {a b l k : List A} → a ≡ b → l ≡ k → a ++ l ≡ b ++ k
    both p q = ap₂ (λ (a l : List A). a ++ l) p q

    pub chain_ran : {st : S} {B K : ℕ} {r : R} (c : Chain S R Promise state steps st B K r) (p : P) → read st ≡ p → Inv p → Ran p c
    unfolding told
    chain_ran (one {st = st} {b = b} {r = r} h) p q i =
        let t = turn P done step b p in
        let x : Is r t = subst (λ (z : P). Is r (turn P done step b z)) q (runs b st r (subst Inv (sym q) i) h) in
        let k = stays b p i in
        record {
          last = t;
          count = t.steps;
          chain = one refl;
          back = x;
          kept = k;
          count_same = x.steps_same;
          told_same = tell_same r t k x;
          each_same = λ z. tt;
        }
    chain_ran (more {st = st} {b = b} {B = B} {K = K} {r = r} h c) p q i =
        let t = turn P done step b p in
        let x : Is r t = subst (λ (z : P). Is r (turn P done step b z)) q (runs b st r (subst Inv (sym q) i) h) in
        let k = stays b p i in
        let y = chain_ran c t.state x.state_same k in
        record {
          last = y.last;
          count = t.steps + y.count;
          chain = more refl y.chain;
          back = y.back;
          kept = y.kept;
          count_same = ap₂ (λ (a d : ℕ). a + d) x.steps_same y.count_same;
          told_same = both (tell_same r t k x) y.told_same;
          each_same = λ z. (sym x.stop_same ∙ z.0, y.each_same z.1);
        }
