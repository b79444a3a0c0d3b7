-- A chain of turns on bare numbers is a chain of public turns, if one turn is one turn. It is said once, for the check, preparing, walking and the ordered question.
--   Called             what a turn on bare numbers returns and leaves: the number, the state's numbers, out
--   stop_number, steps  out[0] and out[1]
--   reason_answer, reason_end, reason_budget   which public stop a number in out[0] tells
--   no_steps           after no step the state is as it was
--   Ran c, chain_ran   the chain of public turns that a chain c of turns on bare numbers is: the same budgets, steps and stops, and the same told
use Rattle.std.specs.Prelude.{ℕ, ◌+◌, ◌≡◌, refl, Bool, List, ◌++◌, get_or}
use Rattle.std.proofs.Math.Path.{ap₂, subst}
use Rattle.std.proofs.Common.{arith}
use Rattle.turns.specs.Turn.{Next, Steps, none, then}
use Rattle.turns.specs.Chains.{Chain, one, more}
use Rattle.walks.specs.Chained.{told, AllButLast}
use Rattle.terms.specs.declared.Stop.{Stop}
use Rattle.terms.specs.Stops as stops

-- what a turn on bare numbers returns, the state's numbers that it leaves, and out
pub record Called : Type 0 where
  pub number : ℕ
  pub left : List ℕ
  pub out : List ℕ

-- out[0]: 0 an answer, 1 the end, 2 the budget, 3 a refusal
abbrev pub stop_number : Called → ℕ
stop_number r = get_or r.out 0 0

-- out[1]: "says how many it took"
abbrev pub steps : Called → ℕ
steps r = get_or r.out 1 0

-- ---- out[0] tells the stop

pub reason_answer : (s : Stop) → (stops.told s).reason ≡ 0 → s ≡ Stop.Answer
reason_answer Stop.Answer q = refl
reason_answer Stop.End q = absurd (omega arith)
reason_answer Stop.Budget q = absurd (omega arith)
reason_answer (Stop.Refused r) q = absurd (omega arith)

pub reason_end : (s : Stop) → (stops.told s).reason ≡ 1 → s ≡ Stop.End
reason_end Stop.Answer q = absurd (omega arith)
reason_end Stop.End q = refl
reason_end Stop.Budget q = absurd (omega arith)
reason_end (Stop.Refused r) q = absurd (omega arith)

pub reason_budget : (s : Stop) → (stops.told s).reason ≡ 2 → s ≡ Stop.Budget
reason_budget Stop.Answer q = absurd (omega arith)
reason_budget Stop.End q = absurd (omega arith)
reason_budget Stop.Budget q = refl
reason_budget (Stop.Refused r) q = absurd (omega arith)

-- ---- no step, nothing new

pub no_steps : {S : Type 0} {finished : S → Bool} {step : S → Next S} {k : ℕ} {a b : S} → Steps S finished step k a b → k ≡ 0 → b ≡ a
no_steps none z = refl
no_steps (then x m) z = absurd (omega arith)

-- ---- one turn after the other

module _ {S R P Q : Type 0} (Promise : ℕ → S → R → Type 0) (state : R → S) (count : R → ℕ)
    (Public : ℕ → P → Q → Type 0) (handed : Q → P) (taken : Q → ℕ) (read : S → P) (whole : ℕ → P → Q) (Is : R → Q → Type 0)
    (public : (b : ℕ) (p : P) → Public b p (whole b p))
    (runs : (b : ℕ) (st : S) (r : R) → Promise b st r → Is r (whole b (read st)))
    (goes_on_law : (b : ℕ) (st : S) (r : R) → Promise b st r → read (state r) ≡ handed (whole b (read st)))
    (counts : (r : R) (q : Q) → Is r q → count r ≡ taken q)
    {A : Type 0} (tell : R → List A) (tells : Q → List A) (tell_same : (r : R) (q : Q) → Is r q → tell r ≡ tells q)
    (Spent : R → Type 0) (Spends : Q → Type 0) (spent : (r : R) (q : Q) → Is r q → Spent r → Spends q) where
  -- the chain of public turns that a chain of turns on bare numbers is: the same budgets, steps and stops, and the same told
  pub record Ran (p : P) {st : S} {B K : ℕ} {r : R} (c : Chain S R Promise state count st B K r) : Type 0 where
    pub last : Q
    pub total : ℕ
    pub chain : Chain P Q Public handed taken p B total last
    pub same : Is r last
    pub total_same : K ≡ total
    pub told_same : told tell c ≡ told tells chain
    pub each_same : AllButLast Spent c → AllButLast Spends chain

  both : {a b l k : List A} → a ≡ b → l ≡ k → a ++ l ≡ b ++ k
  both p q = ap₂ (λ (a l : List A). a ++ l) p q

  pub chain_ran : {st : S} {B K : ℕ} {r : R} (c : Chain S R Promise state count st B K r) (p : P) → read st ≡ p → Ran p c
  unfolding told
  chain_ran (one {st = st} {b = b} {r = r} h) p e =
      let x : Is r (whole b p) = subst (λ (z : P). Is r (whole b z)) e (runs b st r h) in
      record {
        last = whole b p;
        total = taken (whole b p);
        chain = one (public b p);
        same = x;
        total_same = counts r (whole b p) x;
        told_same = tell_same r (whole b p) x;
        each_same = λ z. tt;
      }
  chain_ran (more {st = st} {b = b} {B = B} {K = K} {r = r} h c) p e =
      let x : Is r (whole b p) = subst (λ (z : P). Is r (whole b z)) e (runs b st r h) in
      let y = chain_ran c (handed (whole b p)) (subst (λ (z : P). read (state r) ≡ handed (whole b z)) e (goes_on_law b st r h)) in
      record {
        last = y.last;
        total = taken (whole b p) + y.total;
        chain = more (public b p) y.chain;
        same = y.same;
        total_same = ap₂ (λ (a d : ℕ). a + d) (counts r (whole b p) x) y.total_same;
        told_same = both (tell_same r (whole b p) x) y.told_same;
        each_same = λ z. (spent r (whole b p) x z.0, y.each_same z.1);
      }
