-- Public turns of the check are turns of the written rule, as long as the length is fine and the state is within its ranges.
--   turn_is          one public turn
--   judged           a turn is refused before any step, with one number for every budget, or run
--   Ran, chain_ran   a chain of public turns
--   chain_length     no chain reports the end where the length is refused
--   run_moves        the check's steps are moves: none is an answer
use Rattle.std.specs.Prelude.{ℕ, ◌+◌, ◌≡◌, refl, List, Bool, true, false, length}
use Rattle.std.proofs.Common.{ap, ◌∙◌, sym, subst, arith}
use Rattle.std.proofs.Math.Decide.{ℕ_discrete}
use Rattle.turns.specs.Turn.{Halt, Turned, turn, Moves, stay, move, Step, on, found, Steps, none, then}
use Rattle.turns.specs.Counts.{counted}
use Rattle.turns.specs.Chains as Chains
use Rattle.turns.specs.Chains.{one, more}
use Rattle.trees.specs.Signature.{entries_of, width, entries}
use Rattle.terms.specs.declared.Kind.{Kind}
use Rattle.checking.specs.declared.CheckState.{CheckState}
use Rattle.terms.specs.Kinds.{any_name, most}
use Rattle.checking.specs.Rule.{step_of, accepted, Ranges, in_range}
use Rattle.terms.specs.Stops.{told, halt_told, Handed}
use Rattle.checking.specs.Turn.{TurnPromise, turn_of, refused_at}
use Rattle.terms.specs.Length.{length_fault}
use Rattle.checking.proofs.Cases.{range_yes, range_inverse}
use Rattle.checking.proofs.Inverse.{step_ranges, step_silent}
use Rattle.checking.proofs.Runs.{turn_run, turn_length, turn_range}
use Rattle.checked.specs.Yields.{Turns}
use Rattle.terms.specs.declared.Turn.{Turn}

module _ (k : Kind) (s : List ℕ) where
  abbrev step : CheckState → Rattle.turns.specs.Turn.Next CheckState
  step st = step_of (any_name k) (entries s) (entries_of width s) st

  abbrev done : CheckState → Bool
  done st = accepted (entries s) st

  -- the length is not refused
  abbrev pub Fits : Type 0
  Fits = length_fault (most k) width (length s) ≡ 0

  -- ---- one turn

  pub turn_is : Fits → (b : ℕ) (st : CheckState) → Ranges (entries s) st → turn_of k s b st ≡ turn CheckState done step b st
  turn_is f b st g = turn_run (any_name k) (most k) s b st f (range_yes (entries s) st g)

  pub promise_is : Fits → (b : ℕ) (st : CheckState) (r : Turn CheckState) → Ranges (entries s) st → TurnPromise k s b st r
      → Handed r (turn CheckState done step b st)
  promise_is f b st r g p = subst (Handed r) (turn_is f b st g) p

  -- refused before any step, with one number for every budget; or run
  pub data Judged (st : CheckState) : Type 0 where
    refuses : (number : ℕ) → ((b : ℕ) → turn_of k s b st ≡ refused_at st number) → Judged st
    runs : Fits → Ranges (entries s) st → Judged st

  pub judged : (st : CheckState) → Judged st
  judged st = go (ℕ_discrete (length_fault (most k) width (length s)) 0) (in_range (entries s) st) refl
    where
      go : Dec (length_fault (most k) width (length s) ≡ 0) → (x : Bool) → in_range (entries s) st ≡ x → Judged st
      go (no n) x e = refuses _ (λ b. turn_length (any_name k) (most k) s b st n)
      go (yes f) true e = runs f (range_inverse (entries s) st e)
      go (yes f) false e = refuses 9 (λ b. turn_range (any_name k) (most k) s b st f e)

  -- ---- steps keep the ranges

  step_kept : {st to : CheckState} → Ranges (entries s) st → Step CheckState done step st to → Ranges (entries s) to
  step_kept g (on h e) = step_ranges (any_name k) (entries s) (entries_of width s) _ _ g e
  step_kept g (found h e) = absurd (step_silent (any_name k) (entries s) (entries_of width s) _ _ e)

  pub steps_kept : {j : ℕ} {st to : CheckState} → Ranges (entries s) st → Steps CheckState done step j st to → Ranges (entries s) to
  steps_kept g none = g
  steps_kept g (then x m) = steps_kept (step_kept g x) m

  -- none of the check's steps is an answer
  pub run_moves : {j : ℕ} {st to : CheckState} → Steps CheckState done step j st to → Moves CheckState done step j st to
  run_moves none = stay
  run_moves (then (on h e) m) = move h e (run_moves m)
  run_moves (then (found h e) m) = absurd (step_silent (any_name k) (entries s) (entries_of width s) _ _ e)

  pub turn_kept : (b : ℕ) (st : CheckState) → Ranges (entries s) st → Ranges (entries s) (turn CheckState done step b st).state
  turn_kept b st g = steps_kept g (counted CheckState done step b st)

  -- ---- a chain of turns

  -- the turns of the rule that the public turns are
  pub record Ran (st : CheckState) (B K : ℕ) (r : Turn CheckState) : Type 0 where
    pub last : Turned CheckState
    pub chain : Chains.Turns CheckState done step st B K last
    pub handed : Handed r last

  pub chain_ran : Fits → {st : CheckState} {B K : ℕ} {r : Turn CheckState} → Ranges (entries s) st → Turns k s st B K r → Ran st B K r
  chain_ran f g (one {st = st} {b = b} {r = r} p) =
      let h = promise_is f b st r g p in
      record {
        last = turn CheckState done step b st;
        chain = subst (λ (x : ℕ). Chains.Turns CheckState done step st b x (turn CheckState done step b st)) (sym h.steps) (one refl);
        handed = h;
      }
  chain_ran f g (more {st = st} {b = b} {B = B} {K = K} {r = r} p c) =
      let h = promise_is f b st r g p in
      let t = turn CheckState done step b st in
      let x = chain_ran f (subst (Ranges (entries s)) (sym h.state) (turn_kept b st g)) c in
      record {
        last = x.last;
        chain = subst (λ (i : ℕ). Chains.Turns CheckState done step st (b + B) (i + K) x.last) (sym h.steps)
            (more refl (subst (λ (y : CheckState). Chains.Turns CheckState done step y B K x.last) h.state x.chain));
        handed = x.handed;
      }

  -- where the length is refused, so is every turn
  pub chain_length : (Fits → ⊥) → {st : CheckState} {B K : ℕ} {r : Turn CheckState} → Turns k s st B K r → told r.stop ≡ halt_told Halt.end → ⊥
  chain_length n (one {st = st} {b = b} {r = r} p) e =
      let q = p.stop ∙ ap (λ (t : Turned CheckState). halt_told t.halt) (turn_length (any_name k) (most k) s b st n) in
      let z : ◌≡◌ {A = ℕ} 1 3 = ap (λ (t : Rattle.terms.specs.Stops.Told). t.reason) (sym e ∙ q) in
      omega arith
  chain_length n (more p c) e = chain_length n c e
