-- Demand 3 of the check at the public call, over its promise.
--   one_result             two results that the promise allows are equal
--   step_as_written        the state handed back is the one after exactly the steps returned, by the written rule
--   handed_back_in_range   from a state in range the state handed back is in range, after a refusal too
--   stops_before_the_fault     a refused turn stands before the step that the rule refuses, and its budget would have paid for it
--   cut_anywhere, cut_kept  a turn of a + b steps is one of a and then one of b, unless it stopped
--   count_unique           no two counts join the same two states
--   Open, Depth, fresh_depth, moves_depth   how many elements are open: with those closed, all but the next entry
--   refused_early          a check refused at a step has taken fewer than 2×n steps
--   chain_verdict          and is refused with the same number and entry by the whole check
use Rattle.std.specs.Prelude.{ℕ, zero, suc, ◌+◌, ◌*◌, ◌≤◌, ◌<◌, ◌≡◌, refl, ◌⊎◌, List, Bool, true, false, length, Err}
use Rattle.std.proofs.Common.{ap, ◌∙◌, sym, subst, inl, inr, arith}
use Rattle.std.proofs.lemmas.Bool.{false≢true}
use Rattle.trees.specs.Order.{lt_or_ge}
use Rattle.turns.specs.Turn.{Halt, Turned, turn, Next, refused, Moves, stay, move, Step, on, found, Steps, none, faulty}
use Rattle.turns.specs.Counts as Counts
use Rattle.turns.specs.Laws as Laws
use Rattle.turns.specs.Chains as Chains
use Rattle.trees.specs.Signature.{entries_of, width, entries}
use Rattle.terms.specs.declared.Kind.{Kind}
use Rattle.checking.specs.declared.CheckState.{CheckState}
use Rattle.terms.specs.declared.Stop.{Stop}
use Rattle.terms.specs.declared.Refusal.{Refusal}
use Rattle.terms.specs.Kinds.{any_name, most}
use Rattle.checking.specs.Rule.{fresh, step_of, accepted, Ranges}
use Rattle.terms.specs.Stops.{Told, told, halt_told, Verdict, Handed}
use Rattle.checking.specs.Turn.{TurnPromise, turn_of, refused_at}
use Rattle.checking.specs.Whole.{WholePromise}
use Rattle.checking.proofs.Inverse.{Opens, Closes, step_inverse, step_grows, step_silent}
use Rattle.checking.proofs.Runs.{moves_grow, moves_ranges}
use Rattle.terms.proofs.Lengths.{length_sized}
use Rattle.checking.proofs.Cases.{accepted_yes, fresh_ranges}
use Rattle.checked.specs.Yields.{Turns}
use Rattle.checked.specs.Apart.{handed_unique, verdict_apart, halt_told_law, told_halt}
use Rattle.checked.specs.Chained.{Fits, Judged, refuses, runs, judged, turn_is, promise_is, steps_kept, chain_ran, run_moves}
use Rattle.terms.specs.declared.Turn.{Turn}

-- ---- one result

pub one_result : (k : Kind) (s : List ℕ) (b : ℕ) (st : CheckState) (r q : Turn CheckState) → TurnPromise k s b st r → TurnPromise k s b st q → r ≡ q
one_result k s b st r q p o = handed_unique r q (turn_of k s b st) p o

pub one_verdict : (k : Kind) (s : List ℕ) (v w : Verdict) → WholePromise k s v → WholePromise k s w → v ≡ w
one_verdict k s v w p q = verdict_apart v w (p ∙ sym q)

module _ (k : Kind) (s : List ℕ) where
  abbrev step : CheckState → Next CheckState
  step st = step_of (any_name k) (entries s) (entries_of width s) st

  abbrev done : CheckState → Bool
  done st = accepted (entries s) st

  -- ---- one turn, on any list from any state

  module _ (b : ℕ) (st : CheckState) (r : Turn CheckState) (p : TurnPromise k s b st r) where
    pub step_as_written : Steps CheckState done step r.steps st r.state
    step_as_written = go (judged k s st)
      where
        go : Judged k s st → Steps CheckState done step r.steps st r.state
        go (refuses number e) = let h = subst (Handed r) (e b) p in rw (h.state, h.steps) none
        go (runs f g) = let h = promise_is k s f b st r g p in rw (h.state, h.steps) (Counts.counted CheckState done step b st)

    pub handed_back_in_range : Ranges (entries s) st → Ranges (entries s) r.state
    handed_back_in_range g = steps_kept k s g step_as_written

    -- the next step is the one refused, and the budget would have paid for it
    pub record BeforeFault (x : Refusal) : Type 0 where
      pub going : done r.state ≡ false
      pub fault : step r.state ≡ refused x.number x.entry.0
      pub paid : r.steps < b

    pub stops_before_the_fault : Fits k s → Ranges (entries s) st → (x : Refusal) → r.stop ≡ Stop.Refused x → BeforeFault x
    stops_before_the_fault f g x e =
        let h = promise_is k s f b st r g p in
        let q = Laws.stops_before_the_fault CheckState done step b st x.number x.entry.0
        (halt_told_law (turn CheckState done step b st).halt (Halt.refusal x.number x.entry.0) (sym h.stop ∙ ap told e)) in
        record { going = rw h.state q.going; fault = rw h.state q.fault; paid = rw h.steps q.paid }

  -- ---- turns one after the other

  not_spent : (st : CheckState) (number : ℕ) (x : Turn CheckState) → Handed x (refused_at st number) → x.stop ≡ Stop.Budget → ⊥
  not_spent st number x h e = let z : ◌≡◌ {A = ℕ} 2 3 = ap (λ (t : Told). t.reason) (sym (ap told e) ∙ h.stop) in omega arith

  -- stopped by its budget, a turn of a steps and then one of b are the turn of a + b
  pub cut_anywhere : (a b : ℕ) (st : CheckState) (x y r : Turn CheckState) → TurnPromise k s a st x → x.stop ≡ Stop.Budget
      → TurnPromise k s b x.state y → TurnPromise k s (a + b) st r → r ≡ record { state = y.state; steps = a + y.steps; stop = y.stop }
  cut_anywhere a b st x y r p e q o = go (judged k s st)
    where
      go : Judged k s st → r ≡ record { state = y.state; steps = a + y.steps; stop = y.stop }
      go (refuses number t) = absurd (not_spent st number x (subst (Handed x) (t a) p) e)
      go (runs f g) =
          let hx = promise_is k s f a st x g p in
          let hy = promise_is k s f b x.state y (handed_back_in_range a st x p g) q in
          let ho = promise_is k s f (a + b) st r g o in
          let c = Chains.turn_cut CheckState done step a b st (halt_told_law _ Halt.budget (sym hx.stop ∙ ap told e)) in
          handed_unique r (record { state = y.state; steps = a + y.steps; stop = y.stop }) (turn CheckState done step (a + b) st) ho
          (rw c (record {
            state = hy.state ∙ ap (λ (z : CheckState). (turn CheckState done step b z).state) hx.state;
            steps = ap (λ (i : ℕ). a + i) (hy.steps ∙ ap (λ (z : CheckState). (turn CheckState done step b z).steps) hx.state);
            stop = hy.stop ∙ ap (λ (z : CheckState). halt_told (turn CheckState done step b z).halt) hx.state;
          }))

  -- stopped by anything else, a larger budget changes nothing
  pub cut_kept : (a b : ℕ) (st : CheckState) (x r : Turn CheckState) → TurnPromise k s a st x → (x.stop ≡ Stop.Budget → ⊥)
      → TurnPromise k s (a + b) st r → r ≡ x
  cut_kept a b st x r p n o = go (judged k s st)
    where
      go : Judged k s st → r ≡ x
      go (refuses number t) = handed_unique r x (refused_at st number) (subst (Handed r) (t (a + b)) o) (subst (Handed x) (t a) p)
      go (runs f g) =
          let hx = promise_is k s f a st x g p in
          let ho = promise_is k s f (a + b) st r g o in
          handed_unique r x (turn CheckState done step (a + b) st) ho
          (rw (Chains.turn_kept CheckState done step a b st (λ e. n (told_halt x.stop Halt.budget (hx.stop ∙ ap halt_told e)))) hx)

  -- ---- counts

  -- next + closed grows by one with each step
  grows : (a b : CheckState) → Step CheckState done step a b → a.next.0 + a.closed.0 < b.next.0 + b.closed.0
  grows a b (on h e) = omega (arith, step_grows (any_name k) (entries s) (entries_of width s) a b e)
  grows a b (found h e) = absurd (step_silent (any_name k) (entries s) (entries_of width s) a b e)

  pub count_unique : {i j : ℕ} {a b : CheckState} → Steps CheckState done step i a b → Steps CheckState done step j a b → i ≡ j
  count_unique m w =
      Counts.count_unique CheckState done step (λ a b. a.next.0 + a.closed.0 < b.next.0 + b.closed.0)
      (λ a b c x y. omega arith) (λ a x. omega arith) grows m w

  -- ---- a refused check has taken fewer than 2×n steps

  -- d elements are open: top, its fa, and so on up to none
  abbrev pub Open : ℕ → ℕ → Type 0
  Open zero top = top ≡ 0
  Open (suc d) top = (1 ≤ top) × Open d ((entries_of width s).fa top)

  -- closed + open + 1 = next
  pub record Depth (st : CheckState) : Type 0 where
    pub held : ℕ
    pub chain : Open held st.top.0
    pub count : st.closed.0 + held + 1 ≡ st.next.0

  pub fresh_depth : Depth fresh
  fresh_depth = record { held = 0; chain = refl; count = refl }

  opened : {st to : CheckState} → Opens (any_name k) (entries s) (entries_of width s) st to → Depth st → Depth to
  opened o d = rw o.is (record { held = suc d.held; chain = (omega (arith, o.low), rw o.here d.chain); count = omega (arith, d.count) })

  closed : {st to : CheckState} → Closes (entries_of width s) st to → (d : ℕ) → Open d st.top.0 → st.closed.0 + d + 1 ≡ st.next.0 → Depth to
  closed c zero q e = absurd (c.some_open q)
  closed c (suc d) q e = rw c.is (record { held = d; chain = q.1; count = omega arith })

  pub moves_depth : {j : ℕ} {st to : CheckState} → Depth st → Moves CheckState done step j st to → Depth to
  moves_depth d stay = d
  moves_depth d (move {st = st} {mid = mid} h e m) = moves_depth (next (step_inverse (any_name k) (entries s) (entries_of width s) st mid e)) m
    where
      next : Opens (any_name k) (entries s) (entries_of width s) st mid ⊎ Closes (entries_of width s) st mid → Depth mid
      next (inl o) = opened o d
      next (inr c) = closed c d.held d.chain d.count

  -- after 2×n steps everything is open and closed again: that is the end
  all_closed : (st : CheckState) → Depth st → Ranges (entries s) st → 2 * entries s + 1 ≤ st.next.0 + st.closed.0 → done st ≡ true
  all_closed st d g l = accepted_yes (entries s) st (omega (arith, g.last, g.closed)) (go d.held d.chain (omega (arith, d.count, g.last, g.closed)))
    where
      go : (i : ℕ) → Open i st.top.0 → i ≡ 0 → st.top.0 ≡ 0
      go zero q e = q
      go (suc i) q e = absurd (omega arith)

  -- a chain that was refused at a step: where it stands, and that the step is refused there
  record Refused (K : ℕ) (x : Refusal) : Type 0 where
    pub state : CheckState
    pub moves : Moves CheckState done step K fresh state
    pub going : done state ≡ false
    pub fault : step state ≡ refused x.number x.entry.0

  chain_refused : Fits k s → {B K : ℕ} {r : Turn CheckState} → Turns k s fresh B K r → (x : Refusal) → r.stop ≡ Stop.Refused x → Refused K x
  chain_refused f c x e =
      let ran = chain_ran k s f (fresh_ranges (entries s)) c in
      let q = halt_told_law ran.last.halt (Halt.refusal x.number x.entry.0) (sym ran.handed.stop ∙ ap told e) in
      let w = Chains.chain_fault CheckState done step x.number x.entry.0 ran.chain q in
      record { state = ran.last.state; moves = run_moves k s (Chains.chain_steps CheckState done step ran.chain); going = w.0; fault = w.1 }

  pub refused_early : Fits k s → {B K : ℕ} {r : Turn CheckState} → Turns k s fresh B K r → (x : Refusal) → r.stop ≡ Stop.Refused x → K < 2 * entries s
  refused_early f {K = K} c x e = go (lt_or_ge K (2 * entries s))
    where
      w : Refused K x
      w = chain_refused f c x e

      go : (K < 2 * entries s) ⊎ (2 * entries s ≤ K) → K < 2 * entries s
      go (inl l) = l
      go (inr l) =
          let d = moves_depth fresh_depth w.moves in
          let a = all_closed w.state d (moves_ranges (any_name k) (entries s) (entries_of width s) (fresh_ranges (entries s)) w.moves)
          (omega (arith, moves_grow (any_name k) (entries s) (entries_of width s) w.moves)) in
          absurd (false≢true (sym w.going ∙ a))

  -- a check that is refused at a step, however it was cut, is refused so by the whole check
  pub chain_verdict : Fits k s → {B K : ℕ} {r : Turn CheckState} → Turns k s fresh B K r → (x : Refusal) → r.stop ≡ Stop.Refused x
      → WholePromise k s (Err x)
  chain_verdict f {K = K} c x e =
      let w = chain_refused f c x e in
      let l = refused_early f c x e in
      let z = length_sized (most k) width (length s) f in
      ap (λ (t : Turned CheckState). halt_told t.halt)
      (sym (turn_is k s f (2 * most k + 1) fresh (fresh_ranges (entries s)) ∙ Laws.outcome_turn CheckState done step
      (faulty w.moves (omega (arith, z.small)) w.going w.fault)))
