-- The laws of a turn: what stops it is the first of finished, budget, refusal and answer, and nothing else.
--   run_…            which case holds under which facts, as a loop meets them
--   turn_outcome     a turn is what document 01 says of it
--   outcome_turn     and nothing else is
--   ended_finished, budget_spent   where the end is reported, and where the budget stops it
--   stops_before_the_fault   a refusal is that of the next step, which the budget would have paid for
use Prim.Native.Nat.{ℕ, zero, suc, ◌+◌, ◌-◌, ◌≤◌, ◌<◌}
use Rattle.std.specs.Prelude.{◌≡◌, refl, Bool, true, false}
use Rattle.std.proofs.Common.{ap, ◌∙◌, sym, subst, arith, not-suc-le-zero, zero-add, add-zero}
use Rattle.turns.specs.Turn.{Next, moved, answered, refused, answer, end, budget, refusal, Turned, run, turn, Moves, stay, move, Outcome, ended, spent, told, faulty}

module _ (S : Type 0) (finished : S → Bool) (step : S → Next S) where
  -- ---- which case holds

  pub run_end : (b k : ℕ) (st : S) → finished st ≡ true → run S finished step b k st ≡ record { state = st; steps = k; halt = end }
  unfolding run
  run_end zero k st h = simp h
  run_end (suc b) k st h = simp h

  module _ (k : ℕ) (st : S) (h : finished st ≡ false) where
    pub run_budget : (b : ℕ) → b ≡ 0 → run S finished step b k st ≡ record { state = st; steps = k; halt = budget }
    unfolding run
    run_budget b z = simp (z, h)

    pub run_refused : (b number entry : ℕ) → 0 < b → step st ≡ refused number entry
        → run S finished step b k st ≡ record { state = st; steps = k; halt = refusal number entry }
    unfolding run
    run_refused zero number entry l e = absurd (not-suc-le-zero l)
    run_refused (suc b) number entry l e = simp (h, e)

    pub run_answer : (b : ℕ) (to : S) → 0 < b → step st ≡ answered to
        → run S finished step b k st ≡ record { state = to; steps = k + 1; halt = answer }
    unfolding run
    run_answer zero to l e = absurd (not-suc-le-zero l)
    run_answer (suc b) to l e = simp (h, e)

    pub run_moved : (b : ℕ) (to : S) → step st ≡ moved to → run S finished step (suc b) k st ≡ run S finished step b (k + 1) to
    unfolding run
    run_moved b to e = simp (h, e)

    -- the same, as a loop counts: k of a budget of b taken
    pub run_counted : (b : ℕ) (to : S) → k < b → step st ≡ moved to
        → run S finished step (b - k) k st ≡ run S finished step (b - (k + 1)) (k + 1) to
    run_counted b to l e = ap (λ (x : ℕ). run S finished step x k st) (omega arith) ∙ run_moved (b - (k + 1)) to e

  -- ---- a turn is what document 01 says of it

  -- the same turn, with j steps taken before it
  abbrev pub after : ℕ → Turned S → Turned S
  after j t = record { state = t.state; steps = j + t.steps; halt = t.halt }

  pub run_after : (b j k : ℕ) (st : S) → run S finished step b (j + k) st ≡ after j (run S finished step b k st)
  run_after zero j k st = go (finished st) refl
    where
      go : (a : Bool) → finished st ≡ a → run S finished step 0 (j + k) st ≡ after j (run S finished step 0 k st)
      go true h = run_end 0 (j + k) st h ∙ ap (after j) (sym (run_end 0 k st h))
      go false h = run_budget (j + k) st h 0 refl ∙ ap (after j) (sym (run_budget k st h 0 refl))
  run_after (suc b) j k st = go (λ to. run_after b j (k + 1) to) (finished st) (step st) refl refl
    where
      shift : (to : S) → run S finished step b (j + k + 1) to ≡ run S finished step b (j + (k + 1)) to
      shift to = ap (λ (x : ℕ). run S finished step b x to) (omega arith)

      go : ((to : S) → run S finished step b (j + (k + 1)) to ≡ after j (run S finished step b (k + 1) to))
          → (a : Bool) (x : Next S) → finished st ≡ a → step st ≡ x → run S finished step (suc b) (j + k) st ≡ after j (run S finished step (suc b) k st)
      go ih true x h y = run_end (suc b) (j + k) st h ∙ ap (after j) (sym (run_end (suc b) k st h))
      go ih false (refused u v) h y =
          run_refused (j + k) st h (suc b) u v (omega arith) y ∙ ap (after j) (sym (run_refused k st h (suc b) u v (omega arith) y))
      go ih false (answered to) h y =
          run_answer (j + k) st h (suc b) to (omega arith) y ∙ answer_later to ∙ ap (after j) (sym (run_answer k st h (suc b) to (omega arith) y))
        where
          answer_later : (to : S) → ◌≡◌ {A = Turned S} (record { state = to; steps = j + k + 1; halt = answer }) (record { state = to; steps = j + (k + 1); halt = answer })
          answer_later to = ap (λ (x : ℕ). record { state = to; steps = x; halt = answer }) (omega arith)
      go ih false (moved to) h y =
          run_moved (j + k) st h b to y ∙ shift to ∙ ih to ∙ ap (after j) (sym (run_moved k st h b to y))

  -- after one step, the rest of the turn
  pub turn_moved : (b : ℕ) (st to : S) → finished st ≡ false → step st ≡ moved to
      → turn S finished step (suc b) st ≡ after 1 (turn S finished step b to)
  turn_moved b st to h e = run_moved 0 st h b to e ∙ run_after b 1 0 to

  outcome_moved : {b : ℕ} {st to : S} {t : Turned S} → finished st ≡ false → step st ≡ moved to
      → Outcome S finished step b to t → Outcome S finished step (suc b) st (after 1 t)
  outcome_moved {b} {st} h e (ended {k = k} {to = to} m l f) =
      subst (λ (x : ℕ). Outcome S finished step (suc b) st (record { state = to; steps = x; halt = end })) (omega arith) (ended (move h e m) (omega arith) f)
  outcome_moved {b} {st} h e (spent {to = to} m f) =
      subst (λ (x : ℕ). Outcome S finished step (suc b) st (record { state = to; steps = x; halt = budget })) (omega arith) (spent (move h e m) f)
  outcome_moved {b} {st} h e (told {k = k} {to = to} m l f a) =
      subst (λ (x : ℕ). Outcome S finished step (suc b) st (record { state = to; steps = x; halt = answer })) (omega arith) (told (move h e m) (omega arith) f a)
  outcome_moved {b} {st} h e (faulty {k = k} {number = u} {entry = v} {to = to} m l f a) =
      subst (λ (x : ℕ). Outcome S finished step (suc b) st (record { state = to; steps = x; halt = refusal u v })) (omega arith) (faulty (move h e m) (omega arith) f a)

  -- a turn is what document 01 says of it
  pub turn_outcome : (b : ℕ) (st : S) → Outcome S finished step b st (turn S finished step b st)
  turn_outcome zero st = go (finished st) refl
    where
      go : (a : Bool) → finished st ≡ a → Outcome S finished step 0 st (turn S finished step 0 st)
      go true h = rw (run_end 0 0 st h) (ended stay (omega arith) h)
      go false h = rw (run_budget 0 st h 0 refl) (spent stay h)
  turn_outcome (suc b) st = go (λ to. turn_outcome b to) (finished st) (step st) refl refl
    where
      go : ((to : S) → Outcome S finished step b to (turn S finished step b to))
          → (a : Bool) (x : Next S) → finished st ≡ a → step st ≡ x → Outcome S finished step (suc b) st (turn S finished step (suc b) st)
      go ih true x h y = rw (run_end (suc b) 0 st h) (ended stay (omega arith) h)
      go ih false (refused u v) h y = rw (run_refused 0 st h (suc b) u v (omega arith) y) (faulty stay (omega arith) h y)
      go ih false (answered to) h y = rw (run_answer 0 st h (suc b) to (omega arith) y) (told stay (omega arith) h y)
      go ih false (moved to) h y = rw (turn_moved b st to h y) (outcome_moved h y (ih to))

  -- and nothing else is
  pub moves_turn : {k : ℕ} {st to : S} (b : ℕ) → Moves S finished step k st to → k ≤ b
      → turn S finished step b st ≡ after k (turn S finished step (b - k) to)
  moves_turn {to = to} b stay l =
      ap (λ (x : ℕ). turn S finished step x to) (omega arith) ∙ ap (λ (x : ℕ). record { state = r.state; steps = x; halt = r.halt }) (sym (zero-add r.steps))
    where
      r : Turned S
      r = turn S finished step (b - 0) to
  moves_turn zero (move h e m) l = absurd (not-suc-le-zero l)
  moves_turn {to = to} (suc b) (move {k = k} {st = st} {mid = mid} h e m) l =
      turn_moved b st mid h e ∙ ap (after 1) (moves_turn b m (omega arith))
      ∙ ap (after 1) (ap (λ (x : ℕ). after k (turn S finished step x to)) (omega arith))
      ∙ ap (λ (x : ℕ). record { state = r.state; steps = x; halt = r.halt }) (omega arith)
    where
      r : Turned S
      r = turn S finished step (suc b - suc k) to

  pub outcome_turn : {b : ℕ} {st : S} {t : Turned S} → Outcome S finished step b st t → turn S finished step b st ≡ t
  outcome_turn {b} (ended {k = k} {to = to} m l f) =
      moves_turn b m l ∙ ap (after k) (run_end (b - k) 0 to f) ∙ ap (λ (x : ℕ). record { state = to; steps = x; halt = end }) (add-zero k)
  outcome_turn {b} (spent {to = to} m f) =
      moves_turn b m (omega arith) ∙ ap (after b) (run_budget 0 to f (b - b) (omega arith)) ∙ ap (λ (x : ℕ). record { state = to; steps = x; halt = budget }) (add-zero b)
  outcome_turn {b} (told {k = k} {mid = mid} {to = to} m l f a) =
      moves_turn b m (omega arith) ∙ ap (after k) (run_answer 0 mid f (b - k) to (omega arith) a)
      ∙ ap (λ (x : ℕ). record { state = to; steps = x; halt = answer }) (omega arith)
  outcome_turn {b} (faulty {k = k} {number = u} {entry = v} {to = to} m l f a) =
      moves_turn b m (omega arith) ∙ ap (after k) (run_refused 0 to f (b - k) u v (omega arith) a)
      ∙ ap (λ (x : ℕ). record { state = to; steps = x; halt = refusal u v }) (add-zero k)

  -- ---- what stopped it says where it stands

  module _ (b : ℕ) (st : S) where
    outcome_end : (t : Turned S) → Outcome S finished step b st t → t.halt ≡ end → finished t.state ≡ true
    outcome_end t (ended m l f) e = f
    outcome_end t (spent m f) e = let z : ◌≡◌ {A = ℕ} 0 1 = cc in absurd (omega arith)
    outcome_end t (told m l f a) e = let z : ◌≡◌ {A = ℕ} 0 1 = cc in absurd (omega arith)
    outcome_end t (faulty m l f a) e = let z : ◌≡◌ {A = ℕ} 0 1 = cc in absurd (omega arith)

    -- the end is reported where the state is finished
    pub ended_finished : (turn S finished step b st).halt ≡ end → finished (turn S finished step b st).state ≡ true
    ended_finished e = outcome_end (turn S finished step b st) (turn_outcome b st) e

    -- the budget stops it where the budget is spent and something is left to do
    outcome_spent : (t : Turned S) → Outcome S finished step b st t → t.halt ≡ budget → (t.steps ≡ b) × (finished t.state ≡ false)
    outcome_spent t (ended m l f) e = let z : ◌≡◌ {A = ℕ} 0 1 = cc in absurd (omega arith)
    outcome_spent t (spent m f) e = (refl, f)
    outcome_spent t (told m l f a) e = let z : ◌≡◌ {A = ℕ} 0 1 = cc in absurd (omega arith)
    outcome_spent t (faulty m l f a) e = let z : ◌≡◌ {A = ℕ} 0 1 = cc in absurd (omega arith)

    pub budget_spent : (turn S finished step b st).halt ≡ budget
        → ((turn S finished step b st).steps ≡ b) × (finished (turn S finished step b st).state ≡ false)
    budget_spent e = outcome_spent (turn S finished step b st) (turn_outcome b st) e

    -- "A turn that meets a fault stops before the faulty step": the next step is the one refused, and the budget would have paid for it
    pub record AtFault (t : Turned S) (number entry : ℕ) : Type 0 where
      pub going : finished t.state ≡ false
      pub fault : step t.state ≡ refused number entry
      pub paid : t.steps < b

    outcome_fault : (t : Turned S) (number entry : ℕ) → Outcome S finished step b st t → t.halt ≡ refusal number entry → AtFault t number entry
    outcome_fault t number entry (ended m l f) e = let z : ◌≡◌ {A = ℕ} 0 1 = cc in absurd (omega arith)
    outcome_fault t number entry (spent m f) e = let z : ◌≡◌ {A = ℕ} 0 1 = cc in absurd (omega arith)
    outcome_fault t number entry (told m l f a) e = let z : ◌≡◌ {A = ℕ} 0 1 = cc in absurd (omega arith)
    outcome_fault t number entry (faulty {number = u} {entry = v} m l f a) e =
        let p : u ≡ number = cc in let q : v ≡ entry = cc in record { going = f; fault = rw (← p, ← q) a; paid = l }

    pub stops_before_the_fault : (number entry : ℕ) → (turn S finished step b st).halt ≡ refusal number entry
        → AtFault (turn S finished step b st) number entry
    stops_before_the_fault number entry e = outcome_fault (turn S finished step b st) number entry (turn_outcome b st) e
