-- Turns one after the other, each given the state that the one before handed back.
--   Chain st B K r      public turns from st whose budgets add up to B and whose steps to K; r is what the last one answered
--   turn_cut, turn_kept  a turn of a + b steps is one of a and then one of b; where the first one stopped, it is the first one
--   chain_ends          where the rule leads to a finished state in N steps, turns with N steps in all report the end, after N steps
use Rattle.std.specs.Prelude.{ℕ, ◌+◌, ◌-◌, ◌≤◌, ◌<◌, ◌≡◌, refl, ◌⊎◌, Bool, true, false}
use Rattle.std.proofs.Common.{ap, ◌∙◌, sym, subst, inl, inr, arith}
use Rattle.std.proofs.Math.Decide.{dec_le}
use Rattle.turns.specs.Turn.{Next, refused, answer, end, budget, refusal, Turned, turn, Moves, stay, Steps, Outcome, ended, spent, told, faulty}
use Rattle.turns.specs.Laws.{turn_outcome, outcome_turn, after, ended_finished, stops_before_the_fault}
use Rattle.turns.specs.Counts.{moves_append, steps_append, moves_split, Split, moves_on, counted}

-- ---- chains, over whatever a public turn promises

module _ (S R : Type 0) (Promise : ℕ → S → R → Type 0) (state : R → S) (steps : R → ℕ) where
  -- turns from a state, each given the state that the one before handed back: their budgets and their steps in all, and what the last one handed back
  pub data Chain : S → ℕ → ℕ → R → Type 0 where
    one : {st : S} {b : ℕ} {r : R} → Promise b st r → Chain st b (steps r) r
    more : {st : S} {b B K : ℕ} {r last : R} → Promise b st r → Chain (state r) B K last → Chain st (b + B) (steps r + K) last

module _ (S : Type 0) (finished : S → Bool) (step : S → Next S) where
  abbrev Turn : ℕ → S → Turned S
  Turn b st = turn S finished step b st

  abbrev Move : ℕ → S → S → Type 0
  Move k st to = Moves S finished step k st to

  -- a chain of turns of the rule itself
  abbrev pub Turns : S → ℕ → ℕ → Turned S → Type 0
  Turns st B K r = Chain S (Turned S) (λ b s t. t ≡ turn S finished step b s) (λ t. t.state) (λ t. t.steps) st B K r

  -- ---- cut anywhere

  cut_outcome : (a b : ℕ) (st : S) (t : Turned S) → Outcome S finished step a st t → t.halt ≡ budget
      → Turn (a + b) st ≡ after S finished step a (Turn b t.state)
  cut_outcome a b st t (ended m l f) e = let z : ◌≡◌ {A = ℕ} 0 1 = cc in absurd (omega arith)
  cut_outcome a b st t (told m l f x) e = let z : ◌≡◌ {A = ℕ} 0 1 = cc in absurd (omega arith)
  cut_outcome a b st t (faulty m l f x) e = let z : ◌≡◌ {A = ℕ} 0 1 = cc in absurd (omega arith)
  cut_outcome a b st t (spent {to = mid} m f) e = go (Turn b mid) (turn_outcome S finished step b mid)
    where
      go : (u : Turned S) → Outcome S finished step b mid u → Turn (a + b) st ≡ after S finished step a u
      go u (ended w l g) = outcome_turn S finished step (ended (moves_append S finished step m w) (omega arith) g)
      go u (spent w g) = outcome_turn S finished step (spent (moves_append S finished step m w) g)
      go u (told {k = k} {to = to} w l g x) =
          outcome_turn S finished step (told (moves_append S finished step m w) (omega arith) g x)
          ∙ ap (λ (i : ℕ). record { state = to; steps = i; halt = answer }) (omega arith)
      go u (faulty w l g x) = outcome_turn S finished step (faulty (moves_append S finished step m w) (omega arith) g x)

  -- "how turns are cut changes nothing": stopped by its budget, a turn and the one after it are one turn
  pub turn_cut : (a b : ℕ) (st : S) → (Turn a st).halt ≡ budget → Turn (a + b) st ≡ after S finished step a (Turn b (Turn a st).state)
  turn_cut a b st e = cut_outcome a b st (Turn a st) (turn_outcome S finished step a st) e

  kept_outcome : (a b : ℕ) (st : S) (t : Turned S) → Outcome S finished step a st t → (t.halt ≡ budget → ⊥) → Turn (a + b) st ≡ t
  kept_outcome a b st t (ended m l f) n = outcome_turn S finished step (ended m (omega arith) f)
  kept_outcome a b st t (spent m f) n = absurd (n refl)
  kept_outcome a b st t (told m l f x) n = outcome_turn S finished step (told m (omega arith) f x)
  kept_outcome a b st t (faulty m l f x) n = outcome_turn S finished step (faulty m (omega arith) f x)

  -- stopped by anything else, a larger budget changes nothing
  pub turn_kept : (a b : ℕ) (st : S) → ((Turn a st).halt ≡ budget → ⊥) → Turn (a + b) st ≡ Turn a st
  turn_kept a b st n = kept_outcome a b st (Turn a st) (turn_outcome S finished step a st) n

  -- ---- the steps of a chain

  pub chain_steps : {st : S} {B K : ℕ} {r : Turned S} → Turns st B K r → Steps S finished step K st r.state
  chain_steps {st = st} (Chain.one {b = b} {r = r} e) = rw e (counted S finished step b st)
  chain_steps {st = st} (Chain.more {b = b} {r = r} e c) = steps_append S finished step (rw e (counted S finished step b st)) (rw e at (chain_steps c))

  -- N steps lead to the finished state fin, and the turns had them all
  pub record Reached (N B K : ℕ) (fin : S) (r : Turned S) : Type 0 where
    pub enough : N ≤ B
    pub steps : K ≡ N
    pub state : r.state ≡ fin
    pub halt : r.halt ≡ end

  -- N steps lead to the finished state fin, and the turns had fewer
  pub record Underway (N B K : ℕ) (fin : S) (r : Turned S) : Type 0 where
    pub short : B < N
    pub steps : K ≡ B
    pub left : Move (N - B) r.state fin
    pub halt : r.halt ≡ budget

  turn_ends : {N b : ℕ} {st fin : S} → Move N st fin → finished fin ≡ true → N ≤ b → Turn b st ≡ record { state = fin; steps = N; halt = end }
  turn_ends m f l = outcome_turn S finished step (ended m l f)

  turn_underway : {N b : ℕ} {st fin : S} → b < N → (s : Split S finished step b N st fin) → Turn b st ≡ record { state = s.mid; steps = b; halt = budget }
  turn_underway l s = outcome_turn S finished step (spent s.first (moves_on S finished step (omega arith) s.rest))

  pub chain_ends : {st : S} {B K : ℕ} {r : Turned S} → Turns st B K r → (N : ℕ) (fin : S) → finished fin ≡ true → Move N st fin
      → Reached N B K fin r ⊎ Underway N B K fin r
  chain_ends (Chain.one {st = st} {b = b} {r = r} e) N fin f m = go (dec_le N b)
    where
      go : Dec (N ≤ b) → Reached N b r.steps fin r ⊎ Underway N b r.steps fin r
      go (yes l) = let q = e ∙ turn_ends m f l in rw q (inl (record { enough = l; steps = refl; state = refl; halt = refl }))
      go (no l) =
          let s = moves_split S finished step b (omega arith) m in
          let q = e ∙ turn_underway (omega arith) s in
          rw q (inr (record { short = omega arith; steps = refl; left = s.rest; halt = refl }))
  chain_ends (Chain.more {st = st} {b = b} {B = B} {K = K} {r = r} {last = last} e c) N fin f m = go (dec_le N b) (λ n w. chain_ends c n fin f w)
    where
      -- the first turn came to the end: the others take no step
      over : N ≤ b → r ≡ record { state = fin; steps = N; halt = end } → Reached 0 B K fin last ⊎ Underway 0 B K fin last
          → Reached N (b + B) (r.steps + K) fin last ⊎ Underway N (b + B) (r.steps + K) fin last
      over l q (inl x) = inl (record { enough = omega arith; steps = omega (arith, ap (λ (t : Turned S). t.steps) q, x.steps); state = x.state; halt = x.halt })
      over l q (inr x) = absurd (omega (arith, x.short))

      -- the first turn spent its budget: the others go on
      onward : b < N → r.steps ≡ b → Reached (N - b) B K fin last ⊎ Underway (N - b) B K fin last
          → Reached N (b + B) (r.steps + K) fin last ⊎ Underway N (b + B) (r.steps + K) fin last
      onward l q (inl x) =
          inl (record { enough = omega (arith, x.enough); steps = omega (arith, q, x.steps); state = x.state; halt = x.halt })
      onward l q (inr x) =
          inr (record {
            short = omega (arith, x.short);
            steps = omega (arith, q, x.steps);
            left = subst (λ (i : ℕ). Move i last.state fin) (omega arith) x.left;
            halt = x.halt;
          })

      go : Dec (N ≤ b) → ((n : ℕ) → Move n r.state fin → Reached n B K fin last ⊎ Underway n B K fin last)
          → Reached N (b + B) (r.steps + K) fin last ⊎ Underway N (b + B) (r.steps + K) fin last
      go (yes l) ih =
          let q = e ∙ turn_ends m f l in
          over l q (ih 0 (subst (λ (x : S). Move 0 x fin) (sym (ap (λ (t : Turned S). t.state) q)) stay))
      go (no l) ih =
          let s = moves_split S finished step b (omega arith) m in
          let q = e ∙ turn_underway (omega arith) s in
          onward (omega arith) (ap (λ (t : Turned S). t.steps) q)
          (ih (N - b) (subst (λ (x : S). Move (N - b) x fin) (sym (ap (λ (t : Turned S). t.state) q)) s.rest))

  -- the last turn of a chain came to the end where its state is finished
  pub chain_finished : {st : S} {B K : ℕ} {r : Turned S} → Turns st B K r → r.halt ≡ end → finished r.state ≡ true
  chain_finished {st = st} (Chain.one {b = b} {r = r} e) h =
      ap (λ (t : Turned S). finished t.state) e ∙ ended_finished S finished step b st (ap (λ (t : Turned S). t.halt) (sym e) ∙ h)
  chain_finished (Chain.more e c) h = chain_finished c h

  -- the last turn of a chain was refused where the next step is
  pub chain_fault : {st : S} {B K : ℕ} {r : Turned S} (number entry : ℕ) → Turns st B K r → r.halt ≡ refusal number entry
      → (finished r.state ≡ false) × (step r.state ≡ refused number entry)
  chain_fault {st = st} number entry (Chain.one {b = b} {r = r} e) h =
      let f = stops_before_the_fault S finished step b st number entry (ap (λ (t : Turned S). t.halt) (sym e) ∙ h) in
      (ap (λ (t : Turned S). finished t.state) e ∙ f.going, ap (λ (t : Turned S). step t.state) e ∙ f.fault)
  chain_fault number entry (Chain.more e c) h = chain_fault number entry c h
