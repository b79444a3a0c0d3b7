-- Steps counted: the state handed back is the one after exactly the steps counted, and no two counts join the same two states.
--   moves_append, moves_split   steps one after the other
--   counted          the state that a turn hands back is the one after exactly the steps that it says it took
--   good_count_unique   where each step from a good state makes progress, no two counts join the same two states
--   count_unique     the same where each step does
use Rattle.std.specs.Prelude.{ℕ, zero, suc, ◌+◌, ◌-◌, ◌≤◌, ◌<◌, ◌≡◌, refl, Bool, false}
use Rattle.std.proofs.Common.{ap, ◌∙◌, sym, subst, arith, not-suc-le-zero, zero-add, suc-add}
use Rattle.turns.specs.Turn.{Next, Turned, turn, Moves, stay, move, Step, on, found, Steps, none, then, Outcome, ended, spent, told, faulty}
use Rattle.turns.specs.Laws.{turn_outcome}

module _ (S : Type 0) (finished : S → Bool) (step : S → Next S) where
  -- ---- steps one after the other

  pub moves_append : {j k : ℕ} {st mid to : S} → Moves S finished step j st mid → Moves S finished step k mid to → Moves S finished step (j + k) st to
  moves_append {k = k} stay r = rw (zero-add k) r
  moves_append (move h e m) r = rw suc-add (move h e (moves_append m r))

  pub steps_append : {j k : ℕ} {st mid to : S} → Steps S finished step j st mid → Steps S finished step k mid to → Steps S finished step (j + k) st to
  steps_append {k = k} none r = rw (zero-add k) r
  steps_append (then s m) r = rw suc-add (then s (steps_append m r))

  pub moves_steps : {k : ℕ} {st to : S} → Moves S finished step k st to → Steps S finished step k st to
  moves_steps stay = none
  moves_steps (move h e m) = then (on h e) (moves_steps m)

  -- steps cut after the first b of them
  pub record Split (b k : ℕ) (st to : S) : Type 0 where
    pub mid : S
    pub first : Moves S finished step b st mid
    pub rest : Moves S finished step (k - b) mid to

  pub moves_split : {k : ℕ} {st to : S} (b : ℕ) → b ≤ k → Moves S finished step k st to → Split b k st to
  moves_split {k = k} {st = st} {to = to} zero l m = record { mid = st; first = stay; rest = subst (λ (x : ℕ). Moves S finished step x st to) (omega arith) m }
  moves_split (suc b) l stay = absurd (not-suc-le-zero l)
  moves_split {k = suc k} {to = to} (suc b) l (move h e m) =
      let s = moves_split {k = k} b (omega arith) m in
      record { mid = s.mid; first = move h e s.first; rest = subst (λ (x : ℕ). Moves S finished step x s.mid to) (omega arith) s.rest }

  -- a state from which a step was taken was not finished
  pub moves_on : {k : ℕ} {st to : S} → 0 < k → Moves S finished step k st to → finished st ≡ false
  moves_on l stay = absurd (omega arith)
  moves_on l (move h e m) = h

  -- ---- a turn's steps

  outcome_counted : {b : ℕ} {st : S} {t : Turned S} → Outcome S finished step b st t → Steps S finished step t.steps st t.state
  outcome_counted (ended m l f) = moves_steps m
  outcome_counted (spent m f) = moves_steps m
  outcome_counted {st = st} (told {k = k} {to = to} m l f a) =
      subst (λ (x : ℕ). Steps S finished step x st to) (omega arith) (steps_append (moves_steps m) (then (found f a) none))
  outcome_counted (faulty m l f a) = moves_steps m

  -- "the state left is the one after just that many steps"
  pub counted : (b : ℕ) (st : S) → Steps S finished step (turn S finished step b st).steps st (turn S finished step b st).state
  counted b st = outcome_counted (turn_outcome S finished step b st)

  -- never more than the budget
  outcome_paid : {b : ℕ} {st : S} {t : Turned S} → Outcome S finished step b st t → t.steps ≤ b
  outcome_paid (ended m l f) = l
  outcome_paid (spent m f) = omega arith
  outcome_paid (told m l f a) = omega arith
  outcome_paid (faulty m l f a) = omega arith

  pub paid : (b : ℕ) (st : S) → (turn S finished step b st).steps ≤ b
  paid b st = outcome_paid (turn_outcome S finished step b st)

  -- ---- one count for two states

  step_same : {st a b : S} → Step S finished step st a → Step S finished step st b → a ≡ b
  step_same (on h e) (on g f) = let q = sym e ∙ f in cc
  step_same (on h e) (found g f) = let q = sym e ∙ f in let z : ◌≡◌ {A = ℕ} 0 1 = cc in absurd (omega arith)
  step_same (found h e) (on g f) = let q = sym e ∙ f in let z : ◌≡◌ {A = ℕ} 0 1 = cc in absurd (omega arith)
  step_same (found h e) (found g f) = let q = sym e ∙ f in cc

  -- each step from a good state leads on to a good one, and nothing leads back to itself
  module _ (Good : S → Type 0) (kept : (a b : S) → Step S finished step a b → Good a → Good b)
      (On : S → S → Type 0) (on_on : (a b c : S) → On a b → On b c → On a c) (never : (a : S) → On a a → ⊥)
      (progress : (a b : S) → Good a → Step S finished step a b → On a b) where
    steps_on : {k : ℕ} {a b : S} → Good a → Steps S finished step (suc k) a b → On a b
    steps_on g (then s none) = progress _ _ g s
    steps_on g (then s (then r m)) = on_on _ _ _ (progress _ _ g s) (steps_on (kept _ _ s g) (then r m))

    -- the same of two states that are equal
    counts_same : {j k : ℕ} {a b c : S} → b ≡ c → Good a → Steps S finished step j a b → Steps S finished step k a c → j ≡ k
    counts_same q g none none = refl
    counts_same {a = a} q g none (then {k = k} s m) =
        absurd (never _ (subst (λ (x : S). On a x) (sym q) (steps_on g (then s m))))
    counts_same {a = a} q g (then s m) none = absurd (never _ (subst (λ (x : S). On a x) q (steps_on g (then s m))))
    counts_same {c = c} q g (then s m) (then {k = k} r w) =
        ap suc (counts_same q (kept _ _ s g) m (subst (λ (x : S). Steps S finished step k x c) (step_same r s) w))

    pub good_count_unique : {j k : ℕ} {a b : S} → Good a → Steps S finished step j a b → Steps S finished step k a b → j ≡ k
    good_count_unique g m w = counts_same refl g m w

  -- the same where every state is good
  module _ (On : S → S → Type 0) (on_on : (a b c : S) → On a b → On b c → On a c) (never : (a : S) → On a a → ⊥)
      (progress : (a b : S) → Step S finished step a b → On a b) where
    pub count_unique : {j k : ℕ} {a b : S} → Steps S finished step j a b → Steps S finished step k a b → j ≡ k
    count_unique m w = good_count_unique (λ a. Unit {0}) (λ a b s g. tt) On on_on never (λ a b g s. progress a b s) tt m w
