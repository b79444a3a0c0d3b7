-- A turn over any state S: `finished` says where nothing is left to do, `step` is a written step rule.
--   Next S        what a step comes to: a state to go on from, an answer, or a refusal with its entry
--   Halt          what stopped a turn: an answer, the end, the budget, or a refusal
--   Turned S      what a turn hands back: the state, the steps it took, what stopped it
--   run b k st    a turn from st that may still spend b steps, k taken before
--   turn b st     a turn from st that may spend b steps
--   Moves k a b   k steps of the rule that each go on lead from a to b
--   Steps k a b   k steps of the rule lead from a to b, answers passed on the way
--   Outcome b st t  what document 01 says of a turn from st that may spend b steps: t is what it hands back
use Rattle.std.specs.Prelude.{ℕ, zero, suc, ◌+◌, ◌≤◌, ◌<◌, ◌≡◌, Bool, true, false}
use Rattle.turns.specs.Pick.{pick}

-- what a step comes to: a state to go on from, an answer, or a refusal with its number and the entry, or the place, that it names
pub data Next (S : Type 0) : Type 0 where
  moved : S → Next S
  answered : S → Next S
  refused : ℕ → ℕ → Next S

-- "what stopped it: an answer, the end (accepted or done), the budget, or a refusal"
pub data Halt : Type 0 where
  answer end budget : Halt
  refusal : ℕ → ℕ → Halt

-- a turn "says how many it took and what stopped it", and hands the state back
pub record Turned (S : Type 0) : Type 0 where
  pub state : S
  pub steps : ℕ
  pub halt : Halt

-- what a turn does with each of the three
abbrev pub on_next : {S : Type 0} → Next S → (S → Turned S) → (S → Turned S) → (ℕ → ℕ → Turned S) → Turned S
on_next (moved to) go found stop = go to
on_next (answered to) go found stop = found to
on_next (refused number entry) go found stop = stop number entry

module _ (S : Type 0) (finished : S → Bool) (step : S → Next S) where
  -- finished: the end for every budget; no budget left: the budget; else the next step, which is not counted where it is refused
  unfoldable pub run : ℕ → ℕ → S → Turned S
  run zero k st = record { state = st; steps = k; halt = pick (finished st) end budget }
  run (suc b) k st =
      pick (finished st) (record { state = st; steps = k; halt = end })
      (on_next (step st)
      (λ to. run b (k + 1) to)
      (λ to. record { state = to; steps = k + 1; halt = answer })
      (λ number entry. record { state = st; steps = k; halt = refusal number entry }))

  -- "a turn is given a number of steps it may spend"
  abbrev pub turn : ℕ → S → Turned S
  turn b st = run b 0 st

  -- k steps of the written rule, each to a state to go on from
  pub data Moves : ℕ → S → S → Type 0 where
    stay : {st : S} → Moves zero st st
    move : {k : ℕ} {st mid to : S} → finished st ≡ false → step st ≡ moved mid → Moves k mid to → Moves (suc k) st to

  -- one step of the written rule, to a state to go on from or to an answer
  pub data Step (st to : S) : Type 0 where
    on : finished st ≡ false → step st ≡ moved to → Step st to
    found : finished st ≡ false → step st ≡ answered to → Step st to

  -- k steps of the written rule
  pub data Steps : ℕ → S → S → Type 0 where
    none : {st : S} → Steps zero st st
    then : {k : ℕ} {st mid to : S} → Step st mid → Steps k mid to → Steps (suc k) st to

  -- "It stops at the first of these; an answer or the end reached on the last paid step is reported as that."
  pub data Outcome (b : ℕ) (st : S) : Turned S → Type 0 where
    ended : {k : ℕ} {to : S} → Moves k st to → k ≤ b → finished to ≡ true → Outcome b st (record { state = to; steps = k; halt = end })
    spent : {to : S} → Moves b st to → finished to ≡ false → Outcome b st (record { state = to; steps = b; halt = budget })
    told : {k : ℕ} {mid to : S} → Moves k st mid → k < b → finished mid ≡ false → step mid ≡ answered to
        → Outcome b st (record { state = to; steps = suc k; halt = answer })
    faulty : {k number entry : ℕ} {to : S} → Moves k st to → k < b → finished to ≡ false → step to ≡ refused number entry
        → Outcome b st (record { state = to; steps = k; halt = refusal number entry })
