-- Demand 3 over any rule and any call: each turn takes steps of the written rule, no more than it may spend, and stops at the first of an answer, the
-- end, the budget and a refusal.
--   Faithful call         each turn that the call makes is what document 01 says of a turn
--   ours_faithful         a call that hands back the turns of the rule is faithful
--   faithful_turn         a faithful call hands back the turns of the rule, and nothing else
--   shut_out_…            a call that leaves another state, or says another count, than the turn of the rule
use Rattle.std.specs.Prelude.{ℕ, ◌≡◌, Bool}
use Rattle.std.proofs.Common.{ap, sym}
use Rattle.turns.specs.Turn.{Next, Turned, turn, Outcome}
use Rattle.turns.specs.Laws.{turn_outcome, outcome_turn}

-- Within says from which states turns are asked for
module _ (S : Type 0) (finished : S → Bool) (step : S → Next S) (Within : S → Type 0) where
  -- each turn that the call makes from such a state is what document 01 says of a turn
  abbrev pub Faithful : (ℕ → S → Turned S) → Type 0
  Faithful call = (b : ℕ) (st : S) → Within st → Outcome S finished step b st (call b st)

  pub ours_faithful : (call : ℕ → S → Turned S) → ((b : ℕ) (st : S) → Within st → call b st ≡ turn S finished step b st) → Faithful call
  ours_faithful call e b st w = rw (e b st w) (turn_outcome S finished step b st)

  module _ (call : ℕ → S → Turned S) (f : Faithful call) (b : ℕ) (st : S) (w : Within st) where
    pub faithful_turn : call b st ≡ turn S finished step b st
    faithful_turn = sym (outcome_turn S finished step (f b st w))

    -- a call that does nothing, or all the work in its first turn, leaves another state than the one after just so many steps
    pub shut_out_state : ((call b st).state ≡ (turn S finished step b st).state → ⊥) → ⊥
    shut_out_state n = n (ap (λ (t : Turned S). t.state) faithful_turn)

    -- an invented step count
    pub shut_out_count : ((call b st).steps ≡ (turn S finished step b st).steps → ⊥) → ⊥
    shut_out_count n = n (ap (λ (t : Turned S). t.steps) faithful_turn)
