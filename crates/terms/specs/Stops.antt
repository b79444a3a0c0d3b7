-- Stop reasons and verdicts, each with document 01's number and values.
--   Told            a stop reason in numbers: which of the four, the refusal's number, the entry that it names
--   told s          those of the code's stop reason
--   halt_told h      those of what stopped a turn
--   verdict_told v   those of the whole check's verdict
--   Handed r t      what a turn hands back is this turn of the rule
--   refused_first st r   a turn that was refused before its first step
--   Answered        what a single call answers, in numbers: whether it refused, the refusal's number, the result's length, the entry
--   worked, refused_as   an answer that worked, and one that refused
--   answered w      those of the code's answer
use Rattle.std.specs.Prelude.{ℕ, ◌≡◌, Result, Ok, Err}
use Rattle.turns.specs.Turn.{Halt, Turned}
use Rattle.terms.specs.declared.Stop.{Stop}
use Rattle.terms.specs.declared.Refusal.{Refusal}
use Rattle.terms.specs.declared.Turn.{Turn}

-- which of the four: 0 an answer, 1 the end, 2 the budget, 3 a refusal; then the refusal's number and entry, or 0 and 0
pub record Told : Type 0 where
  pub reason : ℕ
  pub number : ℕ
  pub entry : ℕ

-- "an answer, the end (accepted or done), the budget, or a refusal"
abbrev pub told : Stop → Told
told Stop.Answer = record { reason = 0; number = 0; entry = 0 }
told Stop.End = record { reason = 1; number = 0; entry = 0 }
told Stop.Budget = record { reason = 2; number = 0; entry = 0 }
told (Stop.Refused r) = record { reason = 3; number = r.number; entry = r.entry.0 }

-- the same of what stopped a turn
abbrev pub halt_told : Halt → Told
halt_told Halt.answer = record { reason = 0; number = 0; entry = 0 }
halt_told Halt.end = record { reason = 1; number = 0; entry = 0 }
halt_told Halt.budget = record { reason = 2; number = 0; entry = 0 }
halt_told (Halt.refusal number entry) = record { reason = 3; number = number; entry = entry }

-- what the whole check says of a signature: nothing against it, or the refusal
abbrev pub Verdict : Type 0
Verdict = Result Unit Refusal

-- what a verdict says in numbers: accepted as the end, refused as a refusal
abbrev pub verdict_told : Verdict → Told
verdict_told (Ok _) = record { reason = 1; number = 0; entry = 0 }
verdict_told (Err r) = record { reason = 3; number = r.number; entry = r.entry.0 }

-- whether it refused, 1 or 0; then "its number and 0 for every other number", where 3 to 6 from the check also name the entry
pub record Answered : Type 0 where
  pub refused : ℕ
  pub number : ℕ
  pub length : ℕ
  pub entry : ℕ

-- a call that worked, with a result of this length
abbrev pub worked : ℕ → Answered
worked l = record { refused = 0; number = 0; length = l; entry = 0 }

-- a call that refused
abbrev pub refused_as : ℕ → ℕ → Answered
refused_as number entry = record { refused = 1; number = number; length = 0; entry = entry }

-- what a call that writes into lent room answers: how long the result is, in the room's units, or the refusal
abbrev pub Written : Type 0
Written = Result ℕ Refusal

-- the same in numbers
abbrev pub answered : Written → Answered
answered (Ok l) = worked l
answered (Err r) = refused_as r.number r.entry.0

-- what a turn hands back is this turn of the rule: its state, its steps and its stop
pub record Handed {S : Type 0} (r : Turn S) (t : Turned S) : Type 0 where
  pub state : r.state ≡ t.state
  pub steps : r.steps ≡ t.steps
  pub stop : told r.stop ≡ halt_told t.halt

-- a turn that was refused before its first step: "hands back the state after the steps it took", which is the state given
abbrev pub refused_first : {S : Type 0} → S → Refusal → Turn S
refused_first st r = record { state = st; steps = 0; stop = Stop.Refused r }
