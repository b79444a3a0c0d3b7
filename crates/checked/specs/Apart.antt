-- The numbers of a stop reason or a verdict tell it apart from every other.
--   refusal_same                                a refusal is its number and its entry
--   told_apart, verdict_apart, answered_apart   equal numbers, equal answers
--   told_halt, halt_of_law, halt_told_law               the code's stop reason says what stopped the turn
--   handed_unique, handed_turned                what is handed back for a turn is that turn
use Rattle.std.specs.Prelude.{ℕ, ◌≡◌, refl, Ok, Err}
use Rattle.std.proofs.Common.{ap, ◌∙◌, sym, arith}
use Rattle.turns.specs.Turn.{Halt, Turned}
use Rattle.terms.specs.declared.Stop.{Stop}
use Rattle.terms.specs.declared.Refusal.{Refusal}
use Rattle.terms.specs.Stops.{Told, told, halt_told, verdict_told, Answered, answered, Verdict, Written, Handed}
use Rattle.terms.specs.declared.Turn.{Turn}

-- which of the four reasons
reason_of : {a b : Told} → a ≡ b → a.reason ≡ b.reason
reason_of q = ap (λ (t : Told). t.reason) q

pub refusal_same : (a b : Refusal) → a.number ≡ b.number → a.entry.0 ≡ b.entry.0 → a ≡ b
refusal_same a b p q = λ i. record { number = p i; entry = record { 0 = q i } }

refused_same : (a b : Refusal) → told (Stop.Refused a) ≡ told (Stop.Refused b) → a ≡ b
refused_same a b q = refusal_same a b (ap (λ (t : Told). t.number) q) (ap (λ (t : Told). t.entry) q)

-- the stop reason that stands for what stopped a turn
abbrev pub stop_of : Halt → Stop
stop_of Halt.answer = Stop.Answer
stop_of Halt.end = Stop.End
stop_of Halt.budget = Stop.Budget
stop_of (Halt.refusal number entry) = Stop.Refused (record { number = number; entry = record { 0 = entry } })

pub told_stop : (h : Halt) → told (stop_of h) ≡ halt_told h
told_stop Halt.answer = refl
told_stop Halt.end = refl
told_stop Halt.budget = refl
told_stop (Halt.refusal number entry) = refl

pub told_apart : (a b : Stop) → told a ≡ told b → a ≡ b
told_apart Stop.Answer Stop.Answer q = refl
told_apart Stop.End Stop.End q = refl
told_apart Stop.Budget Stop.Budget q = refl
told_apart (Stop.Refused a) (Stop.Refused b) q = ap (λ (r : Refusal). Stop.Refused r) (refused_same a b q)
told_apart Stop.Answer Stop.End q = let z : ◌≡◌ {A = ℕ} 0 1 = reason_of q in absurd (omega arith)
told_apart Stop.Answer Stop.Budget q = let z : ◌≡◌ {A = ℕ} 0 2 = reason_of q in absurd (omega arith)
told_apart Stop.Answer (Stop.Refused b) q = let z : ◌≡◌ {A = ℕ} 0 3 = reason_of q in absurd (omega arith)
told_apart Stop.End Stop.Answer q = let z : ◌≡◌ {A = ℕ} 1 0 = reason_of q in absurd (omega arith)
told_apart Stop.End Stop.Budget q = let z : ◌≡◌ {A = ℕ} 1 2 = reason_of q in absurd (omega arith)
told_apart Stop.End (Stop.Refused b) q = let z : ◌≡◌ {A = ℕ} 1 3 = reason_of q in absurd (omega arith)
told_apart Stop.Budget Stop.Answer q = let z : ◌≡◌ {A = ℕ} 2 0 = reason_of q in absurd (omega arith)
told_apart Stop.Budget Stop.End q = let z : ◌≡◌ {A = ℕ} 2 1 = reason_of q in absurd (omega arith)
told_apart Stop.Budget (Stop.Refused b) q = let z : ◌≡◌ {A = ℕ} 2 3 = reason_of q in absurd (omega arith)
told_apart (Stop.Refused a) Stop.Answer q = let z : ◌≡◌ {A = ℕ} 3 0 = reason_of q in absurd (omega arith)
told_apart (Stop.Refused a) Stop.End q = let z : ◌≡◌ {A = ℕ} 3 1 = reason_of q in absurd (omega arith)
told_apart (Stop.Refused a) Stop.Budget q = let z : ◌≡◌ {A = ℕ} 3 2 = reason_of q in absurd (omega arith)

pub told_halt : (a : Stop) (h : Halt) → told a ≡ halt_told h → a ≡ stop_of h
told_halt a h q = told_apart a (stop_of h) (q ∙ sym (told_stop h))

-- what stopped a turn, by the code's stop reason
abbrev pub halt_of : Stop → Halt
halt_of Stop.Answer = Halt.answer
halt_of Stop.End = Halt.end
halt_of Stop.Budget = Halt.budget
halt_of (Stop.Refused r) = Halt.refusal r.number r.entry.0

pub halt_of_law : (s : Stop) → told s ≡ halt_told (halt_of s)
halt_of_law Stop.Answer = refl
halt_of_law Stop.End = refl
halt_of_law Stop.Budget = refl
halt_of_law (Stop.Refused r) = refl

halt_stop : (h : Halt) → halt_of (stop_of h) ≡ h
halt_stop Halt.answer = refl
halt_stop Halt.end = refl
halt_stop Halt.budget = refl
halt_stop (Halt.refusal number entry) = refl

pub halt_told_law : (g h : Halt) → halt_told g ≡ halt_told h → g ≡ h
halt_told_law g h q =
    sym (halt_stop g) ∙ ap halt_of (told_apart (stop_of g) (stop_of h) (told_stop g ∙ q ∙ sym (told_stop h))) ∙ halt_stop h

-- what the code hands back, as a turn
abbrev pub turned_of : {S : Type 0} → Turn S → Turned S
turned_of r = record { state = r.state; steps = r.steps; halt = halt_of r.stop }

pub handed_turned : {S : Type 0} (r : Turn S) (t : Turned S) → Handed r t → turned_of r ≡ t
handed_turned r t h =
    let x = h.state in
    let y = h.steps in
    let z = ap halt_of (told_halt r.stop t.halt h.stop) ∙ halt_stop t.halt in
    λ i. record { state = x i; steps = y i; halt = z i }

pub verdict_apart : (a b : Verdict) → verdict_told a ≡ verdict_told b → a ≡ b
verdict_apart (Ok _) (Ok _) q = refl
verdict_apart (Ok _) (Err b) q = let z : ◌≡◌ {A = ℕ} 1 3 = reason_of q in absurd (omega arith)
verdict_apart (Err a) (Ok _) q = let z : ◌≡◌ {A = ℕ} 3 1 = reason_of q in absurd (omega arith)
verdict_apart (Err a) (Err b) q = ap (λ (r : Refusal). Err r) (refused_same a b q)

pub answered_apart : (a b : Written) → answered a ≡ answered b → a ≡ b
answered_apart (Ok l) (Ok m) q = ap (λ (x : ℕ). Ok x) (ap (λ (t : Answered). t.length) q)
answered_apart (Ok l) (Err b) q = let z : ◌≡◌ {A = ℕ} 0 1 = ap (λ (t : Answered). t.refused) q in absurd (omega arith)
answered_apart (Err a) (Ok m) q = let z : ◌≡◌ {A = ℕ} 1 0 = ap (λ (t : Answered). t.refused) q in absurd (omega arith)
answered_apart (Err a) (Err b) q =
    ap (λ (r : Refusal). Err r) (refusal_same a b (ap (λ (t : Answered). t.number) q) (ap (λ (t : Answered). t.entry) q))

-- two turns handed back for one turn of the rule are equal
pub handed_unique : {S : Type 0} (a b : Turn S) (t : Turned S) → Handed a t → Handed b t → a ≡ b
handed_unique a b t p q =
    let x = p.state ∙ sym q.state in
    let y = p.steps ∙ sym q.steps in
    let z = told_apart a.stop b.stop (p.stop ∙ sym q.stop) in
    λ i. record { state = x i; steps = y i; stop = z i }
