-- A call on bare numbers returns 0 exactly if it worked.
--   ZeroStop t, ZeroAnswer a   the number is 0 exactly if this stop is no refusal, or if this answer is none
--   Numbered h, NumberedStep x   a refusal has a number of 1 or more; what is no refusal has none
--   some_number                a number that the test finds not to be 0
--   turn_numbered, check_numbered, begun_numbered   the refusals of turns: by any rule, of the check, before the steps of a turn with a twig
--   shown_holds                what holds of an answer and of what stopped a turn of the ordered question holds of what that is told as
--   whole_number, whole_refused   the whole check's number is 0 exactly if it accepts
--   by_check                   what holds where the whole check accepts, and at each refusal with a number, holds of what is told after the check
--   refused_zero, room_zero, left_zero   the answers of calls that write into lent room
--   left_returns, turn_returns   so the number returned is 0 exactly if the call worked, or if the turn was not refused
--   stop_first                 out begins with what stopped the turn
use Rattle.std.specs.Prelude.{ℕ, zero, suc, ◌+◌, ◌-◌, ◌*◌, ◌≤◌, ◌≡◌, ◌⊎◌, ◌↔◌, Bool, List, leb, ltb, length, get_or}
use Rattle.std.proofs.Math.Path.{refl}
use Rattle.std.proofs.Common.{ap, subst, inl, inr}
use Rattle.std.proofs.Math.Bool.{true, false}
use native.Mathlib.Omega.{arith}
use Rattle.std.proofs.Math.Dec.{eqb}
use Rattle.std.proofs.lemmas.Bool.{eqb-false}
use Rattle.turns.specs.Pick.{pick}
use Rattle.turns.specs.Turn.{Halt, Next, moved, answered, refused, Turned, turn, Outcome, ended, spent, told, faulty}
use Rattle.turns.specs.Laws.{turn_outcome}
use Rattle.trees.specs.Signature.{Entries, entries_of, width, entries}
use Rattle.terms.specs.declared.Kind.{Kind}
use Rattle.checking.specs.declared.CheckState.{CheckState}
use Rattle.terms.specs.Kinds.{any_name, most}
use Rattle.checking.specs.Rule.{fresh, open_of, closed_of, nameless, second_root, step_of, close_of, accepted, in_range}
use Rattle.checking.specs.Turn.{run_of, refused_at, turn_within, turn_of}
use Rattle.terms.specs.Length.{length_fault}
use Rattle.terms.specs.Stops.{Told, halt_told, Answered}
use Rattle.terms.specs.Room.{Left, written_left, refused_left, room_for, left_by}
use Rattle.checking.specs.Whole.{whole_of}
use Rattle.checking.proofs.Runs.{whole_stops}
use Rattle.twig_turns.specs.Given.{length_told, given_of, refused_for, ready_for, begun_for}
use Rattle.fits_rows.specs.declared.Stage.{Stage}
use Rattle.fits.specs.Stages.{fit_halt}
use Rattle.telling.specs.Numbers.{TurnTold, LeftNumbers}

-- "A refused turn returns its number", any other turn 0
abbrev pub ZeroStop : Told → Type 0
ZeroStop t = (t.number ≡ 0) ↔ (t.reason ≡ 3 → ⊥)

-- "A refused single call returns its number", any other call 0
abbrev pub ZeroAnswer : Answered → Type 0
ZeroAnswer a = (a.number ≡ 0) ↔ (a.refused ≡ 0)

-- ---- refusals have a number

-- document 01's refusal numbers count from 1
abbrev pub Numbered : Halt → Type 0
Numbered Halt.answer = Unit {0}
Numbered Halt.end = Unit {0}
Numbered Halt.budget = Unit {0}
Numbered (Halt.refusal number entry) = 1 ≤ number

-- the same of a step
abbrev pub NumberedStep : {S : Type 0} → Next S → Type 0
NumberedStep (moved to) = Unit {0}
NumberedStep (answered to) = Unit {0}
NumberedStep (refused number entry) = 1 ≤ number

pub some_number : (n : ℕ) → eqb n 0 ≡ false → 1 ≤ n
some_number zero q = absurd (eqb-false 0 0 q refl)
some_number (suc n) q = omega arith

pub halt_zero : (h : Halt) → Numbered h → ZeroStop (halt_told h)
halt_zero Halt.answer p = (λ z e. omega arith, λ f. refl)
halt_zero Halt.end p = (λ z e. omega arith, λ f. refl)
halt_zero Halt.budget p = (λ z e. omega arith, λ f. refl)
halt_zero (Halt.refusal number entry) p = (λ z. absurd (omega arith), λ f. absurd (f refl))

-- a turn of a rule whose refusals all have a number
pub turn_numbered : (S : Type 0) (finished : S → Bool) (step : S → Next S) → ((st : S) → NumberedStep (step st)) → (b : ℕ) (st : S)
    → Numbered (turn S finished step b st).halt
turn_numbered S finished step h b st = by (turn_outcome S finished step b st)
  where
    by : {t : Turned S} → Outcome S finished step b st t → Numbered t.halt
    by (ended m l f) = tt
    by (spent m f) = tt
    by (told m l f x) = tt
    by (faulty {to = to} m l f x) = subst NumberedStep x (h to)

-- ---- the check

close_numbered : (e : Entries) (st : CheckState) → NumberedStep (close_of e st)
unfolding close_of
close_numbered e st =
    by (eqb st.top.0 0) (eqb st.closed.0 (st.next.0 - 1)) (eqb (e.post st.top.0) (st.closed.0 + 1)) (eqb (e.ff st.top.0) st.next.0)
    (ltb (e.fa st.top.0) st.top.0)
  where
    by : (a b c d f : Bool)
        → NumberedStep (pick a (refused 4 st.next.0) (pick b (refused 9 0) (pick c
        (pick d (pick f (moved (closed_of e st)) (refused 4 st.top.0)) (refused 6 st.top.0)) (refused 5 st.top.0))))
    by true b c d f = omega arith
    by false true c d f = omega arith
    by false false false d f = omega arith
    by false false true false f = omega arith
    by false false true true false = omega arith
    by false false true true true = tt

step_numbered : (any : Bool) (n : ℕ) (e : Entries) (st : CheckState) → NumberedStep (step_of any n e st)
unfolding step_of
step_numbered any n e st =
    by (leb st.next.0 n) (nameless any e st.next.0) (leb st.next.0 (e.fa st.next.0)) (second_root st.next.0 (e.fa st.next.0))
    (eqb (e.fa st.next.0) st.top.0) (close_of e st) (close_numbered e st)
  where
    by : (a b c d f : Bool) (x : Next CheckState) → NumberedStep x
        → NumberedStep (pick a (pick b (refused 3 st.next.0) (pick c (refused 4 st.next.0) (pick d (refused 4 st.next.0)
        (pick f (moved (open_of st)) x)))) x)
    by false b c d f x p = p
    by true true c d f x p = omega arith
    by true false true d f x p = omega arith
    by true false false true f x p = omega arith
    by true false false false true x p = tt
    by true false false false false x p = p

pub check_numbered : (k : Kind) (s : List ℕ) (b : ℕ) (st : CheckState) → Numbered (turn_of k s b st).halt
unfolding turn_within
check_numbered k s b st = by (eqb (length_fault (most k) width (length s)) 0) (in_range (entries s) st) refl
  where
    by : (fits ranged : Bool) → eqb (length_fault (most k) width (length s)) 0 ≡ fits
        → Numbered (pick fits (pick ranged (run_of (any_name k) (entries s) (entries_of width s) b st) (refused_at st 9))
        (refused_at st (length_fault (most k) width (length s)))).halt
    by true true q =
        turn_numbered CheckState (accepted (entries s)) (step_of (any_name k) (entries s) (entries_of width s))
        (step_numbered (any_name k) (entries s) (entries_of width s)) b st
    by true false q = omega arith
    by false ranged q = some_number _ q

module _ (k : Kind) (s : List ℕ) where
  -- the whole check, which its budget never stops
  pub whole_number : ((whole_of k s).number ≡ 0) ↔ ((whole_of k s).reason ≡ 1)
  whole_number = by (turn_of k s (2 * most k + 1) fresh).halt (check_numbered k s (2 * most k + 1) fresh) (whole_stops (any_name k) (most k) s)
    where
      by : (h : Halt) → Numbered h → (h ≡ Halt.end) ⊎ ((number : ℕ) × (entry : ℕ) × (h ≡ Halt.refusal number entry))
          → ((halt_told h).number ≡ 0) ↔ ((halt_told h).reason ≡ 1)
      by h p (inl q) = rw q (λ z. refl, λ z. refl)
      by h p (inr q) =
          let l : 1 ≤ q.0 = subst Numbered q.2 p in
          rw q.2 (λ z. absurd (omega arith), λ z. absurd (omega arith))

  pub whole_refused : eqb (whole_of k s).reason 1 ≡ false → 1 ≤ (whole_of k s).number
  whole_refused q = by (whole_of k s).number refl
    where
      by : (n : ℕ) → (whole_of k s).number ≡ n → 1 ≤ (whole_of k s).number
      by zero z = absurd (eqb-false (whole_of k s).reason 1 q (whole_number.0 z))
      by (suc n) z = omega arith

  -- what is said after the whole check, where each of its refusals has a number
  pub by_check : {A : Type 0} (P : A → Type 0) (a b : A) → P a → (1 ≤ (whole_of k s).number → P b) → P (pick (eqb (whole_of k s).reason 1) a b)
  by_check P a b p q = by (eqb (whole_of k s).reason 1) refl
    where
      by : (c : Bool) → eqb (whole_of k s).reason 1 ≡ c → P (pick c a b)
      by true e = p
      by false e = q (whole_refused e)

-- ---- what turns with a twig judge before their steps

length_number : (n : ℕ) → eqb (length_told n).reason 1 ≡ false → 1 ≤ (length_told n).number
length_number n = by (eqb n 0) refl
  where
    by : (c : Bool) → eqb n 0 ≡ c
        → eqb (pick {A = Told} c (record { reason = 1; number = 0; entry = 0 }) (record { reason = 3; number = n; entry = 0 })).reason 1 ≡ false
        → 1 ≤ (pick {A = Told} c (record { reason = 1; number = 0; entry = 0 }) (record { reason = 3; number = n; entry = 0 })).number
    by true e q = absurd (eqb-false 1 1 q refl)
    by false e q = some_number n e

module _ {S : Type 0} (need : ℕ) (sig twig : List ℕ) (room : ℕ) (st : S) (fits : Bool) (run : Turned S) (steps : Numbered run.halt) where
  ready_numbered : Numbered (ready_for need room st fits run).halt
  unfolding ready_for
  ready_numbered = by fits (leb need room)
    where
      by : (a b : Bool) → Numbered (pick a (pick b run (refused_at st 10)) (refused_at st 9)).halt
      by true true = steps
      by true false = omega arith
      by false b = omega arith

  -- the twig's refusal, or that of the signature's length
  given_number : eqb (given_of sig twig).reason 1 ≡ false → 1 ≤ (given_of sig twig).number
  unfolding given_of
  given_number =
      by_check Kind.Twig twig (λ (t : Told). eqb t.reason 1 ≡ false → 1 ≤ t.number) (length_told (length_fault (most Kind.Data) width (length sig)))
      (whole_of Kind.Twig twig) (length_number (length_fault (most Kind.Data) width (length sig))) (λ l q. l)

  pub begun_numbered : Numbered (begun_for need sig twig room st fits run).halt
  unfolding begun_for
  begun_numbered = by (eqb (given_of sig twig).reason 1) refl
    where
      by : (c : Bool) → eqb (given_of sig twig).reason 1 ≡ c
          → Numbered (pick c (ready_for need room st fits run) (refused_for st (given_of sig twig))).halt
      by true q = ready_numbered
      by false q = given_number q

-- ---- what a turn of the ordered question is told as

-- only the end is told as something else, and that as an answer
pub shown_holds : (P : Halt → Type 0) → P Halt.answer → (s : Stage) (h : Halt) → P h → P (fit_halt s h)
shown_holds P a s Halt.answer p = p
shown_holds P a s Halt.budget p = p
shown_holds P a s (Halt.refusal number entry) p = p
shown_holds P a Stage.Asking Halt.end p = p
shown_holds P a Stage.Yes Halt.end p = a
shown_holds P a Stage.No Halt.end p = p

-- ---- calls that write into lent room

-- a refusal with a number, as every answer says it: refused is 1
pub refused_zero : (number : ℕ) → 1 ≤ number → (number ≡ 0) ↔ (◌≡◌ {A = ℕ} 1 0)
refused_zero number l = (λ z. absurd (omega arith), λ z. absurd (omega arith))

pub room_zero : (room result : List ℕ) → ZeroAnswer (room_for room result).answer
unfolding room_for
room_zero room result = by (leb (length result) (length room))
  where
    by : (c : Bool) → ZeroAnswer (pick c (written_left room result) (refused_left room 10 0)).answer
    by true = (λ z. refl, λ z. refl)
    by false = refused_zero 10 (omega arith)

pub left_zero : (number entry : ℕ) (result room : List ℕ) → ZeroAnswer (left_by number entry result room).answer
unfolding left_by
left_zero number entry result room = by (eqb number 0) refl
  where
    by : (c : Bool) → eqb number 0 ≡ c → ZeroAnswer (pick c (room_for room result) (refused_left room number entry)).answer
    by true q = room_zero room result
    by false q = refused_zero number (some_number number q)

-- ---- what is returned

pub left_returns : (x : Left) (r : ℕ) (after out : List ℕ) → ZeroAnswer x.answer → LeftNumbers x r after out → (r ≡ 0) ↔ (x.answer.refused ≡ 0)
left_returns x r after out z p = rw p.says.number_is z

-- out begins with what stopped the turn, 3 for a refusal
pub turn_returns : (t : Told) (k r : ℕ) (out : List ℕ) → ZeroStop t → TurnTold t k r out → (r ≡ 0) ↔ (get_or out 0 0 ≡ 3 → ⊥)
turn_returns t k r out z p = rw (p.number_is, p.out_is) z

pub stop_first : (t : Told) (k r : ℕ) (out : List ℕ) → TurnTold t k r out → get_or out 0 0 ≡ t.reason
stop_first t k r out p = ap (λ (o : List ℕ). get_or o 0 0) p.out_is
