-- Demands 2 and 3 of the loose question, as predicates over any turn of preparing and any turn of walking. Ours meet them.
--   Preparer, Walker       any turn of preparing, any turn of walking
--   PrepCalls, WalkCalls   calls one after the other, each given what the one before handed back
--   WayOf call w            the walk w is the fresh one, or was handed back by calls from it
--   PrepTwo, WalkTwo       demand 2: the table is right where the end is reported; the answers told are the list of all loose answers
--   PrepThree, WalkThree   demand 3: each turn is what document 01 says of a turn of the written rule
--   ours_prep_two, ours_walk_two, ours_prep_three, ours_walk_three   whatever keeps our promises meets them
--   prep_three_turn, walk_three_turn   demand 3 leaves one turn only
use Rattle.std.specs.Prelude.{ℕ, ◌+◌, ◌*◌, ◌≤◌, ◌≡◌, ◌⊎◌, true, length, Ok}
use Rattle.std.proofs.Math.Path.{refl, ap}
use Rattle.std.proofs.Common.{◌∙◌, sym, subst, inl, inr, arith, le-leb}
use mathlib.Core.List.{List, ◌++◌}
use Rattle.turns.specs.Turn.{Turned, Outcome}
use Rattle.turns.specs.Laws.{turn_outcome, outcome_turn}
use Rattle.turns.specs.Chains.{Chain, one, more}
use Rattle.trees.specs.Signature.{entries_of, width, entries}
use Rattle.walks.specs.Chained.{told, AllButLast}
use Rattle.terms.specs.declared.Stop.{Stop}
use Rattle.preparing.specs.declared.Prep.{Prep}
use Rattle.walking.specs.declared.Walk.{Walk}
use Rattle.preparing.specs.Masks.{can}
use Rattle.twig_turns.specs.Given.{given_of}
use Rattle.twig_turns.specs.Grounds.{Accepted}
use Rattle.preparing.specs.Preparing.{Preparing, prepared, prep_step}
use Rattle.preparing.specs.PrepTurn.{StartPromise, prep_in_range, prep_run_of, PrepHanded, PrepPromise}
use Rattle.walking.specs.Walking.{in_range, step_of, ended, fresh}
use Rattle.walking.specs.WalkTurn.{walk_run_of, WalkPromise}
use Rattle.listed.specs.Questions.{Lent, PrepBack, lend, reading, TableSays, NoBitsAbove, Prepared, tell_of, start, OnTheWay, handed}
use Rattle.listed.specs.Given.{begun_runs}
use Rattle.listed.specs.Ruling.{Ready}
use Rattle.listed.specs.Prepared.{Done, Short, prepare_n, prepare_bits, prepare_ends}
use Rattle.listed.specs.Exactly.{all_loose, loose_exactly, walk_within_law}
use Rattle.terms.specs.declared.Turn.{Turn}
use Rattle.terms.specs.Stops.{Handed}

-- given signature, twig, budget, and state and table
abbrev pub Preparer : Type 0
Preparer = List ℕ → List ℕ → ℕ → Lent → PrepBack

-- given signature, twig, table, budget and saved walk
abbrev pub Walker : Type 0
Walker = List ℕ → List ℕ → List ℕ → ℕ → Walk → Turn Walk

-- calls of a turn of preparing one after the other, each given the state and the table that the one before left
abbrev pub PrepCalls : Preparer → List ℕ → List ℕ → Lent → ℕ → ℕ → PrepBack → Type 0
PrepCalls call s tw st B K r = Chain Lent PrepBack (λ b from t. t ≡ call s tw b from) lend (λ t. t.turn.steps) st B K r

-- calls of a turn of the walk one after the other, each given the walk that the one before handed back
abbrev pub WalkCalls : Walker → List ℕ → List ℕ → List ℕ → Walk → ℕ → ℕ → Turn Walk → Type 0
WalkCalls call s tw table w B K r = Chain Walk (Turn Walk) (λ b from t. t ≡ call s tw table b from) (λ t. t.state) (λ t. t.steps) w B K r

-- "from the start, and from any answer", of any turn of walking: the fresh walk, or one that calls from it handed back
pub data WayOf (call : Walker) (s tw table : List ℕ) : Walk → Type 0 where
  begins : WayOf call s tw table fresh
  after : {B K : ℕ} {r : Turn Walk} → WalkCalls call s tw table fresh B K r → WayOf call s tw table r.state

-- ---- demand 2

-- from what the start call left: the table is right where the end is reported, and it is reported where n steps may be spent
pub record PrepTwo (call : Preparer) : Type 0 where
  pub sound : (s tw lent left : List ℕ) (p : Prep) → Accepted s tw → StartPromise (entries s) lent (Ok p) left
      → {B K : ℕ} {r : PrepBack}
      → PrepCalls call s tw (record { state = p; table = left }) B K r → r.turn.stop ≡ Stop.End → TableSays s tw r.left
  pub bare : (s tw lent left : List ℕ) (p : Prep) → Accepted s tw → StartPromise (entries s) lent (Ok p) left
      → {B K : ℕ} {r : PrepBack}
      → PrepCalls call s tw (record { state = p; table = left }) B K r → r.turn.stop ≡ Stop.End → NoBitsAbove s tw r.left
  pub complete : (s tw lent left : List ℕ) (p : Prep) → Accepted s tw → StartPromise (entries s) lent (Ok p) left
      → {B K : ℕ} {r : PrepBack}
      → PrepCalls call s tw (record { state = p; table = left }) B K r → entries s ≤ B → r.turn.stop ≡ Stop.End

-- over a prepared table, from the fresh walk: "the answers told, in order, are the ascending list" and then the end
pub record WalkTwo (call : Walker) : Type 0 where
  pub front : (s tw left : List ℕ) → Accepted s tw → Prepared s tw left
      → {B K : ℕ} {r : Turn Walk} (c : WalkCalls call s tw left fresh B K r)
      → (rest : List (List ℕ)) × (told (tell_of (entries tw)) c ++ rest ≡ all_loose s tw)
  pub whole : (s tw left : List ℕ) → Accepted s tw → Prepared s tw left
      → {B K : ℕ} {r : Turn Walk} (c : WalkCalls call s tw left fresh B K r)
      → r.stop ≡ Stop.End → told (tell_of (entries tw)) c ≡ all_loose s tw
  pub unrefused : (s tw left : List ℕ) → Accepted s tw → Prepared s tw left
      → {B K : ℕ} {r : Turn Walk} (c : WalkCalls call s tw left fresh B K r)
      → (r.stop ≡ Stop.Answer) ⊎ (r.stop ≡ Stop.End) ⊎ (r.stop ≡ Stop.Budget)
  pub arrives : (s tw left : List ℕ) → Accepted s tw → Prepared s tw left
      → {w : Walk} {B K : ℕ} {r : Turn Walk} → WayOf call s tw left w → (c : WalkCalls call s tw left w B K r)
      → AllButLast (λ u. u.stop ≡ Stop.Budget) c → 2 * (entries tw * entries s) + 1 ≤ B → (r.stop ≡ Stop.Answer) ⊎ (r.stop ≡ Stop.End)

-- ---- demand 3

-- for any signature, with a twig and a length that are not refused, and any state and table in range
abbrev pub PrepThree : Preparer → Type 0
PrepThree call =
    (s tw : List ℕ) → (given_of s tw).reason ≡ 1 → (b : ℕ) (st : Lent) → Ready (entries s) (reading st)
    → (t : Turned Preparing) × PrepHanded (call s tw b st).turn (call s tw b st).left t
    × Outcome Preparing prepared (prep_step (entries_of width s) (entries_of width tw) (entries tw)) b (reading st) t

-- the same of walking: for any table of 2×n numbers or more, and any walk in its ranges
abbrev pub WalkThree : Walker → Type 0
WalkThree call =
    (s tw left : List ℕ) → (given_of s tw).reason ≡ 1 → 2 * entries s ≤ length left → (b : ℕ) (w : Walk)
    → in_range (entries s) (entries tw) (entries_of width tw) w ≡ true
    → (t : Turned Walk) × Handed (call s tw left b w) t
    × Outcome Walk ended (step_of (entries s) (entries tw) (entries_of width s) (entries_of width tw) (can left)) b w t

-- ---- chains of calls that keep a promise

module _ {S R : Type 0} {P Q : ℕ → S → R → Type 0} {state : R → S} {steps : R → ℕ}
    (keep : (b : ℕ) (st : S) (r : R) → P b st r → Q b st r) where
  kept : {st : S} {B K : ℕ} {r : R} → Chain S R P state steps st B K r → Chain S R Q state steps st B K r
  kept (one {st = st} {b = b} {r = r} p) = one (keep b st r p)
  kept (more {st = st} {b = b} {r = r} p c) = more (keep b st r p) (kept c)

  kept_told : {A : Type 0} (tell : R → List A) {st : S} {B K : ℕ} {r : R} (c : Chain S R P state steps st B K r)
      → told tell (kept c) ≡ told tell c
  unfolding told kept
  kept_told tell (one p) = refl
  kept_told {A} tell (more {r = r} p c) = ap (λ (l : List A). tell r ++ l) (kept_told tell c)

  kept_each : (X : R → Type 0) {st : S} {B K : ℕ} {r : R} (c : Chain S R P state steps st B K r) → AllButLast X c → AllButLast X (kept c)
  unfolding kept
  kept_each X (one p) h = tt
  kept_each X (more p c) h = (h.0, kept_each X c h.1)

-- ---- ours

module _ (call : Preparer) (promise : (s tw : List ℕ) (b : ℕ) (st : Lent)
    → PrepPromise s tw st.table b st.state (call s tw b st).turn (call s tw b st).left) where
  keeps_prep : (s tw : List ℕ) (b : ℕ) (st : Lent) (r : PrepBack) → r ≡ call s tw b st
      → PrepPromise s tw st.table b st.state r.turn r.left
  keeps_prep s tw b st r q = subst (λ (x : PrepBack). PrepPromise s tw st.table b st.state x.turn x.left) (sym q)
      (promise s tw b st)

  pub ours_prep_two : PrepTwo call
  ours_prep_two = record {
    sound = λ s tw lent left p a h c z. (prepare_n s tw a lent left p h (kept (keeps_prep s tw) c) z).1;
    bare = λ s tw lent left p a h c z. prepare_bits s tw a lent left p h (kept (keeps_prep s tw) c) z;
    complete = λ s tw lent left p a h {B} {K} {r} c l. by s tw l (prepare_ends s tw a lent left p h (kept (keeps_prep s tw) c));
  }
    where
      by : (s tw : List ℕ) {B K : ℕ} {r : PrepBack} → entries s ≤ B → Done s tw B K r ⊎ Short s tw B K r → r.turn.stop ≡ Stop.End
      by s tw l (inl x) = x.stop
      by s tw l (inr x) = absurd (omega (arith, x.fewer))

  pub ours_prep_three : PrepThree call
  ours_prep_three s tw g b st i =
      let run = prep_run_of (entries_of width s) (entries_of width tw) (entries tw) b (reading st) in (
        run,
        subst (PrepHanded (call s tw b st).turn (call s tw b st).left)
            (begun_runs s tw g (length st.table) (reading st) (prep_in_range (entries s) (reading st)) run (le-leb _ _ i.next_high)
            i.room)
            (promise s tw b st),
        turn_outcome Preparing prepared (prep_step (entries_of width s) (entries_of width tw) (entries tw)) b (reading st),
      )

module _ (call : Walker) (promise : (s tw left : List ℕ) (b : ℕ) (w : Walk) → WalkPromise s tw left b w (call s tw left b w)) where
  keeps_walk : (s tw left : List ℕ) (b : ℕ) (w : Walk) (r : Turn Walk) → r ≡ call s tw left b w → WalkPromise s tw left b w r
  keeps_walk s tw left b w r q = subst (WalkPromise s tw left b w) (sym q) (promise s tw left b w)

  way : (s tw left : List ℕ) {w : Walk} → WayOf call s tw left w → OnTheWay s tw left w
  way s tw left begins = start
  way s tw left (after c) = handed (kept (keeps_walk s tw left) c)

  pub ours_walk_two : WalkTwo call
  ours_walk_two = record {
    front = λ s tw left a p c.
        let x = loose_exactly s tw a left p (kept (keeps_walk s tw left) c) in
        (x.rest, ap (λ (l : List (List ℕ)). l ++ x.rest) (sym (kept_told (keeps_walk s tw left) (tell_of (entries tw)) c)) ∙ x.front);
    whole = λ s tw left a p c h.
        sym (kept_told (keeps_walk s tw left) (tell_of (entries tw)) c) ∙ (loose_exactly s tw a left p (kept (keeps_walk s tw left) c)).whole h;
    unrefused = λ s tw left a p c. (loose_exactly s tw a left p (kept (keeps_walk s tw left) c)).unrefused;
    arrives = λ s tw left a p i c h l.
        (walk_within_law s tw a left p (way s tw left i) (kept (keeps_walk s tw left) c)
        (kept_each (keeps_walk s tw left) (λ u. u.stop ≡ Stop.Budget) c h)).arrives l;
  }

  pub ours_walk_three : WalkThree call
  ours_walk_three s tw left g l b w i =
      let run = walk_run_of (entries s) (entries tw) (entries_of width s) (entries_of width tw) (can left) b w in (
        run,
        subst (Handed (call s tw left b w))
            (begun_runs s tw g (length left) w (in_range (entries s) (entries tw) (entries_of width tw) w) run i l) (promise s tw left b w),
        turn_outcome Walk ended (step_of (entries s) (entries tw) (entries_of width s) (entries_of width tw) (can left)) b w,
      )

-- ---- demand 3 leaves one turn only

pub prep_three_turn : (call : Preparer) → PrepThree call → (s tw : List ℕ) → (given_of s tw).reason ≡ 1 → (b : ℕ) (st : Lent)
    → Ready (entries s) (reading st)
    → PrepHanded (call s tw b st).turn (call s tw b st).left
    (prep_run_of (entries_of width s) (entries_of width tw) (entries tw) b (reading st))
prep_three_turn call d s tw g b st i =
    let x = d s tw g b st i in
    subst (PrepHanded (call s tw b st).turn (call s tw b st).left) (sym (outcome_turn Preparing _ _ x.2)) x.1

pub walk_three_turn : (call : Walker) → WalkThree call → (s tw left : List ℕ) → (given_of s tw).reason ≡ 1 → 2 * entries s ≤ length left
    → (b : ℕ) (w : Walk) → in_range (entries s) (entries tw) (entries_of width tw) w ≡ true
    → Handed (call s tw left b w) (walk_run_of (entries s) (entries tw) (entries_of width s) (entries_of width tw) (can left) b w)
walk_three_turn call d s tw left g l b w i =
    let x = d s tw left g l b w i in
    subst (Handed (call s tw left b w)) (sym (outcome_turn Walk _ _ x.2)) x.1
