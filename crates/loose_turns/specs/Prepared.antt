-- Preparing at the public calls, over their promises, for any signature, twig, table and state.
--   refused_writes_nothing  the start call, where it refuses
--   one_start, one_result  two results that a promise allows are equal, and so is what they leave in the table
--   step_as_written        the state and the table handed back are those after exactly the steps returned, by the written rule
--   handed_back_in_range   from a state in range the state handed back is in range, after a refusal too
--   stops_before_the_fault  a turn refused at a step stands before that step, and its budget would have paid for it
--   cut_anywhere, cut_kept  a turn of a + b steps is one of a and then one of b, unless it stopped
--   count_unique           no two counts join the same two states
use Rattle.std.specs.Prelude.{ℕ, ◌+◌, ◌-◌, ◌*◌, ◌≤◌, ◌<◌, refl, List, Bool, length, eqb, Ok, Err}
use Rattle.std.proofs.Math.Path.{◌≡◌}
use Rattle.std.proofs.Common.{ap, ◌∙◌, sym, subst, le-leb, leb-true, ne_eqb}
use Rattle.std.proofs.Math.Bool.{true, false}
use native.Mathlib.Omega.{arith}
use Rattle.std.proofs.Math.Decide.{ℕ_discrete}
use Rattle.std.proofs.lemmas.Bool.{eqb-false}
use Rattle.turns.specs.Pick.{pick}
use Rattle.turns.specs.Turn.{Next, moved, answered, refused, Halt, Turned, turn, Step, on, found, Steps}
use Rattle.turns.specs.Counts as Counts
use Rattle.turns.specs.Laws as Laws
use Rattle.turns.specs.Judging as Judging
use Rattle.trees.specs.Signature.{entries_of, width, entries}
use Rattle.terms.specs.declared.Stop.{Stop}
use Rattle.terms.specs.declared.Refusal.{Refusal}
use Rattle.terms.specs.Stops.{halt_told}
use Rattle.checked.specs.Apart.{halt_of, halt_of_law, told_apart, told_halt, halt_told_law}
use Rattle.preparing.specs.declared.Prep.{Prep}
use Rattle.twig_turns.specs.Given.{given_of, begun, refused_for, table_width}
use Rattle.preparing.specs.Preparing.{Preparing, prepared, prep_step, bad_parent, step_table}
use Rattle.preparing.specs.PrepTurn.{cleared, start_fault, start_told, Fresh, StartPromise, preparing, prep_in_range, prep_run, prep_turn_of, PrepHanded, PrepPromise, Started}
use Rattle.twig_turns.proofs.Judged.{begun_early, begun_run, begun_judged}
use Rattle.preparing.proofs.PrepCases.{table_length, start_empty}
use Rattle.terms.specs.declared.Turn.{Turn}

-- the twig or the signature's length refuses
pub early : {S : Type 0} (sig twig : List ℕ) (room : ℕ) (st : S) (fits : Bool) (run : Turned S) → ((given_of sig twig).reason ≡ 1 → ⊥)
    → begun sig twig room st fits run ≡ refused_for st (given_of sig twig)
early sig twig room st fits run h = begun_early (table_width * entries sig) sig twig room st fits run h

-- ---- the code's answers and the turn that they tell

-- what was handed back, as a turn of the rule
abbrev pub turned_of : Turn Prep → List ℕ → Turned Preparing
turned_of r left = record { state = preparing r.state left; steps = r.steps; halt = halt_of r.stop }

pub handed_turned : (r : Turn Prep) (left : List ℕ) (t : Turned Preparing) → PrepHanded r left t → turned_of r left ≡ t
handed_turned r left t h =
    let a = ap (λ (p : Prep). p.next.0) h.state in
    let b = h.steps in
    let c = halt_told_law (halt_of r.stop) t.halt (sym (halt_of_law r.stop) ∙ h.stop) in
    let d = h.leaves in
    λ i. record { state = record { next = a i; table = d i }; steps = b i; halt = c i }

-- ---- one result

pub one_result : (sig twig table : List ℕ) (b : ℕ) (st : Prep) (r q : Turn Prep) (l k : List ℕ)
    → PrepPromise sig twig table b st r l → PrepPromise sig twig table b st q k → (r ≡ q) × (l ≡ k)
one_result sig twig table b st r q l k p o =
    let x = p.state ∙ sym o.state in
    let y = p.steps ∙ sym o.steps in
    let z = told_apart r.stop q.stop (p.stop ∙ sym o.stop) in
    ((λ i. record { state = x i; steps = y i; stop = z i }), p.leaves ∙ sym o.leaves)

module _ (n : ℕ) (table : List ℕ) where
  some_fresh : start_fault n (length table) ≡ 0 → n ≡ 0 → ⊥
  some_fresh e z = omega (arith, start_empty n (length table) z, e)

  same_start : (r q : Started) → start_told r ≡ start_told q → ((start_told r).number ≡ 0 → (start_told r).next ≡ 0 → ⊥) → r ≡ q
  same_start (Ok a) (Ok c) e n = let x = ap (λ (f : Fresh). f.next) e in λ i. Ok (record { next = record { 0 = x i } })
  same_start (Err a) (Err c) e n =
      let x = ap (λ (f : Fresh). f.number) e in
      let y = ap (λ (f : Fresh). f.entry) e in
      λ i. Err (record { number = x i; entry = record { 0 = y i } })
  same_start (Ok a) (Err c) e n = absurd (n refl (ap (λ (f : Fresh). f.next) e))
  same_start (Err a) (Ok c) e n = absurd (n (ap (λ (f : Fresh). f.number) e) refl)

  started : (r : Started) (l : List ℕ) → StartPromise n table r l → (start_told r).number ≡ 0 → (start_told r).next ≡ 0 → ⊥
  started r l p a b =
      let f : start_fault n (length table) ≡ 0 = sym (ap (λ (f : Fresh). f.number) p.answer) ∙ a in
      let g : pick {A = ℕ} (eqb (start_fault n (length table)) 0) n 0 ≡ 0 = sym (ap (λ (f : Fresh). f.next) p.answer) ∙ b in
      some_fresh f (rw f at g)

  pub one_start : (r q : Started) (l k : List ℕ) → StartPromise n table r l → StartPromise n table q k → (r ≡ q) × (l ≡ k)
  one_start r q l k p o = (same_start r q (p.answer ∙ sym o.answer) (started r l p), p.leaves ∙ sym o.leaves)

  -- a refused start call names its number, hands back no state and writes nothing
  pub refused_writes_nothing : (x : Refusal) (l : List ℕ) → StartPromise n table (Err x) l
      → (l ≡ table) × (x.number ≡ start_fault n (length table)) × (x.entry.0 ≡ 0)
  refused_writes_nothing x l p = (p.leaves ∙ kept_whole (ℕ_discrete (start_fault n (length table)) 0), number, ap (λ (f : Fresh). f.entry) p.answer)
    where
      number : x.number ≡ start_fault n (length table)
      number = ap (λ (f : Fresh). f.number) p.answer

      -- a refusal of number 0 would hand back a fresh state of 0 entries
      kept_whole : Dec (start_fault n (length table) ≡ 0)
          → pick (eqb (start_fault n (length table)) 0) (cleared (table_width * n) table) table ≡ table
      kept_whole (yes h) = absurd (started (Err x) l p (number ∙ h) refl)
      kept_whole (no h) = simp (ne_eqb _ _ h)

module _ (sig twig : List ℕ) where
  -- the written step of preparing, on the numbers of a signature and a twig
  abbrev pub step : Preparing → Next Preparing
  step st = prep_step (entries_of width sig) (entries_of width twig) (entries twig) st

  abbrev whole : ℕ → Preparing → Turned Preparing
  whole b st = prep_turn_of sig twig b st

  -- ---- from which states a turn takes steps

  -- the twig and the signature's length are accepted, the state is in range, and the room is enough
  pub record Good (st : Preparing) : Type 0 where
    pub given : (given_of sig twig).reason ≡ 1
    pub in_range : st.next ≤ entries sig
    pub room : table_width * entries sig ≤ length st.table

  run_is : (b : ℕ) (st : Preparing) → Good st → whole b st ≡ turn Preparing prepared step b st
  run_is b st g = begun_run (table_width * entries sig) sig twig (length st.table) st (prep_in_range (entries sig) st) (prep_run sig twig b st) g.given (le-leb _ _ g.in_range) g.room

  after_step : (st to : Preparing) → step st ≡ moved to
      → to ≡ record { next = st.next - 1; table = step_table (entries_of width sig) (entries_of width twig) (entries twig) st.table st.next }
  unfolding prep_step
  after_step st to = go (bad_parent (entries_of width sig) st.next)
    where
      next : Preparing
      next = record { next = st.next - 1; table = step_table (entries_of width sig) (entries_of width twig) (entries twig) st.table st.next }

      go : (a : Bool) → pick a (refused 11 0) (moved next) ≡ moved to → to ≡ next
      go true q = let z : ◌≡◌ {A = ℕ} 0 1 = cc in absurd (omega arith)
      go false q = cc

  silent : (st to : Preparing) → step st ≡ answered to → ⊥
  unfolding prep_step
  silent st to = go (bad_parent (entries_of width sig) st.next)
    where
      go : (a : Bool)
          → pick a (refused 11 0)
          (moved (record { next = st.next - 1; table = step_table (entries_of width sig) (entries_of width twig) (entries twig) st.table st.next }))
          ≡ answered to → ⊥
      go true q = let z : ◌≡◌ {A = ℕ} 0 1 = cc in omega arith
      go false q = let z : ◌≡◌ {A = ℕ} 0 1 = cc in omega arith

  kept : (a b : Preparing) → Step Preparing prepared step a b → Good a → Good b
  kept a b (found h e) g = absurd (silent a b e)
  kept a b (on h e) g =
      rw (after_step a b e) (record {
        given = g.given;
        in_range = omega (arith, g.in_range);
        room = rw (table_length (entries_of width sig) (entries_of width twig) (entries twig) a.table a.next) g.room;
      })

  judged : (st : Preparing) → Judging.Judged Preparing prepared step whole Good st
  judged st =
      begun_judged prepared step Good (table_width * entries sig) sig twig (λ x. length x.table) (prep_in_range (entries sig)) (prep_run sig twig) st
      (λ h x y. record { given = h; in_range = leb-true st.next (entries sig) x; room = y })

  -- ---- one turn, from any state

  module _ (table : List ℕ) (b : ℕ) (st : Prep) (r : Turn Prep) (left : List ℕ) (p : PrepPromise sig twig table b st r left) where
    is : turned_of r left ≡ whole b (preparing st table)
    is = handed_turned r left (whole b (preparing st table)) p

    pub step_as_written : Steps Preparing prepared step r.steps (preparing st table) (preparing r.state left)
    step_as_written =
        subst (λ (t : Turned Preparing). Steps Preparing prepared step t.steps (preparing st table) t.state) (sym is)
        (Judging.counted Preparing prepared step whole Good run_is kept b (preparing st table) (judged (preparing st table)))

    -- "any t over n is out of range"
    pub handed_back_in_range : st.next.0 ≤ entries sig → r.state.next.0 ≤ entries sig
    handed_back_in_range l = falls step_as_written l
      where
        falls : {k : ℕ} {a c : Preparing} → Steps Preparing prepared step k a c → a.next ≤ entries sig → c.next ≤ entries sig
        falls Steps.none h = h
        falls (Steps.then (on f e) m) h = falls m (rw (after_step _ _ e) (omega arith))
        falls (Steps.then (found f e) m) h = absurd (silent _ _ e)

    pub stops_before_the_fault : Good (preparing st table) → (x : Refusal) → r.stop ≡ Stop.Refused x
        → Laws.AtFault Preparing prepared step b (preparing st table) (turned_of r left) x.number x.entry.0
    stops_before_the_fault g x e =
        subst (λ (t : Turned Preparing). Laws.AtFault Preparing prepared step b (preparing st table) t x.number x.entry.0) (sym is)
        (Judging.fault Preparing prepared step whole Good run_is kept b (preparing st table) g x.number x.entry.0
        (ap (λ (t : Turned Preparing). t.halt) (sym is) ∙ ap halt_of e))

  -- ---- turns one after the other

  module _ (a b : ℕ) (table : List ℕ) (st : Prep) (x r : Turn Prep) (mid left : List ℕ)
      (p : PrepPromise sig twig table a st x mid) (o : PrepPromise sig twig table (a + b) st r left) where
    -- stopped by its budget, a turn of a steps and then one of b are the turn of a + b
    pub cut_anywhere : (y : Turn Prep) (last : List ℕ) → x.stop ≡ Stop.Budget → PrepPromise sig twig mid b x.state y last
        → turned_of r left ≡ Laws.after Preparing prepared step a (turned_of y last)
    cut_anywhere y last e q =
        is table (a + b) st r left o
        ∙ Judging.cut Preparing prepared step whole Good run_is kept a b (preparing st table) (judged (preparing st table))
        (ap (λ (t : Turned Preparing). t.halt) (sym (is table a st x mid p)) ∙ ap halt_of e)
        ∙ ap (λ (s : Preparing). Laws.after Preparing prepared step a (whole b s)) (ap (λ (t : Turned Preparing). t.state) (sym (is table a st x mid p)))
        ∙ ap (Laws.after Preparing prepared step a) (sym (is mid b x.state y last q))

    -- stopped by anything else, a larger budget changes nothing
    pub cut_kept : (x.stop ≡ Stop.Budget → ⊥) → turned_of r left ≡ turned_of x mid
    cut_kept n =
        is table (a + b) st r left o
        ∙ Judging.larger Preparing prepared step whole Good run_is kept a b (preparing st table) (judged (preparing st table))
        (λ e. n (told_halt x.stop Halt.budget (p.stop ∙ ap halt_told e)))
        ∙ sym (is table a st x mid p)

  -- ---- counts

  -- the next entry falls by one with each step
  falls : (a b : Preparing) → Step Preparing prepared step a b → b.next < a.next
  falls a b (found h e) = absurd (silent a b e)
  falls a b (on h e) = rw (after_step a b e) (omega (arith, eqb-false a.next 0 h))

  pub count_unique : {i j : ℕ} {a b : Preparing} → Steps Preparing prepared step i a b → Steps Preparing prepared step j a b → i ≡ j
  count_unique m w =
      Counts.count_unique Preparing prepared step (λ a b. b.next < a.next) (λ a b c x y. omega arith) (λ a x. omega arith) falls m w
