-- Demands 2 and 3 of the check, as predicates over any check, any turns and any call: ours meets them, and document 01's wrong programs do not.
--   DemandTwo k check        the check accepts exactly if a tree yields the list
--   TurnsTwo k call          so do turns, however they are cut
--   DemandThree k call       each turn is what document 01 says of a turn of the written rule
--   ours_two, ours_turns, ours_three   whatever keeps our promises meets them
--   shut_out_…               refusing everything, accepting everything, a turn that does nothing, all the work in the first turn,
--                            an invented step count
use Rattle.std.specs.Prelude.{ℕ, zero, suc, ◌≡◌, refl, ◌⊎◌, Bool, true, false, ◌&&◌, List, [], ◌∷◌, ltb, Ok, Err}
use Rattle.std.proofs.Common.{ap, ◌∙◌, sym, subst, inl, inr, arith, ltb-true}
use Rattle.std.proofs.lemmas.Bool.{false≢true}
use Rattle.turns.specs.Turn.{Halt, Turned, run, turn}
use Rattle.turns.specs.Demand.{Faithful, ours_faithful, shut_out_state, shut_out_count}
use Rattle.turns.specs.Chains.{Chain, one, more}
use Rattle.trees.specs.Tree.{none}
use Rattle.trees.specs.Signature.{cell, entries_of, width, entries}
use Rattle.terms.specs.declared.Kind.{Kind}
use Rattle.checking.specs.declared.CheckState.{CheckState}
use Rattle.terms.specs.declared.Stop.{Stop}
use Rattle.terms.specs.declared.Refusal.{Refusal}
use Rattle.terms.specs.Kinds.{any_name}
use Rattle.checking.specs.Rule.{at, fresh, step_of, close_of, accepted, nameless, second_root, in_range, Ranges}
use Rattle.checking.specs.Turn.{TurnPromise, turn_of, turn_within}
use Rattle.terms.specs.Length.{length_fault}
use Rattle.checking.specs.Whole.{WholePromise}
use Rattle.checking.proofs.Cases.{fresh_ranges}
use Rattle.checked.specs.Menus.{single, two_roots}
use Rattle.checked.specs.Yields.{Words, Yields, Exactly, Ended, Turns}
use Rattle.checked.specs.Apart.{stop_of, turned_of, handed_turned}
use Rattle.checked.specs.Chained.{Fits, promise_is}
use Rattle.checked.specs.Wholly.{handed, handed_is, accepted_exactly, whole_exactly, never_refused}
use Rattle.terms.specs.declared.Turn.{Turn}
use Rattle.terms.specs.Stops.{Verdict}

-- ---- the demands

-- demand 2: "A signature is accepted exactly if a data tree yields it."
abbrev pub DemandTwo : Kind → (List ℕ → Verdict) → Type 0
DemandTwo k check = (s : List ℕ) → Words s → Exactly k s (check s ≡ Ok tt)

-- turns of a call from the fresh state, each given the state before
abbrev pub Called : (ℕ → CheckState → Turn CheckState) → ℕ → ℕ → Turn CheckState → Type 0
Called call B K r = Chain CheckState (Turn CheckState) (λ b st t. t ≡ call b st) (λ t. t.state) (λ t. t.steps) fresh B K r

-- demand 2 of turns: the end is reported only if a tree yields the list, and with 2×n steps to spend in all it is if one does
abbrev pub TurnsTwo : Kind → (List ℕ → ℕ → CheckState → Turn CheckState) → Type 0
TurnsTwo k call = (s : List ℕ) → Words s → (B K : ℕ) (r : Turn CheckState) → Called (call s) B K r → Ended k s B (r.stop ≡ Stop.End)

-- demand 3: on every list whose length is not refused, each turn is a turn of the written rule
abbrev pub DemandThree : Kind → (List ℕ → ℕ → CheckState → Turn CheckState) → Type 0
DemandThree k call =
    (s : List ℕ) → Fits k s
    → Faithful CheckState (accepted (entries s)) (step_of (any_name k) (entries s) (entries_of width s)) (Ranges (entries s))
    (λ b st. turned_of (call s b st))

-- ---- ours meets them

pub ours_two : (k : Kind) (check : List ℕ → Verdict) → ((s : List ℕ) → WholePromise k s (check s)) → DemandTwo k check
ours_two k check p s w = whole_exactly k s w (check s) (p s)

promised : (k : Kind) (s : List ℕ) (call : ℕ → CheckState → Turn CheckState) → ((b : ℕ) (st : CheckState) → TurnPromise k s b st (call b st))
    → {st : CheckState} {B K : ℕ} {r : Turn CheckState}
    → Chain CheckState (Turn CheckState) (λ b from t. t ≡ call b from) (λ t. t.state) (λ t. t.steps) st B K r → Turns k s st B K r
promised k s call p (one {st = st} {b = b} e) = one (subst (TurnPromise k s b st) (sym e) (p b st))
promised k s call p (more {st = st} {b = b} e c) = more (subst (TurnPromise k s b st) (sym e) (p b st)) (promised k s call p c)

pub ours_turns : (k : Kind) (call : List ℕ → ℕ → CheckState → Turn CheckState)
    → ((s : List ℕ) (b : ℕ) (st : CheckState) → TurnPromise k s b st (call s b st)) → TurnsTwo k call
ours_turns k call p s w B K r c = accepted_exactly k s w (promised k s (call s) (p s) c)

pub ours_three : (k : Kind) (call : List ℕ → ℕ → CheckState → Turn CheckState)
    → ((s : List ℕ) (b : ℕ) (st : CheckState) → TurnPromise k s b st (call s b st)) → DemandThree k call
ours_three k call p s f =
    ours_faithful CheckState _ _ (Ranges (entries s)) (λ b st. turned_of (call s b st))
    (λ b st g. handed_turned (call s b st) _ (promise_is k s f b st (call s b st) g (p s b st)))

-- ---- the starred cases that are the witnesses

-- sixteen-bit numbers, by a test over the list
unfoldable pub small : List ℕ → Bool
small [] = true
small (x ∷ l) = ltb x 65536 && small l

pub small_words : (s : List ℕ) → small s ≡ true → Words s
unfolding small
small_words [] h = λ i. omega arith
small_words (x ∷ l) h = go (λ q. small_words l q) (ltb x 65536) refl h
  where
    go : (small l ≡ true → Words l) → (b : Bool) → ltb x 65536 ≡ b → (b && small l) ≡ true → Words (x ∷ l)
    go rest true e q zero = ltb-true x 65536 e
    go rest true e q (suc i) = rest q i
    go rest false e q i = absurd (false≢true q)

single_words : Words single
unfolding small
single_words = small_words single refl

two_words : Words two_roots
unfolding small
two_words = small_words two_roots refl

-- its length is not refused
single_fits : Fits Kind.Data single
unfolding length_fault
single_fits = refl

pub single_yields : Yields Kind.Data single
single_yields = record {
  tree = record { name = 7; below = none };
  grown = record { named = (record { code = omega arith; some = λ z. omega arith }, tt, tt); small = omega arith };
  is = refl;
}

two_refused : (turn_of Kind.Data two_roots 9 fresh).halt ≡ Halt.refusal 4 2
unfolding turn_within length_fault in_range run step_of close_of nameless second_root accepted cell
two_refused = refl

-- no tree yields two roots
pub two_none : Yields Kind.Data two_roots → ⊥
two_none y = go (never_refused Kind.Data two_roots y (one (handed_is (turn_of Kind.Data two_roots 9 fresh))))
  where
    stopped : (handed (turn_of Kind.Data two_roots 9 fresh)).stop ≡ Stop.Refused (record { number = 4; entry = record { 0 = 2 } })
    stopped = ap stop_of two_refused

    go : ((handed (turn_of Kind.Data two_roots 9 fresh)).stop ≡ Stop.End) ⊎ ((handed (turn_of Kind.Data two_roots 9 fresh)).stop ≡ Stop.Budget) → ⊥
    go (inl e) = let q = sym stopped ∙ e in let z : ◌≡◌ {A = ℕ} 0 1 = cc in omega arith
    go (inr e) = let q = sym stopped ∙ e in let z : ◌≡◌ {A = ℕ} 0 1 = cc in omega arith

-- the turns of the written rule on the one entry, from the fresh state
abbrev pub on_single : ℕ → Turned CheckState
on_single b = turn CheckState (accepted (entries single)) (step_of false (entries single) (entries_of width single)) b fresh

single_one : on_single 1 ≡ record { state = at 2 1 0; steps = 1; halt = Halt.budget }
unfolding run step_of close_of nameless second_root accepted cell
single_one = refl

single_two : on_single 2 ≡ record { state = at 2 0 1; steps = 2; halt = Halt.end }
unfolding run step_of close_of nameless second_root accepted cell
single_two = refl

-- ---- shut out by demand 2

-- refusing everything
pub shut_out_refusing : (x : List ℕ → Refusal) → DemandTwo Kind.Data (λ s. Err (x s)) → ⊥
shut_out_refusing x d =
    let q = (d single single_words).complete single_yields in let z : ◌≡◌ {A = ℕ} 0 1 = cc in omega arith

-- accepting everything, the one fixed answer that is left
pub shut_out_accepting : DemandTwo Kind.Data (λ s. (Ok tt)) → ⊥
shut_out_accepting d = two_none ((d two_roots two_words).sound refl)

-- turns that refuse everything, each time as they like
pub shut_out_turns_refusing : (call : List ℕ → ℕ → CheckState → Turn CheckState) (x : List ℕ → ℕ → CheckState → Refusal)
    → ((s : List ℕ) (b : ℕ) (st : CheckState) → (call s b st).stop ≡ Stop.Refused (x s b st)) → TurnsTwo Kind.Data call → ⊥
shut_out_turns_refusing call x refuses d =
    let e = (d single single_words 2 _ (call single 2 fresh) (one refl)).complete (omega arith) single_yields in
    let q = sym (refuses single 2 fresh) ∙ e in let z : ◌≡◌ {A = ℕ} 0 1 = cc in omega arith

-- turns with one fixed stop reason, whatever else they hand back
pub shut_out_fixed : (call : List ℕ → ℕ → CheckState → Turn CheckState) (x : Stop) → ((s : List ℕ) (b : ℕ) (st : CheckState) → (call s b st).stop ≡ x)
    → TurnsTwo Kind.Data call → ⊥
shut_out_fixed call x fixed d =
    let e = (d single single_words 2 _ (call single 2 fresh) (one refl)).complete (omega arith) single_yields in
    two_none ((d two_roots two_words 4 _ (call two_roots 4 fresh) (one refl)).sound (fixed two_roots 4 fresh ∙ sym (fixed single 2 fresh) ∙ e))

-- ---- shut out by demand 3

-- a turn that does nothing: one paid step leaves the fresh state as it is, whatever the turn says
pub shut_out_idle : (call : List ℕ → ℕ → CheckState → Turn CheckState) → (call single 1 fresh).state ≡ fresh → DemandThree Kind.Data call → ⊥
shut_out_idle call idle d =
    shut_out_state CheckState _ _ (Ranges (entries single)) (λ b st. turned_of (call single b st)) (d single single_fits) 1 fresh (fresh_ranges 1)
    (λ e. let q : ◌≡◌ {A = ℕ} 1 2 = ap (λ (t : CheckState). t.next.0) (sym idle ∙ e ∙ ap (λ (t : Turned CheckState). t.state) single_one) in omega arith)

-- all the work in the first turn, which may spend one step, whatever it says
pub shut_out_at_once : (call : List ℕ → ℕ → CheckState → Turn CheckState) → (call single 1 fresh).state ≡ at 2 0 1 → DemandThree Kind.Data call → ⊥
shut_out_at_once call once d =
    shut_out_state CheckState _ _ (Ranges (entries single)) (λ b st. turned_of (call single b st)) (d single single_fits) 1 fresh (fresh_ranges 1)
    (λ e. let q : ◌≡◌ {A = ℕ} 0 1 = ap (λ (t : CheckState). t.top.0) (sym once ∙ e ∙ ap (λ (t : Turned CheckState). t.state) single_one) in omega arith)

-- an invented step count: another one than that of the turn of the rule, with any budget
pub shut_out_invented : (call : List ℕ → ℕ → CheckState → Turn CheckState) (b : ℕ) → ((call single b fresh).steps ≡ (on_single b).steps → ⊥)
    → DemandThree Kind.Data call → ⊥
shut_out_invented call b n d =
    shut_out_count CheckState _ _ (Ranges (entries single)) (λ b st. turned_of (call single b st)) (d single single_fits) b fresh (fresh_ranges 1) n
