-- The check in turns on bare numbers: a chain of calls, each begun on the numbers that the last one left, is a chain of public turns, so its theorems hold of the calls.
--   check_as_written          the numbers left are those after exactly the steps in out, by the written rule
--   check_untouched           a turn that took no step leaves the state's numbers as given
--   CheckCalls k s l B K r    calls of the check one after the other, from the numbers l: budgets B and steps K in all, the last one gave r
--   CheckRan, check_chain     they are public turns from the state that l stands for
--   numbers_accepted_exactly  from 1, 0, 0 the end is reported only if a tree yields the list, and with 2×n steps to spend in all it is if one does
--   numbers_two_n             and by then the steps in out add up to 2×n
--   numbers_accepted          so the whole check accepts the list
--   check_called, check_called_law   what a call gives for a turn of the rule keeps its promise
--   first                     a call of 3 steps on Ten
--   ten_end, ten_twenty, ten_tree_law, ten_whole, ten_complete, ten_idle   used once on Ten: calls of 3 and 8,190 steps, and one of none
use Rattle.std.specs.Prelude.{ℕ, ◌+◌, ◌*◌, ◌≡◌, refl, List, [], ◌∷◌, length, get_or, Ok}
use Rattle.std.proofs.Common.{ap, ◌∙◌, sym, subst, arith}
use Rattle.turns.specs.Turn.{Turned, run, Steps}
use Rattle.turns.specs.Chains.{Chain, one, more}
use Rattle.trees.specs.Signature.{cell, entries_of, width, entries}
use Rattle.terms.specs.declared.Kind.{Kind}
use Rattle.checking.specs.declared.CheckState.{CheckState}
use Rattle.terms.specs.declared.Stop.{Stop}
use Rattle.terms.specs.Kinds.{any_name, kind_of}
use Rattle.checking.specs.Rule.{fresh, step_of, close_of, accepted, nameless, second_root, in_range}
use Rattle.checking.specs.Turn.{TurnPromise, turn_of, turn_within}
use Rattle.terms.specs.Length.{length_fault}
use Rattle.checking.specs.Whole.{WholePromise}
use Rattle.terms.specs.Stops.{Told, told, halt_told}
use Rattle.checked.specs.Yields.{Words, Yields, Ended, Turns}
use Rattle.checked.specs.Apart.{told_stop}
use Rattle.checked.specs.Public.{step_as_written}
use Rattle.checked.specs.Wholly.{handed, handed_is, accepted_exactly, check_two_n, yields_accepted}
use Rattle.checked.specs.ShutOut.{small, small_words}
use Rattle.checked.specs.Menus.{ten}
use Rattle.telling.specs.Numbers.{out_of, TurnTold}
use Rattle.telling.specs.States.{check_state_of, check_numbers, CheckSaid}
use Rattle.signature_calls.specs.Check.{CheckTurnPromise}
use Rattle.telling.specs.Back.{check_numbers_back}
use Rattle.calls_told.specs.Chains.{Called, stop_number, steps, reason_end, no_steps, chain_ran}
use Rattle.terms.specs.declared.Turn.{Turn}

module _ (k : ℕ) (s : List ℕ) where
  -- ---- one call

  -- what the public turn hands back
  abbrev public : ℕ → CheckState → Turn CheckState
  public b st = handed (turn_of (kind_of k) s b st)

  -- the call tells what the public turn hands back
  said : (b : ℕ) (l : List ℕ) (r : Called) → CheckTurnPromise k s b l r.number r.left r.out
      → CheckSaid (public b (check_state_of l)) r.number r.left r.out
  said b l r p =
      let t = turn_of (kind_of k) s b (check_state_of l) in
      record { says = subst (λ (x : Told). TurnTold x t.steps r.number r.out) (sym (told_stop t.halt)) p.says; state = p.state }

  -- the state left is the one after exactly out[1] steps of the written rule
  pub check_as_written : (b : ℕ) (l : List ℕ) (r : ℕ) (left out : List ℕ) → CheckTurnPromise k s b l r left out
      → Steps CheckState (accepted (entries s)) (step_of (any_name (kind_of k)) (entries s) (entries_of width s)) (get_or out 1 0) (check_state_of l)
      (check_state_of left)
  check_as_written b l r left out p =
      let t = turn_of (kind_of k) s b (check_state_of l) in
      rw (p.state, p.says.out_is) (step_as_written (kind_of k) s b (check_state_of l) (handed t) (handed_is t))

  -- "rewritten by the steps it took and by nothing else"
  pub check_untouched : (b : ℕ) (l : List ℕ) (r : ℕ) (left out : List ℕ) → length l ≡ 3 → CheckTurnPromise k s b l r left out
      → get_or out 1 0 ≡ 0 → left ≡ l
  check_untouched b l r left out h p z =
      let t = turn_of (kind_of k) s b (check_state_of l) in
      p.state
      ∙ ap check_numbers (no_steps (step_as_written (kind_of k) s b (check_state_of l) (handed t) (handed_is t))
      (sym (ap (λ (o : List ℕ). get_or o 1 0) p.says.out_is) ∙ z))
      ∙ check_numbers_back l h

  -- ---- calls one after the other

  -- any chain of calls, with any budgets, each begun on the numbers that the one before left
  abbrev pub CheckCalls : List ℕ → ℕ → ℕ → Called → Type 0
  CheckCalls l B K r =
      Chain (List ℕ) Called (λ b from t. CheckTurnPromise k s b from t.number t.left t.out) (λ t. t.left) steps l B K r

  -- the public turns that a chain of calls is
  pub record CheckRan (l : List ℕ) (B K : ℕ) (r : Called) : Type 0 where
    pub last : Turn CheckState
    pub chain : Turns (kind_of k) s (check_state_of l) B K last
    pub tells : CheckSaid last r.number r.left r.out

  pub check_chain : {l : List ℕ} {B K : ℕ} {r : Called} → CheckCalls l B K r → CheckRan l B K r
  check_chain {l} {B} {K} {r} c =
      let x = chain_ran (λ b from t. CheckTurnPromise k s b from t.number t.left t.out) (λ t. t.left) steps
      (λ b from t. TurnPromise (kind_of k) s b from t) (λ t. t.state) (λ t. t.steps) check_state_of public
      (λ r q. CheckSaid q r.number r.left r.out)
      (λ b st. handed_is (turn_of (kind_of k) s b st)) said (λ b l r p. ap check_state_of p.state)
      (λ r q x. ap (λ (o : List ℕ). get_or o 1 0) x.says.out_is)
      {A = ℕ} (λ r. []) (λ q. []) (λ r q x. refl) (λ r. Unit {0}) (λ q. Unit {0}) (λ r q x u. tt) c (check_state_of l) refl in
      record {
        last = x.last;
        chain = subst (λ (i : ℕ). Turns (kind_of k) s (check_state_of l) B i x.last) (sym x.total_same) x.chain;
        tells = x.same;
      }

  -- out[0] of a call is the number of the public stop
  reason_is : (q : Turn CheckState) (r : Called) → CheckSaid q r.number r.left r.out → stop_number r ≡ (told q.stop).reason
  reason_is q r x = ap (λ (o : List ℕ). get_or o 0 0) x.says.out_is

  -- ---- the theorems of the check, of calls from the fresh state's numbers

  -- demand 2: "exactly if a tree yields"
  pub numbers_accepted_exactly : {B K : ℕ} {r : Called} → Words s → CheckCalls (1 ∷ 0 ∷ 0 ∷ []) B K r → Ended (kind_of k) s B (stop_number r ≡ 1)
  numbers_accepted_exactly {r = r} w c =
      let x = check_chain c in
      let y = accepted_exactly (kind_of k) s w x.chain in
      record {
        sound = λ h. y.sound (reason_end x.last.stop (sym (reason_is x.last r x.tells) ∙ h));
        complete = λ b t. reason_is x.last r x.tells ∙ ap (λ (z : Stop). (told z).reason) (y.complete b t);
      }

  -- demand 3: "in exactly 2*n steps"
  pub numbers_two_n : {B K : ℕ} {r : Called} → CheckCalls (1 ∷ 0 ∷ 0 ∷ []) B K r → stop_number r ≡ 1 → K ≡ 2 * entries s
  numbers_two_n {r = r} c h =
      let x = check_chain c in
      check_two_n (kind_of k) s x.chain (reason_end x.last.stop (sym (reason_is x.last r x.tells) ∙ h))

  -- and the whole check accepts it, which is what preparing and walking ask for
  pub numbers_accepted : {B K : ℕ} {r : Called} → Words s → CheckCalls (1 ∷ 0 ∷ 0 ∷ []) B K r → stop_number r ≡ 1
      → WholePromise (kind_of k) s (Ok tt)
  numbers_accepted w c h = yields_accepted (kind_of k) s ((numbers_accepted_exactly w c).sound h)

-- ---- used once, on Ten

-- what a call gives for a turn of the rule
abbrev pub check_called : Turned CheckState → Called
check_called t = record { number = (halt_told t.halt).number; left = check_numbers t.state; out = out_of (halt_told t.halt) t.steps }

pub check_called_law : (k : ℕ) (s : List ℕ) (b : ℕ) (l : List ℕ) → CheckTurnPromise k s b l (check_called (turn_of (kind_of k) s b (check_state_of l))).number
    (check_called (turn_of (kind_of k) s b (check_state_of l))).left (check_called (turn_of (kind_of k) s b (check_state_of l))).out
check_called_law k s b l = record { says = record { number_is = refl; out_is = refl }; state = refl }

-- a call on Ten: 3 steps from 1, 0, 0
abbrev pub first : Called
first = check_called (turn_of Kind.Data ten 3 fresh)

-- from the numbers that the first call left, with more than enough to spend
abbrev last : Called
last = check_called (turn_of Kind.Data ten 8190 (check_state_of first.left))

ten_chain : CheckCalls 0 ten (1 ∷ 0 ∷ 0 ∷ []) (3 + 8190) (steps first + steps last) last
ten_chain = more (check_called_law 0 ten 3 (1 ∷ 0 ∷ 0 ∷ [])) (one (check_called_law 0 ten 8190 first.left))

pub ten_end : stop_number last ≡ 1
unfolding turn_within length_fault in_range run step_of close_of nameless second_root accepted cell
ten_end = refl

pub ten_twenty : steps first + steps last ≡ 20
ten_twenty = numbers_two_n 0 ten ten_chain ten_end

ten_words : Words ten
unfolding small
ten_words = small_words ten refl

pub ten_tree_law : Yields Kind.Data ten
ten_tree_law = (numbers_accepted_exactly 0 ten ten_words ten_chain).sound ten_end

pub ten_whole : WholePromise Kind.Data ten (Ok tt)
ten_whole = numbers_accepted 0 ten ten_words ten_chain ten_end

pub ten_complete : stop_number last ≡ 1
ten_complete = (numbers_accepted_exactly 0 ten ten_words ten_chain).complete (omega arith) ten_tree_law

-- a call with nothing to spend leaves the numbers of a check on its way
pub ten_idle : (r : ℕ) (left out : List ℕ) → CheckTurnPromise 0 ten 0 (4 ∷ 3 ∷ 0 ∷ []) r left out → left ≡ 4 ∷ 3 ∷ 0 ∷ []
unfolding turn_within length_fault in_range run step_of close_of nameless second_root accepted cell
ten_idle r left out p = check_untouched 0 ten 0 (4 ∷ 3 ∷ 0 ∷ []) r left out refl p (ap (λ (o : List ℕ). get_or o 1 0) p.says.out_is)
