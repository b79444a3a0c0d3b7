-- A rule that mirrors another: where each state of the one stands for a state of the other and their steps agree, so do their turns and
-- chains. The walk's written state, with its room of images, is such a mirror of the walk here.
--   as_next, as_turned   what a step comes to and what a turn hands back, read in the other rule's states
--   Mirrors            finished and step agree on the states for which Inv holds, and steps keep Inv
--   turn_mirrored      then a turn of the one is a turn of the other
--   turn_inv           and hands back a state for which Inv holds
--   chain_mirrored     and a chain of turns of the one is a chain of the other that tells the same
use Rattle.std.specs.Prelude.{ℕ, zero, suc, ◌+◌, ◌≡◌, Bool, true, false}
use Rattle.std.proofs.Math.Path.{refl, ap, ap₂}
use Rattle.std.proofs.Common.{◌∙◌, sym, subst, arith}
use mathlib.Core.List.{List, ◌++◌}
use Rattle.turns.specs.Turn.{Next, moved, answered, refused, Turned, run, turn, Step, on, Steps, none, then}
use Rattle.turns.specs.Laws.{run_end, run_budget, run_refused, run_answer, run_moved}
use Rattle.turns.specs.Counts.{counted}
use Rattle.turns.specs.Chains.{one, more, Turns}
use Rattle.walks.specs.Chained.{told, AllButLast}

module _ {S T : Type 0} (show : S → T) where
  -- what a step comes to, read in the other rule's states
  abbrev pub as_next : Next S → Next T
  as_next (moved to) = moved (show to)
  as_next (answered to) = answered (show to)
  as_next (refused number entry) = refused number entry

  -- what a turn hands back, read in the other rule's states
  abbrev pub as_turned : Turned S → Turned T
  as_turned t = record { state = show t.state; steps = t.steps; halt = t.halt }

module _ {S T : Type 0} (show : S → T) (Inv : S → Type 0) (done : S → Bool) (step : S → Next S) (done' : T → Bool)
    (step' : T → Next T) where
  -- where Inv holds, the two rules agree on what is finished and on each step, and steps keep Inv
  pub record Mirrors : Type 0 where
    pub done_same : (s : S) → Inv s → done' (show s) ≡ done s
    pub step_same : (s : S) → Inv s → done s ≡ false → step' (show s) ≡ as_next show (step s)
    pub keeps : (s to : S) → Inv s → Step S done step s to → Inv to

  module _ (mirror : Mirrors) where
    run_mirrored : (b k : ℕ) (s : S) → Inv s → run T done' step' b k (show s) ≡ as_turned show (run S done step b k s)
    run_mirrored zero k s i = by (done s) refl
      where
        by : (a : Bool) → done s ≡ a → run T done' step' 0 k (show s) ≡ as_turned show (run S done step 0 k s)
        by true h = run_end T done' step' 0 k (show s) (mirror.done_same s i ∙ h) ∙ ap (as_turned show) (sym (run_end S done step 0 k s h))
        by false h =
            run_budget T done' step' k (show s) (mirror.done_same s i ∙ h) 0 refl
            ∙ ap (as_turned show) (sym (run_budget S done step k s h 0 refl))
    run_mirrored (suc b) k s i = by (done s) (step s) refl refl (λ to. run_mirrored b (k + 1) to)
      where
        by : (a : Bool) (x : Next S) → done s ≡ a → step s ≡ x
            → ((to : S) → Inv to → run T done' step' b (k + 1) (show to) ≡ as_turned show (run S done step b (k + 1) to))
            → run T done' step' (suc b) k (show s) ≡ as_turned show (run S done step (suc b) k s)
        by true x h e ih =
            run_end T done' step' (suc b) k (show s) (mirror.done_same s i ∙ h)
            ∙ ap (as_turned show) (sym (run_end S done step (suc b) k s h))
        by false (moved to) h e ih =
            run_moved T done' step' k (show s) (mirror.done_same s i ∙ h) b (show to) (mirror.step_same s i h ∙ ap (as_next show) e)
            ∙ ih to (mirror.keeps s to i (on h e))
            ∙ ap (as_turned show) (sym (run_moved S done step k s h b to e))
        by false (answered to) h e ih =
            run_answer T done' step' k (show s) (mirror.done_same s i ∙ h) (suc b) (show to) (omega arith)
            (mirror.step_same s i h ∙ ap (as_next show) e)
            ∙ ap (as_turned show) (sym (run_answer S done step k s h (suc b) to (omega arith) e))
        by false (refused u v) h e ih =
            run_refused T done' step' k (show s) (mirror.done_same s i ∙ h) (suc b) u v (omega arith)
            (mirror.step_same s i h ∙ ap (as_next show) e)
            ∙ ap (as_turned show) (sym (run_refused S done step k s h (suc b) u v (omega arith) e))

    -- a turn of the one is a turn of the other
    pub turn_mirrored : (b : ℕ) (s : S) → Inv s → turn T done' step' b (show s) ≡ as_turned show (turn S done step b s)
    turn_mirrored b s i = run_mirrored b 0 s i

    steps_inv : {k : ℕ} {s to : S} → Steps S done step k s to → Inv s → Inv to
    steps_inv none i = i
    steps_inv (then {st = s} {mid = mid} x r) i = steps_inv r (mirror.keeps s mid i x)

    -- a turn hands back a state for which Inv holds
    pub turn_inv : (b : ℕ) (s : S) → Inv s → Inv (turn S done step b s).state
    turn_inv b s i = steps_inv (counted S done step b s) i

    -- a chain of turns of the one is a chain of the other with the same budgets and the same count, and tells the same
    module _ {A : Type 0} (tell : Turned T → List A) (Q : Turned T → Type 0) where
      -- the chain of the one rule that a chain of the other is
      pub record Mirrored (s : S) {x : T} {B K : ℕ} {t : Turned T} (c : Turns T done' step' x B K t) : Type 0 where
        pub last : Turned S
        pub count : ℕ
        pub chain : Turns S done step s B count last
        pub last_same : t ≡ as_turned show last
        pub count_same : K ≡ count
        pub told_same : told tell c ≡ told (λ u. tell (as_turned show u)) chain
        pub each_same : AllButLast Q c → AllButLast (λ u. Q (as_turned show u)) chain

      pub chain_mirrored : {x : T} {B K : ℕ} {t : Turned T} (c : Turns T done' step' x B K t) (s : S) → x ≡ show s → Inv s → Mirrored s c
      unfolding told
      chain_mirrored (one {b = b} {r = r} e) s q i =
          let h : r ≡ as_turned show (turn S done step b s) = e ∙ ap (turn T done' step' b) q ∙ turn_mirrored b s i in
          record {
            last = turn S done step b s;
            count = (turn S done step b s).steps;
            chain = one refl;
            last_same = h;
            count_same = ap (λ (t : Turned T). t.steps) h;
            told_same = ap tell h;
            each_same = λ k. tt;
          }
      chain_mirrored (more {b = b} {B = B} {K = K} {r = r} e c) s q i =
          let u = turn S done step b s in
          let h : r ≡ as_turned show u = e ∙ ap (turn T done' step' b) q ∙ turn_mirrored b s i in
          let m = chain_mirrored c u.state (ap (λ (t : Turned T). t.state) h) (turn_inv b s i) in
          record {
            last = m.last;
            count = u.steps + m.count;
            chain = more refl m.chain;
            last_same = m.last_same;
            count_same = ap₂ (λ (j k : ℕ). j + k) (ap (λ (t : Turned T). t.steps) h) m.count_same;
            told_same = ap₂ (λ (a l : List A). a ++ l) (ap tell h) m.told_same;
            each_same = λ k. (subst Q h k.0, m.each_same k.1);
          }
