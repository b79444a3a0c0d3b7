-- The lines of a walk over a table that was prepared: a chain of public turns of the walk, each to an answer, the last one perhaps to the end.
--   answer_lines l    the lines of answers, in their order
--   Lines …          such a chain, and the lines that it comes to
--   walk_lines       there is one: no turn is stopped by its budget or refused
use Prim.Native.Nat.{ℕ, zero, suc, ◌+◌, ◌*◌, ◌≤◌, ◌<◌}
use Rattle.std.proofs.Math.Path.{◌≡◌, ap, sym}
use Rattle.std.proofs.Common.{◌∙◌, arith, add-zero, mul-le-mul}
use Rattle.std.specs.Prelude.{◌⊎◌}
use Rattle.std.proofs.Math.Logic.{inl, inr}
use mathlib.Core.List.{List, [], ◌∷◌, ◌++◌, append_assoc}
use Rattle.std.proofs.Math.ListN.{length, take}
use Rattle.turns.specs.Chains.{one, more}
use Rattle.trees.specs.Signature.{entries}
use Rattle.walks.specs.Chained.{told}
use Rattle.terms.specs.declared.Kind.{Kind}
use Rattle.terms.specs.declared.Stop.{Stop}
use Rattle.checked.specs.Wholly.{accepted_tree}
use Rattle.twig_turns.specs.Grounds.{Accepted}
use Rattle.walking.specs.declared.Walk.{Walk}
use Rattle.walking.specs.WalkTurn.{WalkPromise}
use Rattle.listed.specs.Questions as questions
use Rattle.listed.specs.Questions.{Prepared, WalkTurns, tell_of, OnTheWay, start, handed}
use Rattle.listed.specs.Exactly.{walk_within_law}
use Rattle.listed.specs.Cases.{walk_back, walk_handed}
use Rattle.lines.specs.Lines.{answer_line, end_line, more_line}
use Rattle.lines.specs.Question.{walk_budget, turn_of, lines_from}
use Rattle.lines.proofs.Turns.{steps_most, lines_answer, lines_end, lines_none}
use Rattle.terms.specs.declared.Turn.{Turn}

-- the lines of answers
unfoldable pub answer_lines : List (List ℕ) → List ℕ
answer_lines [] = []
answer_lines (z ∷ l) = answer_line z ++ answer_lines l

module _ (s tw table : List ℕ) where
  -- one turn more
  longer : {w : Walk} {B K : ℕ} {r : Turn Walk} → WalkTurns s tw table w B K r → (b : ℕ) (t : Turn Walk)
      → WalkPromise s tw table b r.state t → (C : ℕ) × (J : ℕ) × WalkTurns s tw table w C J t
  longer (one {b = a} {r = r} p) b t q = (a + b, r.steps + t.steps, more p (one q))
  longer (more {b = a} {r = r} p c) b t q = let x = longer c b t q in (a + x.0, r.steps + x.1, more p x.2)

  on_way : {w : Walk} → OnTheWay s tw table w → (b : ℕ) (t : Turn Walk) → WalkPromise s tw table b w t → OnTheWay s tw table t.state
  on_way start b t q = handed (one {b = b} q)
  on_way (handed c) b t q = handed (longer c b t q).2

  -- what the turns of a chain told
  abbrev pub answers : {w : Walk} {B K : ℕ} {r : Turn Walk} → WalkTurns s tw table w B K r → List (List ℕ)
  answers c = told (tell_of (entries tw)) c

  -- all answers that may be printed, and `more`
  pub record Stopped (left count steps : ℕ) (w : Walk) {B K : ℕ} {r : Turn Walk} (c : WalkTurns s tw table w B K r) : Type 0 where
    pub many : length (answers c) ≡ left
    pub lines : lines_from s tw table left count steps w ≡ answer_lines (answers c) ++ more_line

  -- fewer, and the end
  pub record Ended (left count steps : ℕ) (w : Walk) {B K : ℕ} {r : Turn Walk} (c : WalkTurns s tw table w B K r) : Type 0 where
    pub stop : r.stop ≡ Stop.End
    pub few : length (answers c) < left
    pub lines : lines_from s tw table left count steps w
        ≡ answer_lines (answers c) ++ end_line (count + length (answers c)) (steps + K)

  -- turns of the walk whose answers are the lines printed from w on: as many as may be printed and `more`, or fewer and `end`
  pub record Lines (left count steps : ℕ) (w : Walk) : Type 0 where
    pub budgets : ℕ
    pub took : ℕ
    pub last : Turn Walk
    pub turns : WalkTurns s tw table w budgets took last
    pub within : took ≤ left * walk_budget
    pub came : Stopped left count steps w turns ⊎ Ended left count steps w turns

  module _ (accepted : Accepted s tw) (prepared : Prepared s tw table) where
    -- "2×m×n+1": the budget is never spent
    budget_enough : 2 * (entries tw * entries s) + 1 ≤ walk_budget
    budget_enough =
        let n = (accepted_tree Kind.Data s accepted.data_tree).small in
        let m = (accepted_tree Kind.Twig tw accepted.twig).small in
        small (entries tw) (entries s) m n
      where
        small : (m n : ℕ) → m ≤ 16 → n ≤ 4096 → 2 * (m * n) + 1 ≤ walk_budget
        small m n h l = let k : m * n ≤ 16 * 4096 = mul-le-mul h l in omega arith

    module _ (count steps : ℕ) (w : Walk) (way : OnTheWay s tw table w) where
      abbrev r : Turn Walk
      r = walk_back (turn_of s tw table w)

      p : WalkPromise s tw table walk_budget w r
      p = walk_handed (turn_of s tw table w)

      arrived : (r.stop ≡ Stop.Answer) ⊎ (r.stop ≡ Stop.End)
      arrived = (walk_within_law s tw accepted table prepared way (one {b = walk_budget} p) tt).arrives budget_enough

      -- no turn takes more than its budget
      afforded : r.steps ≤ walk_budget
      afforded = steps_most s tw table walk_budget w

      -- the turn came to the end
      at_end_law : (left : ℕ) → r.stop ≡ Stop.End → Lines (suc left) count steps w
      unfolding told answer_lines
      at_end_law left q =
          let n : answers (one {b = walk_budget} p) ≡ [] = ap (λ (x : Stop). questions.told x (take (entries tw) r.state.images)) q in
          record {
            budgets = walk_budget;
            took = r.steps;
            last = r;
            turns = one {b = walk_budget} p;
            within = omega (arith, afforded);
            came = inr (record {
              stop = q;
              few = rw n (omega arith);
              lines = rw n (lines_end s tw table left count steps w r p (λ a. let e = sym a ∙ q in let z : ◌≡◌ {A = ℕ} 0 1 = cc in omega arith)
                  ∙ ap (λ (k : ℕ). end_line k (steps + r.steps)) (sym (add-zero count)));
            });
          }

      -- the turn came to an answer, the last that may be printed
      at_last : r.stop ≡ Stop.Answer → Lines 1 count steps w
      unfolding told answer_lines
      at_last q =
          let n : answers (one {b = walk_budget} p) ≡ take (entries tw) r.state.images ∷ []
          = ap (λ (x : Stop). questions.told x (take (entries tw) r.state.images)) q in
          let z = take (entries tw) r.state.images in
          record {
            budgets = walk_budget;
            took = r.steps;
            last = r;
            turns = one {b = walk_budget} p;
            within = omega (arith, afforded);
            came = inl (record {
              many = ap length n;
              lines = lines_answer s tw table 0 count steps w r p q
                  ∙ ap (λ (l : List ℕ). answer_line z ++ l) (lines_none s tw table (count + 1) (steps + r.steps) r.state)
                  ∙ sym (append_assoc (answer_line z) [] more_line)
                  ∙ ap (λ (l : List (List ℕ)). answer_lines l ++ more_line) (sym n);
            });
          }

      -- and to one before others
      onward : (left : ℕ) → r.stop ≡ Stop.Answer → Lines left (count + 1) (steps + r.steps) r.state → Lines (suc left) count steps w
      unfolding told answer_lines
      onward left q x = record {
        budgets = walk_budget + x.budgets;
        took = r.steps + x.took;
        last = x.last;
        turns = more {b = walk_budget} {r = r} p x.turns;
        within = omega (arith, afforded, x.within);
        came = by x.came;
      }
        where
          z : List ℕ
          z = take (entries tw) r.state.images

          n : answers (more {b = walk_budget} {r = r} p x.turns) ≡ z ∷ answers x.turns
          n = ap (λ (y : Stop). questions.told y z ++ answers x.turns) q

          first : (l : List ℕ) → lines_from s tw table left (count + 1) (steps + r.steps) r.state ≡ answer_lines (answers x.turns) ++ l
              → lines_from s tw table (suc left) count steps w ≡ answer_lines (answers (more {b = walk_budget} {r = r} p x.turns)) ++ l
          first l e =
              lines_answer s tw table left count steps w r p q
              ∙ ap (λ (y : List ℕ). answer_line z ++ y) e
              ∙ sym (append_assoc (answer_line z) (answer_lines (answers x.turns)) l)
              ∙ ap (λ (y : List (List ℕ)). answer_lines y ++ l) (sym n)

          by : Stopped left (count + 1) (steps + r.steps) r.state x.turns ⊎ Ended left (count + 1) (steps + r.steps) r.state x.turns
              → Stopped (suc left) count steps w (more {b = walk_budget} {r = r} p x.turns)
              ⊎ Ended (suc left) count steps w (more {b = walk_budget} {r = r} p x.turns)
          by (inl y) = inl (record { many = ap length n ∙ ap suc y.many; lines = first more_line y.lines })
          by (inr y) =
              let k : length (answers (more {b = walk_budget} {r = r} p x.turns)) ≡ suc (length (answers x.turns)) = ap length n in
              let a : count + 1 + length (answers x.turns) ≡ count + length (answers (more {b = walk_budget} {r = r} p x.turns)) = omega (arith, k) in
              let b : steps + r.steps + x.took ≡ steps + (r.steps + x.took) = omega arith in
              inr (record {
                stop = y.stop;
                few = omega (arith, k, y.few);
                lines = first (end_line (count + 1 + length (answers x.turns)) (steps + r.steps + x.took)) y.lines
                    ∙ ap (λ (v : ℕ). answer_lines (answers (more {b = walk_budget} {r = r} p x.turns)) ++ end_line v (steps + r.steps + x.took)) a
                    ∙ ap (λ (v : ℕ). answer_lines (answers (more {b = walk_budget} {r = r} p x.turns))
                    ++ end_line (count + length (answers (more {b = walk_budget} {r = r} p x.turns))) v) b;
              })

    -- from any walk on the way
    pub walk_lines : (left count steps : ℕ) (w : Walk) → OnTheWay s tw table w → Lines (suc left) count steps w
    walk_lines zero count steps w i = by (arrived count steps w i)
      where
        by : ((walk_back (turn_of s tw table w)).stop ≡ Stop.Answer) ⊎ ((walk_back (turn_of s tw table w)).stop ≡ Stop.End) → Lines 1 count steps w
        by (inl q) = at_last count steps w i q
        by (inr q) = at_end_law count steps w i 0 q
    walk_lines (suc left) count steps w i =
        by (arrived count steps w i)
        (λ x y. walk_lines left (count + 1) (steps + (walk_back (turn_of s tw table w)).steps) x y)
      where
        by : ((walk_back (turn_of s tw table w)).stop ≡ Stop.Answer) ⊎ ((walk_back (turn_of s tw table w)).stop ≡ Stop.End)
            → ((x : Walk) → OnTheWay s tw table x → Lines (suc left) (count + 1) (steps + (walk_back (turn_of s tw table w)).steps) x)
            → Lines (suc (suc left)) count steps w
        by (inl q) ih =
            onward count steps w i (suc left) q
            (ih (walk_back (turn_of s tw table w)).state
            (on_way i walk_budget (walk_back (turn_of s tw table w)) (walk_handed (turn_of s tw table w))))
        by (inr q) ih = at_end_law count steps w i (suc left) q
