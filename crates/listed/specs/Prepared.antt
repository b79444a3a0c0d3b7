-- Preparing an accepted signature for an accepted twig: n steps from the start call to the end, and then can says where each part of the
-- twig fits.
--   PreparedRight    the table that preparing leaves
--   Done, Short      what a chain of public turns comes to: the end, or the budget
--   grounds_right    the same as prepare_n, from the facts of both trees
--   prepare_n        any chain of public turns that reports the end took n steps in all, and left such a table
--   prepare_ends     one that may spend n steps reports the end; one that may spend fewer spends them all, and none is refused
use Rattle.std.specs.Prelude.{ℕ, ◌*◌, ◌≤◌, ◌<◌, ◌≡◌, refl, ◌⊎◌, Bool, true, List, [], eqb, length, Ok}
use Rattle.std.proofs.Common.{ap, ◌∙◌, sym, subst, inl, inr, arith, eq-eqb, le-leb}
use Rattle.turns.specs.Pick.{pick}
use Rattle.turns.specs.Turn.{Turned, turn}
use Rattle.turns.specs.Chains.{Reached, Underway, chain_ends}
use Rattle.trees.specs.Signature.{Entries, entries_of, width, entries}
use Rattle.terms.specs.declared.Stop.{Stop}
use Rattle.checked.specs.Apart.{stop_of, told_halt}
use Rattle.twig_turns.specs.Grounds.{Accepted, Grounds, accepted_grounds}
use Rattle.preparing.specs.declared.Prep.{Prep}
use Rattle.preparing.specs.Preparing.{Preparing, prepared, prep_step}
use Rattle.preparing.specs.PrepTurn.{cleared, Fresh, start_fault, StartPromise, prep_run_of, prep_turn_of, prep_in_range, PrepHanded, PrepPromise}
use Rattle.listed.specs.Tables.{clear_length}
use Rattle.listed.specs.Rightly.{Right, clear_right, right_fits}
use Rattle.listed.specs.Ruling.{Finished, prep_moves, Ready, ready_kept, fault_room}
use Rattle.listed.specs.Questions.{Lent, PrepBack, lend, reading, PrepTurns, TableSays, NoBitsAbove}
use Rattle.listed.specs.Given.{begun_runs}
use Rattle.listed.specs.Public.{Back, turn_kept, Ran, chain_ran}

-- ---- what is left

-- what preparing leaves of an accepted signature and twig
pub record PreparedRight (s tw left : List ℕ) : Type 0 where
  pub room : 2 * entries s ≤ length left
  pub says : TableSays s tw left
  pub right : Right (entries s) (entries tw) (entries_of width s) (entries_of width tw) left 0

-- n steps in all, and the table is right
pub record Done (s tw : List ℕ) (B K : ℕ) (r : PrepBack) : Type 0 where
  pub enough : entries s ≤ B
  pub steps : K ≡ entries s
  pub stop : r.turn.stop ≡ Stop.End
  pub table : PreparedRight s tw r.left

-- or the budgets were less in all, and were all spent
pub record Short (s tw : List ℕ) (B K : ℕ) (r : PrepBack) : Type 0 where
  pub fewer : B < entries s
  pub steps : K ≡ B
  pub stop : r.turn.stop ≡ Stop.Budget

-- ---- chains of public turns

module _ (s tw : List ℕ) where
  abbrev n : ℕ
  n = entries s

  abbrev m : ℕ
  m = entries tw

  abbrev e : Entries
  e = entries_of width s

  abbrev w : Entries
  w = entries_of width tw

  module _ (g : Grounds s tw) where
    abbrev Is : PrepBack → Turned Preparing → Type 0
    Is r t = Back lend (λ x. x.turn.steps) (λ x. x.turn.stop) reading r t

    prep_runs : (b : ℕ) (st : Lent) (r : PrepBack) → Ready n (reading st) → PrepPromise s tw st.table b st.state r.turn r.left
        → Is r (turn Preparing prepared (prep_step e w m) b (reading st))
    prep_runs b st r i h =
        let q : prep_turn_of s tw b (reading st) ≡ prep_run_of e w m b (reading st)
        = begun_runs s tw g.given (length st.table) (reading st) (prep_in_range n (reading st)) (prep_run_of e w m b (reading st))
        (le-leb st.state.next.0 n i.next_high) i.room in
        let k : PrepHanded r.turn r.left (prep_run_of e w m b (reading st)) = subst (PrepHanded r.turn r.left) q h in
        let t = prep_run_of e w m b (reading st) in
        record {
          state_same = λ j. record { next = (k.state j).next.0; table = k.leaves j };
          steps_same = k.steps;
          stop_same = told_halt r.turn.stop t.halt k.stop;
        }

    ready_stays : (b : ℕ) (p : Preparing) → Ready n p → Ready n (turn Preparing prepared (prep_step e w m) b p).state
    ready_stays = turn_kept prepared (prep_step e w m) (Ready n) (ready_kept n m e w)

    ran : {st : Lent} {B K : ℕ} {r : PrepBack} (c : PrepTurns s tw st B K r) (p : Preparing) → reading st ≡ p → Ready n p
        → Ran (λ b from t. PrepPromise s tw from.table b from.state t.turn t.left) lend (λ t. t.turn.steps)
        (λ x. x.turn.stop)
        reading prepared (prep_step e w m) (Ready n) ready_stays prep_runs {A = ℕ} (λ x. []) (λ x. []) (λ r t i x. refl) p c
    ran c p q i =
        chain_ran (λ b from t. PrepPromise s tw from.table b from.state t.turn t.left) lend (λ t. t.turn.steps)
        (λ x. x.turn.stop)
        reading prepared (prep_step e w m) (Ready n) ready_stays prep_runs {A = ℕ} (λ x. []) (λ x. []) (λ r t i x. refl) c p q i

    -- what a start call that worked left
    record Begun (lent left : List ℕ) (p : Prep) : Type 0 where
      next_is : p.next.0 ≡ n
      table_is : left ≡ cleared (2 * n) lent
      room : 2 * n ≤ length lent

    start_left : (lent left : List ℕ) (p : Prep) → StartPromise n lent (Ok p) left → Begun lent left p
    start_left lent left p h =
        let f : start_fault n (length lent) ≡ 0 = ap (λ (x : Fresh). x.number) (sym h.answer) in
        let q : eqb (start_fault n (length lent)) 0 ≡ true = eq-eqb _ _ f in
        record {
          next_is = ap (λ (x : Fresh). x.next) h.answer ∙ ap (λ (b : Bool). pick b n 0) q;
          table_is = h.leaves ∙ ap (λ (b : Bool). pick b (cleared (2 * n) lent) lent) q;
          room = fault_room n (length lent) f;
        }

    module _ (lent left : List ℕ) (p : Prep) (start : StartPromise n lent (Ok p) left) where
      grounds_ends : {B K : ℕ} {r : PrepBack} → PrepTurns s tw (record { state = p; table = left }) B K r
          → Done s tw B K r ⊎ Short s tw B K r
      grounds_ends {B} {K} {r} c = by (chain_ends Preparing prepared (prep_step e w m) x.chain n
          (record { next = 0; table = f.left }) refl f.moves)
        where
          b : Begun lent left p
          b = start_left lent left p start

          fresh : Preparing
          fresh = record { next = n; table = cleared (2 * n) lent }

          long : length (cleared (2 * n) lent) ≡ length lent
          long = clear_length (2 * n) lent

          f : Finished n m e w g.tree n (cleared (2 * n) lent)
          f = prep_moves n m e w g.tree n (cleared (2 * n) lent) (omega arith) (omega (arith, long, b.room)) (clear_right n m e w lent)

          x : Ran (λ b from t. PrepPromise s tw from.table b from.state t.turn t.left) lend (λ t. t.turn.steps)
              (λ x. x.turn.stop) reading prepared (prep_step e w m) (Ready n) ready_stays prep_runs {A = ℕ} (λ x. []) (λ x. [])
              (λ r t i x. refl) fresh c
          x = ran c fresh (λ j. record { next = b.next_is j; table = b.table_is j })
              (record { next_high = omega arith; room = omega (arith, long, b.room) })

          by : Reached Preparing prepared (prep_step e w m) n B x.count (record { next = 0; table = f.left }) x.last
              ⊎ Underway Preparing prepared (prep_step e w m) n B x.count (record { next = 0; table = f.left }) x.last
              → Done s tw B K r ⊎ Short s tw B K r
          by (inl q) =
              let z : r.left ≡ f.left = ap (λ (y : Preparing). y.table) (x.back.state_same ∙ q.state) in
              inl (record {
                enough = q.enough;
                steps = x.count_same ∙ q.steps;
                stop = x.back.stop_same ∙ ap stop_of q.halt;
                table = rw z (record {
                  room = omega (arith, f.long, long, b.room);
                  says = right_fits n m e w g.tree g.twig f.left f.right;
                  right = f.right;
                });
              })
          by (inr q) = inr (record { fewer = q.short; steps = x.count_same ∙ q.steps; stop = x.back.stop_same ∙ ap stop_of q.halt })

      pub grounds_right : {B K : ℕ} {r : PrepBack} → PrepTurns s tw (record { state = p; table = left }) B K r → r.turn.stop ≡ Stop.End
          → PreparedRight s tw r.left
      grounds_right {B} {K} {r} c h = by (grounds_ends c)
        where
          by : Done s tw B K r ⊎ Short s tw B K r → PreparedRight s tw r.left
          by (inl x) = x.table
          by (inr x) = let q = sym h ∙ x.stop in let z : ◌≡◌ {A = ℕ} 0 1 = cc in absurd (omega arith)

-- ---- the theorems

module _ (s tw : List ℕ) (accepted : Accepted s tw) (lent left : List ℕ) (p : Prep)
    (start : StartPromise (entries s) lent (Ok p) left) where
  -- with n steps to spend in all, the end; with fewer, the budget, after all of them; never a refusal
  pub prepare_ends : {B K : ℕ} {r : PrepBack} → PrepTurns s tw (record { state = p; table = left }) B K r
      → Done s tw B K r ⊎ Short s tw B K r
  prepare_ends c = grounds_ends s tw (accepted_grounds s tw accepted) lent left p start c

  -- demand 3: "the steps add up to n"; demand 2: "that the table is prepared is a conclusion, never a premise"
  pub prepare_n : {B K : ℕ} {r : PrepBack} → PrepTurns s tw (record { state = p; table = left }) B K r → r.turn.stop ≡ Stop.End
      → (K ≡ entries s) × TableSays s tw r.left
  prepare_n {B} {K} {r} c h = by (prepare_ends c)
    where
      by : Done s tw B K r ⊎ Short s tw B K r → (K ≡ entries s) × TableSays s tw r.left
      by (inl x) = (x.steps, x.table.says)
      by (inr x) = let q = sym h ∙ x.stop in let z : ◌≡◌ {A = ℕ} 0 1 = cc in absurd (omega arith)

  -- and no entry of it has a bit above m
  pub prepare_bits : {B K : ℕ} {r : PrepBack} → PrepTurns s tw (record { state = p; table = left }) B K r → r.turn.stop ≡ Stop.End
      → NoBitsAbove s tw r.left
  prepare_bits c h q t a b d = (grounds_right s tw (accepted_grounds s tw accepted) lent left p start c h).right.can_above t q (omega arith) d a
