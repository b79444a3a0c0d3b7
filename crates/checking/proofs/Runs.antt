-- Runs of the check: a turn keeps the ranges, and the whole check is never stopped by its budget.
--   moves_ranges, moves_grow    steps keep the ranges, and each makes next + closed one more
--   turn_…                      which case of a turn holds under which facts
--   whole_stops                 the whole check ends or refuses
use Rattle.std.specs.Prelude.{Ok}
use Prim.Native.Nat.{ℕ, ◌+◌, ◌*◌, ◌/◌, ◌≤◌, ◌<◌}
use mathlib.Core.Path.{◌≡◌, refl, ap, sym}
use mathlib.Core.Logic.{◌⊎◌, inl, inr}
use mathlib.Core.List.{List}
use mathlib.Core.Bool.{Bool, true, false}
use lib.ListN.{length}
use native.Mathlib.Omega.{arith}
use native.Mathlib.Decide.{ℕ_discrete}
use borrow.Author.Tests.{eq-eqb, ne_eqb}
use Rattle.turns.specs.Turn.{Halt, Turned, Moves, stay, move, Outcome, ended, spent, faulty}
use Rattle.turns.specs.Turn as Turns
use Rattle.turns.specs.Laws.{turn_outcome}
use Rattle.trees.specs.Signature.{Entries, entries_of, width}
use Rattle.checking.specs.declared.CheckState.{CheckState}
use Rattle.checking.specs.Rule.{step_of, accepted, Ranges, in_range, fresh}
use Rattle.checking.specs.Turn.{run_of, turn_within, turn_of, refused_at}
use Rattle.terms.specs.Length.{length_fault}
use Rattle.checking.specs.Whole.{whole_of}
use Rattle.terms.specs.declared.Kind.{Kind}
use Rattle.terms.specs.declared.Stop.{Stop}
use Rattle.terms.specs.declared.Refusal.{Refusal}
use Rattle.terms.specs.Kinds.{most}
use Rattle.terms.specs.Stops.{Told, told, halt_told, verdict_told}
use Rattle.terms.proofs.Lengths.{length_sized}
use Rattle.checking.proofs.Cases.{range_yes, fresh_ranges}
use Rattle.checking.proofs.Inverse.{step_ranges, step_grows, step_silent}

module _ (any : Bool) (n : ℕ) (e : Entries) where
  pub moves_ranges : {k : ℕ} {st to : CheckState} → Ranges n st → Moves CheckState (accepted n) (step_of any n e) k st to → Ranges n to
  moves_ranges r stay = r
  moves_ranges r (move h q m) = moves_ranges (step_ranges any n e _ _ r q) m

  pub moves_grow : {k : ℕ} {st to : CheckState} → Moves CheckState (accepted n) (step_of any n e) k st to
      → to.next.0 + to.closed.0 ≡ st.next.0 + st.closed.0 + k
  moves_grow stay = omega arith
  moves_grow (move h q m) = omega (arith, moves_grow m, step_grows any n e _ _ q)

  -- from the fresh state there are never more than 2 * n steps
  stops : (b : ℕ) (t : Turned CheckState) → 1 ≤ n → 2 * n < b → Outcome CheckState (accepted n) (step_of any n e) b fresh t
      → (t.halt ≡ Halt.end) ⊎ ((number : ℕ) × (entry : ℕ) × (t.halt ≡ Halt.refusal number entry))
  stops b t s l (ended m h f) = inl refl
  stops b t s l (Turns.told m h f a) = absurd (step_silent any n e _ _ a)
  stops b t s l (faulty {number = u} {entry = v} m h f a) = inr (u, v, refl)
  stops b t s l (spent m f) =
      let r = moves_ranges (fresh_ranges n) m in
      absurd (omega (arith, moves_grow m, r.last, r.closed))

-- ---- a turn

module _ (any : Bool) (most : ℕ) (s : List ℕ) (b : ℕ) (st : CheckState) where
  pub turn_length : (length_fault most width (length s) ≡ 0 → ⊥) → turn_within any most s b st ≡ refused_at st (length_fault most width (length s))
  unfolding turn_within
  turn_length h = simp (ne_eqb _ _ h)

  module _ (fine : length_fault most width (length s) ≡ 0) where
    pub turn_range : in_range (length s / width) st ≡ false → turn_within any most s b st ≡ refused_at st 9
    unfolding turn_within
    turn_range h = simp (eq-eqb _ _ fine, h)

    pub turn_run : in_range (length s / width) st ≡ true → turn_within any most s b st ≡ run_of any (length s / width) (entries_of width s) b st
    unfolding turn_within
    turn_run h = simp (eq-eqb _ _ fine, h)

-- ---- the whole check

-- a check begun fresh, with one step more than the largest tree takes, ends or refuses
pub whole_stops : (any : Bool) (most : ℕ) (s : List ℕ)
    → ((turn_within any most s (2 * most + 1) fresh).halt ≡ Halt.end)
    ⊎ ((number : ℕ) × (entry : ℕ) × ((turn_within any most s (2 * most + 1) fresh).halt ≡ Halt.refusal number entry))
whole_stops any most s = go (ℕ_discrete (length_fault most width (length s)) 0)
  where
    n : ℕ
    n = length s / width

    Stopped : Type 0
    Stopped = ((turn_within any most s (2 * most + 1) fresh).halt ≡ Halt.end)
        ⊎ ((number : ℕ) × (entry : ℕ) × ((turn_within any most s (2 * most + 1) fresh).halt ≡ Halt.refusal number entry))

    go : Dec (length_fault most width (length s) ≡ 0) → Stopped
    go (no h) = inr (_, _, ap (λ (t : Turned CheckState). t.halt) (turn_length any most s (2 * most + 1) fresh h))
    go (yes h) =
        let z = length_sized most width (length s) h in
        rw (turn_run any most s (2 * most + 1) fresh h (range_yes n fresh (fresh_ranges n)))
        (stops any n (entries_of width s) (2 * most + 1) _ (omega (arith, z.some, z.even)) (omega (arith, z.small))
        (turn_outcome CheckState (accepted n) (step_of any n (entries_of width s)) (2 * most + 1) fresh))

-- ---- verdicts

-- a stop reason that is no refusal, of the whole check, is the end
pub stop_accepted : (x : Stop) (h : Halt) → told x ≡ halt_told h → (h ≡ Halt.end) ⊎ ((number : ℕ) × (entry : ℕ) × (h ≡ Halt.refusal number entry))
    → ((r : Refusal) → x ≡ Stop.Refused r → ⊥) → verdict_told (Ok tt) ≡ halt_told h
stop_accepted x h q (inl e) n = rw e
stop_accepted Stop.Answer h q (inr e) n = let w = rw e.2 at q in let z : ◌≡◌ {A = ℕ} 0 3 = ap (λ (t : Told). t.reason) w in absurd (omega arith)
stop_accepted Stop.End h q (inr e) n = let w = rw e.2 at q in let z : ◌≡◌ {A = ℕ} 1 3 = ap (λ (t : Told). t.reason) w in absurd (omega arith)
stop_accepted Stop.Budget h q (inr e) n = let w = rw e.2 at q in let z : ◌≡◌ {A = ℕ} 2 3 = ap (λ (t : Told). t.reason) w in absurd (omega arith)
stop_accepted (Stop.Refused r) h q (inr e) n = absurd (n r refl)

-- the whole check, by a budget that is told in another way
pub whole_told : (k : Kind) (s : List ℕ) (m : ℕ) → m ≡ most k → halt_told (turn_of k s (2 * m + 1) fresh).halt ≡ whole_of k s
whole_told k s m q = ap (λ (x : ℕ). halt_told (turn_of k s (2 * x + 1) fresh).halt) q

-- the same run, told in another way whether name 0 is allowed
pub run_any : (a c : Bool) (n : ℕ) (e : Entries) (b : ℕ) (st : CheckState) → a ≡ c → run_of c n e b st ≡ run_of a n e b st
run_any a c n e b st q = ap (λ (x : Bool). run_of x n e b st) (sym q)
