-- The theorems of the ordered question, over any chain of public turns from its fresh state, on an accepted signature and twig, whatever the room held at first.
--   Came s tw B K r    what the chain came to: yes, no, or all of its budgets spent
--   grounds, ending    what an accepted signature and twig give, and how the question ends by its rule
--   ran, arrives       the chain by the rule, and whether it came to that end
--   fits_comes         it came to one of the three
--   fits_exactly       yes exactly if an ordered answer exists, no exactly if none does, and with m×n steps to spend one of the two
--   fits_within        at most m×n steps; stopped by the budget, all of it was spent, and it was less than m×n
--   fits_count         at yes m×n − t + 1 steps were taken, at no (m − q + 1)×n
--   yes_entry          at yes the entry is the greatest that the root of an ordered answer stands at
use Rattle.std.specs.Prelude.{ℕ, zero, suc, ◌+◌, ◌-◌, ◌*◌, ◌≤◌, ◌<◌, ◌≡◌, refl, ◌⊎◌, List, length}
use Rattle.std.proofs.Common.{ap, sym, ◌∙◌, subst, inl, inr, arith, zero-mul, eqb-true}
use Rattle.std.proofs.lemmas.Bool.{false≢true}
use Rattle.turns.specs.Turn.{Halt}
use Rattle.turns.specs.Chains.{Reached, Underway, chain_ends}
use Rattle.trees.specs.Signature.{entries_of, width, entries}
use Rattle.terms.specs.declared.Stop.{Stop}
use Rattle.terms.specs.declared.Refusal.{Refusal}
use Rattle.checked.specs.Apart.{stop_of, told_halt}
use Rattle.twig_turns.specs.Grounds.{Accepted, Grounds, accepted_grounds}
use Rattle.fits_rows.specs.declared.Stage.{Stage}
use Rattle.fits_rows.specs.Fitting.{Fitting, at, told, told_by, stage_fits}
use Rattle.fits_rows.specs.FittingLaws.{Ranged, left_by, left_of, steps_within}
use Rattle.fits.specs.declared.Fit.{Fit}
use Rattle.fits.specs.Stages.{end_at, fit_halt}
use Rattle.fits.specs.FitTurn.{room_for}
use Rattle.fits_laws.specs.Verdicts.{Latest}
use Rattle.fits_laws.specs.Runs.{Meant, Ending, fits_rule}
use Rattle.fits_laws.specs.Questions.{FitBack, lend, reading, begins, FitTurns, Fits, FitsNot}
use Rattle.fits_laws.specs.Public.{step, Good, count_exact}
use Rattle.fits_laws.specs.Chained.{Ran, chain_ran, chain_states}

-- ---- what a chain comes to

-- an answer, at yes: an ordered answer has its root at this entry, and none has it later
pub record SaysYes (s tw : List ℕ) (r : FitBack) : Type 0 where
  pub stop : r.turn.stop ≡ Stop.Answer
  pub stage : r.turn.state.stage ≡ Stage.Yes
  pub latest : Latest (entries s) (entries_of width s) (entries tw) (entries_of width tw) r.turn.state.entry.0

-- the end, at no: there is no ordered answer
pub record SaysNo (s tw : List ℕ) (r : FitBack) : Type 0 where
  pub stop : r.turn.stop ≡ Stop.End
  pub stage : r.turn.state.stage ≡ Stage.No
  pub none : FitsNot s tw

-- or the budgets were fewer than m×n steps in all, and were all spent
pub record Asks (s tw : List ℕ) (B K : ℕ) (r : FitBack) : Type 0 where
  pub stop : r.turn.stop ≡ Stop.Budget
  pub spent : K ≡ B
  pub fewer : B < room_for s tw

pub data Came (s tw : List ℕ) (B K : ℕ) (r : FitBack) : Type 0 where
  yes : SaysYes s tw r → Came s tw B K r
  no : SaysNo s tw r → Came s tw B K r
  asks : Asks s tw B K r → Came s tw B K r

module _ (s tw : List ℕ) (accepted : Accepted s tw) where
  abbrev n : ℕ
  n = entries s

  abbrev m : ℕ
  m = entries tw

  pub grounds : Grounds s tw
  grounds = accepted_grounds s tw accepted

  -- the question from its fresh state comes to its end, and is right
  pub ending : (room : List ℕ) → room_for s tw ≤ length room
      → Ending n (entries_of width s) m (entries_of width tw) (m * n) (at m n Stage.Asking room)
  ending room long = fits_rule n (entries_of width s) m (entries_of width tw) grounds.tree grounds.twig room long

  fresh_good : (room : List ℕ) → room_for s tw ≤ length room → Good s tw (reading (begins s tw room))
  fresh_good room long = record {
    given = grounds.given;
    in_range = record { node_low = grounds.twig.some; node_high = omega arith; entry_low = grounds.tree.some; entry_high = omega arith; stage_fits_law = refl };
    room = long;
  }

  module _ (room : List ℕ) (long : room_for s tw ≤ length room) {B K : ℕ} {r : FitBack} (c : FitTurns s tw (begins s tw room) B K r) where
    abbrev x : Ending n (entries_of width s) m (entries_of width tw) (m * n) (at m n Stage.Asking room)
    x = ending room long

    pub ran : Ran s tw (reading (begins s tw room)) B K r
    ran = chain_ran s tw c (fresh_good room long)

    pub arrives : Reached Fitting told (step s tw) x.count B K x.fin ran.last ⊎ Underway Fitting told (step s tw) x.count B K x.fin ran.last
    arrives = chain_ends Fitting told (step s tw) ran.chain x.count x.fin x.ends x.moves

    -- handed back at a state that was told
    reached : Reached Fitting told (step s tw) x.count B K x.fin ran.last → Came s tw B K r
    reached o = by x.fin.stage refl x.right
      where
        state : r.turn.state.stage ≡ x.fin.stage
        state = ap (λ (f : Fit). f.stage) ran.is.state ∙ ap (λ (f : Fitting). f.stage) o.state

        entry : r.turn.state.entry.0 ≡ x.fin.entry
        entry = ap (λ (f : Fit). f.entry.0) ran.is.state ∙ ap (λ (f : Fitting). f.entry) o.state

        stop : (g : Stage) → x.fin.stage ≡ g → r.turn.stop ≡ stop_of (end_at g)
        stop g z =
            told_halt r.turn.stop (fit_halt ran.last.state.stage ran.last.halt) ran.is.stop
            ∙ ap (λ (h : Halt). stop_of (fit_halt ran.last.state.stage h)) o.halt
            ∙ ap (λ (f : Fitting). stop_of (end_at f.stage)) o.state ∙ ap (λ (i : Stage). stop_of (end_at i)) z

        by : (g : Stage) → x.fin.stage ≡ g → Meant n (entries_of width s) m (entries_of width tw) x.fin.stage x.fin.entry → Came s tw B K r
        by Stage.Yes z means = yes (record {
          stop = stop Stage.Yes z;
          stage = state ∙ z;
          latest = subst (Latest n (entries_of width s) m (entries_of width tw)) (sym entry)
              (subst (λ (g : Stage). Meant n (entries_of width s) m (entries_of width tw) g x.fin.entry) z means);
        })
        by Stage.No z means = no (record {
          stop = stop Stage.No z;
          stage = state ∙ z;
          none = subst (λ (g : Stage). Meant n (entries_of width s) m (entries_of width tw) g x.fin.entry) z means;
        })
        by Stage.Asking z means = absurd (false≢true (sym (ap told_by z) ∙ x.ends))

    underway : Underway Fitting told (step s tw) x.count B K x.fin ran.last → Came s tw B K r
    underway o = asks (record {
      stop = told_halt r.turn.stop (fit_halt ran.last.state.stage ran.last.halt) ran.is.stop
          ∙ ap (λ (h : Halt). stop_of (fit_halt ran.last.state.stage h)) o.halt;
      spent = o.steps;
      fewer = omega (arith, o.short, x.few);
    })

    pub fits_comes : Came s tw B K r
    fits_comes = by arrives
      where
        by : Reached Fitting told (step s tw) x.count B K x.fin ran.last ⊎ Underway Fitting told (step s tw) x.count B K x.fin ran.last
            → Came s tw B K r
        by (inl o) = reached o
        by (inr o) = underway o

    -- yes and no are right, neither is given in the other's place, and m×n steps are enough for one of them
    pub record FitsExactly : Type 0 where
      pub yes_sound : r.turn.stop ≡ Stop.Answer → Fits s tw
      pub no_sound : r.turn.stop ≡ Stop.End → FitsNot s tw
      pub yes_complete : room_for s tw ≤ B → Fits s tw → r.turn.stop ≡ Stop.Answer
      pub no_complete : room_for s tw ≤ B → FitsNot s tw → r.turn.stop ≡ Stop.End
      pub unrefused : (x : Refusal) → r.turn.stop ≡ Stop.Refused x → ⊥

    -- "Yes is given exactly if an ordered answer exists."
    pub fits_exactly : FitsExactly
    fits_exactly = by fits_comes
      where
        apart : {x y : Stop} → r.turn.stop ≡ x → r.turn.stop ≡ y → x ≡ y
        apart a b = sym a ∙ b

        by : Came s tw B K r → FitsExactly
        by (yes o) = record {
          yes_sound = λ e. (o.latest.ranks, o.latest.answer);
          no_sound = λ e. let q = apart o.stop e in let z : ◌≡◌ {A = ℕ} 0 1 = cc in absurd (omega arith);
          yes_complete = λ b f. o.stop;
          no_complete = λ b f. absurd (f o.latest.ranks o.latest.answer);
          unrefused = λ x e. let q = apart o.stop e in let z : ◌≡◌ {A = ℕ} 0 1 = cc in omega arith;
        }
        by (no o) = record {
          yes_sound = λ e. let q = apart o.stop e in let z : ◌≡◌ {A = ℕ} 0 1 = cc in absurd (omega arith);
          no_sound = λ e. o.none;
          yes_complete = λ b f. absurd (o.none f.0 f.1);
          no_complete = λ b f. o.stop;
          unrefused = λ x e. let q = apart o.stop e in let z : ◌≡◌ {A = ℕ} 0 1 = cc in omega arith;
        }
        by (asks o) = record {
          yes_sound = λ e. let q = apart o.stop e in let z : ◌≡◌ {A = ℕ} 0 1 = cc in absurd (omega arith);
          no_sound = λ e. let q = apart o.stop e in let z : ◌≡◌ {A = ℕ} 0 1 = cc in absurd (omega arith);
          yes_complete = λ b f. absurd (omega (arith, o.fewer));
          no_complete = λ b f. absurd (omega (arith, o.fewer));
          unrefused = λ x e. let q = apart o.stop e in let z : ◌≡◌ {A = ℕ} 0 1 = cc in omega arith;
        }

    -- ---- steps

    all_left : left_of n (at m n Stage.Asking room) ≡ room_for s tw
    all_left = rows m grounds.twig.some
      where
        rows : (m : ℕ) → 1 ≤ m → (m - 1) * n + n ≡ m * n
        rows zero h = absurd (omega arith)
        rows (suc m) h = let a : suc m - 1 ≡ m = omega arith in rw a (omega arith)

    -- the steps taken are the numbers written
    written : left_of n (reading (lend r)) + K ≡ room_for s tw
    written = count_exact s tw (fresh_good room long).in_range (chain_states s tw c) ∙ all_left

    pub fits_within : (K ≤ room_for s tw) × (r.turn.stop ≡ Stop.Budget → (K ≡ B) × (B < room_for s tw))
    fits_within = (omega (arith, written), spends fits_comes)
      where
        spends : Came s tw B K r → r.turn.stop ≡ Stop.Budget → (K ≡ B) × (B < room_for s tw)
        spends (yes o) e = let q = sym o.stop ∙ e in let z : ◌≡◌ {A = ℕ} 0 1 = cc in absurd (omega arith)
        spends (no o) e = let q = sym o.stop ∙ e in let z : ◌≡◌ {A = ℕ} 0 1 = cc in absurd (omega arith)
        spends (asks o) e = (o.spent, o.fewer)

    handed_ranged : Ranged n m (reading (lend r))
    handed_ranged = (steps_within n (entries_of width s) m (entries_of width tw) (chain_states s tw c) (fresh_good room long).in_range).0

    -- "Steps: m×n − t + 1 at yes, (m−q+1)×n at no."
    pub fits_count : (r.turn.state.stage ≡ Stage.Yes → K + r.turn.state.entry.0 ≡ room_for s tw + 1)
        × (r.turn.state.stage ≡ Stage.No → K + (r.turn.state.node - 1) * n ≡ room_for s tw)
    fits_count = (
      λ z.
          let a : r.turn.state.node ≡ 1 = eqb-true _ 1 (sym (ap (stage_fits r.turn.state.node r.turn.state.entry.0) z) ∙ handed_ranged.stage_fits_law) in
          let b = ap (left_by ((r.turn.state.node - 1) * n + r.turn.state.entry.0)) z in
          let d : (r.turn.state.node - 1) * n ≡ 0 = let i : r.turn.state.node - 1 ≡ 0 = omega arith in rw i (zero-mul n) in
          omega (arith, written, b, d, handed_ranged.entry_low),
      λ z.
          let a : r.turn.state.entry.0 ≡ 1 = eqb-true _ 1 (sym (ap (stage_fits r.turn.state.node r.turn.state.entry.0) z) ∙ handed_ranged.stage_fits_law) in
          let b = ap (left_by ((r.turn.state.node - 1) * n + r.turn.state.entry.0)) z in
          omega (arith, written, b, a),
    )

    -- beyond what is asked: where the root of an answer can stand at the latest
    pub yes_entry : r.turn.stop ≡ Stop.Answer → Latest n (entries_of width s) m (entries_of width tw) r.turn.state.entry.0
    yes_entry e = by fits_comes
      where
        by : Came s tw B K r → Latest n (entries_of width s) m (entries_of width tw) r.turn.state.entry.0
        by (yes o) = o.latest
        by (no o) = let q = sym o.stop ∙ e in let z : ◌≡◌ {A = ℕ} 0 1 = cc in absurd (omega arith)
        by (asks o) = let q = sym o.stop ∙ e in let z : ◌≡◌ {A = ℕ} 0 1 = cc in absurd (omega arith)
