-- The question tells the same whatever its room held at first.
--   Same K L r q   the same verdict, after equally many steps, at the same node and entry
--   fits_once      so it is of two chains that have told
use Rattle.std.specs.Prelude.{ℕ, ◌+◌, ◌*◌, ◌≤◌, ◌≡◌, ◌⊎◌, List, length}
use Rattle.std.proofs.Common.{ap, sym, ◌∙◌, inl, inr, arith}
use Rattle.turns.specs.Turn.{Halt, Turned, ended}
use Rattle.turns.specs.Laws.{outcome_turn}
use Rattle.turns.specs.Chains.{Reached, Underway}
use Rattle.trees.specs.Signature.{entries_of, width, entries}
use Rattle.terms.specs.declared.Stop.{Stop}
use Rattle.checked.specs.Apart.{stop_of, told_halt}
use Rattle.twig_turns.specs.Grounds.{Accepted}
use Rattle.fits_rows.specs.declared.Stage.{Stage}
use Rattle.fits_rows.specs.Fitting.{Fitting, at, told}
use Rattle.fits.specs.declared.Fit.{Fit}
use Rattle.fits.specs.Stages.{end_at, fit_halt}
use Rattle.fits.specs.FitTurn.{fit_of, room_for}
use Rattle.fits_laws.specs.Runs.{Ending}
use Rattle.fits_laws.specs.Questions.{FitBack, reading, begins, FitTurns}
use Rattle.fits_laws.specs.Public.{step}
use Rattle.fits_laws.specs.Chained.{Ran}
use Rattle.fits_laws.specs.Alike.{alike_moves, fresh_alike}
use Rattle.fits_laws.specs.Exactly.{grounds, ending, ran, arrives}

module _ (s tw : List ℕ) (accepted : Accepted s tw) where
  abbrev n : ℕ
  n = entries s

  abbrev m : ℕ
  m = entries tw

  -- the same verdict, after equally many steps, at the same node and entry
  pub record Same (K L : ℕ) (r q : FitBack) : Type 0 where
    pub steps : K ≡ L
    pub state : r.turn.state ≡ q.turn.state
    pub stop : r.turn.stop ≡ q.turn.stop

  module _ (room other : List ℕ) (long : room_for s tw ≤ length room) (wide : room_for s tw ≤ length other) {B K C L : ℕ} {r q : FitBack}
      (c : FitTurns s tw (begins s tw room) B K r) (d : FitTurns s tw (begins s tw other) C L q) where
    abbrev y : Ending n (entries_of width s) m (entries_of width tw) (m * n) (at m n Stage.Asking room)
    y = ending s tw accepted room long

    abbrev z : Ending n (entries_of width s) m (entries_of width tw) (m * n) (at m n Stage.Asking other)
    z = ending s tw accepted other wide

    -- the other question goes the same way, whose end is one only
    other_ends : (l : List ℕ) × (◌≡◌ {A = Turned Fitting} (record { state = at y.fin.node y.fin.entry y.fin.stage l; steps = y.count; halt = Halt.end })
        (record { state = z.fin; steps = z.count; halt = Halt.end }))
    other_ends =
        let a = fresh_alike n (entries_of width s) m (entries_of width tw) (grounds s tw accepted).twig room other (grounds s tw accepted).twig.some (grounds s tw accepted).tree.some long wide in
        let o = alike_moves n (entries_of width s) m (entries_of width tw) (grounds s tw accepted).twig y.moves other a in (
          o.room,
          sym (outcome_turn Fitting told (step s tw) {b = y.count + z.count} (ended o.moves (omega arith) y.ends))
              ∙ outcome_turn Fitting told (step s tw) {b = y.count + z.count} (ended z.moves (omega arith) z.ends),
        )

    -- a chain that has told stands where its question ends
    told_at : (l : List ℕ) (h : room_for s tw ≤ length l) {B K : ℕ} {r : FitBack} (c : FitTurns s tw (begins s tw l) B K r) → (r.turn.stop ≡ Stop.Budget → ⊥)
        → (r.turn.state ≡ fit_of (ending s tw accepted l h).fin) × (K ≡ (ending s tw accepted l h).count) × (r.turn.stop ≡ stop_of (end_at (ending s tw accepted l h).fin.stage))
    told_at l h {B} {K} {r} c n = by (arrives s tw accepted l h c)
      where
        x : Ran s tw (reading (begins s tw l)) B K r
        x = ran s tw accepted l h c

        stop : r.turn.stop ≡ stop_of (fit_halt (ran s tw accepted l h c).last.state.stage (ran s tw accepted l h c).last.halt)
        stop = told_halt r.turn.stop (fit_halt x.last.state.stage x.last.halt) x.is.stop

        by : Reached Fitting told (step s tw) (ending s tw accepted l h).count B K (ending s tw accepted l h).fin (ran s tw accepted l h c).last
            ⊎ Underway Fitting told (step s tw) (ending s tw accepted l h).count B K (ending s tw accepted l h).fin (ran s tw accepted l h c).last
            → (r.turn.state ≡ fit_of (ending s tw accepted l h).fin) × (K ≡ (ending s tw accepted l h).count) × (r.turn.stop ≡ stop_of (end_at (ending s tw accepted l h).fin.stage))
        by (inl o) = (
          x.is.state ∙ ap fit_of o.state,
          o.steps,
          stop ∙ ap (λ (i : Halt). stop_of (fit_halt x.last.state.stage i)) o.halt ∙ ap (λ (f : Fitting). stop_of (end_at f.stage)) o.state,
        )
        by (inr o) = absurd (n (stop ∙ ap (λ (i : Halt). stop_of (fit_halt x.last.state.stage i)) o.halt))

    pub fits_once : (r.turn.stop ≡ Stop.Budget → ⊥) → (q.turn.stop ≡ Stop.Budget → ⊥) → Same K L r q
    fits_once i j =
        let a = told_at room long c i in
        let b = told_at other wide d j in
        let o = other_ends.1 in
        let f : fit_of y.fin ≡ fit_of z.fin = ap (λ (t : Turned Fitting). fit_of t.state) o in
        record {
          steps = a.1 ∙ ap (λ (t : Turned Fitting). t.steps) o ∙ sym b.1;
          state = a.0 ∙ f ∙ sym b.0;
          stop = a.2 ∙ ap (λ (g : Fit). stop_of (end_at g.stage)) f ∙ sym b.2;
        }
