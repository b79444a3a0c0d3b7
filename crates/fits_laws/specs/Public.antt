-- The ordered question at the public call, over its promise, for any signature, twig, room and state.
--   shown t                what a turn of the rule is told as: at yes the end as an answer
--   turned_of r left        what was handed back, as such a turn
--   handed_turned, back_of, back_handed   a turn of the rule and what hands it back
--   one_result             two results that the promise allows are equal, and so is what they leave in the room
--   step_as_written        the state and the room handed back are those after exactly the steps returned, by the written rule
--   handed_back_in_range   from a state in range the state handed back is in range, after a refusal too
--   stops_before_the_fault  a turn refused at a step stands before that step, and its budget would have paid for it
--   cut_anywhere, cut_kept  a turn of a + b steps is one of a and then one of b, unless it stopped
--   count_exact, count_unique   the steps between two states are the difference of what is left at each
--   told_stays             a question that was told is handed back as it was given, with the same stop at every budget
--   stage_apart            the numbers of a stage tell it apart
use Rattle.std.specs.Prelude.{ℕ, ◌+◌, ◌≤◌, ◌<◌, ◌≡◌, refl, List, true, length}
use Rattle.std.proofs.Common.{ap, ◌∙◌, sym, subst, arith}
use Rattle.turns.specs.Turn.{Next, Halt, Turned, Step, on, found, Steps}
use Rattle.turns.specs.Laws as Laws
use Rattle.turns.specs.Judging as Judging
use Rattle.trees.specs.Signature.{entries_of, width, entries}
use Rattle.terms.specs.declared.Stop.{Stop}
use Rattle.terms.specs.declared.Refusal.{Refusal}
use Rattle.terms.specs.Stops.{halt_told}
use Rattle.checked.specs.Apart.{halt_of, stop_of, halt_of_law, told_apart, told_stop, told_halt, halt_told_law}
use Rattle.twig_turns.specs.Given.{given_of}
use Rattle.twig_turns.proofs.Judged.{begun_run, begun_judged}
use Rattle.fits_rows.specs.declared.Stage.{Stage}
use Rattle.fits_rows.specs.Fitting.{Fitting, told_by, told, fit_step}
use Rattle.fits_rows.specs.FittingLaws.{Ranged, ranged_facts, ranged_yes, left_of, step_within, silent, steps_within}
use Rattle.fits.specs.declared.Fit.{Fit}
use Rattle.fits.specs.Stages.{end_at, fit_halt}
use Rattle.fits_rows.specs.Stages.{stage_number}
use Rattle.fits.specs.FitTurn.{fitting, fit_of, room_for, fit_run, fit_fits, fit_turn_of, FitHanded, FitPromise}
use Rattle.fits_laws.specs.Questions.{FitBack}
use Rattle.terms.specs.declared.Turn.{Turn}

-- ---- the code's answers and the turn that they tell

-- "At yes a turn is stopped by an answer, at no by the end."
abbrev pub shown : Turned Fitting → Turned Fitting
shown t = record { state = t.state; steps = t.steps; halt = fit_halt t.state.stage t.halt }

-- what was handed back, as a turn
abbrev pub turned_of : Turn Fit → List ℕ → Turned Fitting
turned_of r left = record { state = fitting r.state left; steps = r.steps; halt = halt_of r.stop }

pub handed_turned : (r : Turn Fit) (left : List ℕ) (t : Turned Fitting) → FitHanded r left t → turned_of r left ≡ shown t
handed_turned r left t h =
    let a = ap (λ (p : Fit). p.node) h.state in
    let b = ap (λ (p : Fit). p.entry.0) h.state in
    let c = ap (λ (p : Fit). p.stage) h.state in
    let d = h.steps in
    let e = halt_told_law (halt_of r.stop) (fit_halt t.state.stage t.halt) (sym (halt_of_law r.stop) ∙ h.stop) in
    let l = h.leaves in
    λ i. record { state = record { node = a i; entry = b i; stage = c i; room = l i }; steps = d i; halt = e i }

-- what hands back a turn of the rule
abbrev pub back_of : Turned Fitting → FitBack
back_of t = record { turn = record { state = fit_of t.state; steps = t.steps; stop = stop_of (fit_halt t.state.stage t.halt) }; left = t.state.room }

pub back_handed : (t : Turned Fitting) → FitHanded (back_of t).turn (back_of t).left t
back_handed t = record { state = refl; steps = refl; stop = told_stop (fit_halt t.state.stage t.halt); leaves = refl }

-- ---- what a halt is told as

pub shown_budget : (s : Stage) (h : Halt) → fit_halt s h ≡ Halt.budget → h ≡ Halt.budget
shown_budget s Halt.answer e = e
shown_budget s Halt.budget e = e
shown_budget s (Halt.refusal u v) e = e
shown_budget Stage.Asking Halt.end e = e
shown_budget Stage.Yes Halt.end e = let z : ◌≡◌ {A = ℕ} 0 1 = cc in absurd (omega arith)
shown_budget Stage.No Halt.end e = e

pub shown_refusal : (s : Stage) (h : Halt) (u v : ℕ) → fit_halt s h ≡ Halt.refusal u v → h ≡ Halt.refusal u v
shown_refusal s Halt.answer u v e = e
shown_refusal s Halt.budget u v e = e
shown_refusal s (Halt.refusal x y) u v e = e
shown_refusal Stage.Asking Halt.end u v e = e
shown_refusal Stage.Yes Halt.end u v e = let z : ◌≡◌ {A = ℕ} 0 1 = cc in absurd (omega arith)
shown_refusal Stage.No Halt.end u v e = e

pub stage_apart : (r s : Stage) → stage_number r ≡ stage_number s → r ≡ s
stage_apart Stage.Asking Stage.Asking e = refl
stage_apart Stage.Yes Stage.Yes e = refl
stage_apart Stage.No Stage.No e = refl
stage_apart Stage.Asking Stage.Yes e = absurd (omega arith)
stage_apart Stage.Asking Stage.No e = absurd (omega arith)
stage_apart Stage.Yes Stage.Asking e = absurd (omega arith)
stage_apart Stage.Yes Stage.No e = absurd (omega arith)
stage_apart Stage.No Stage.Asking e = absurd (omega arith)
stage_apart Stage.No Stage.Yes e = absurd (omega arith)

-- ---- one result

pub one_result : (sig twig room : List ℕ) (b : ℕ) (st : Fit) (r q : Turn Fit) (l k : List ℕ)
    → FitPromise sig twig room b st r l → FitPromise sig twig room b st q k → (r ≡ q) × (l ≡ k)
one_result sig twig room b st r q l k p o =
    let x = p.state ∙ sym o.state in
    let y = p.steps ∙ sym o.steps in
    let z = told_apart r.stop q.stop (p.stop ∙ sym o.stop) in
    ((λ i. record { state = x i; steps = y i; stop = z i }), p.leaves ∙ sym o.leaves)

module _ (sig twig : List ℕ) where
  -- the written step, on the numbers of a signature and a twig
  abbrev pub step : Fitting → Next Fitting
  step st = fit_step (entries sig) (entries_of width sig) (entries twig) (entries_of width twig) st

  abbrev pub whole : ℕ → Fitting → Turned Fitting
  whole b st = fit_turn_of sig twig b st

  -- ---- from which states a turn takes steps

  -- the twig and the signature's length are accepted, the state is in range, and the room is enough
  pub record Good (st : Fitting) : Type 0 where
    pub given : (given_of sig twig).reason ≡ 1
    pub in_range : Ranged (entries sig) (entries twig) st
    pub room : room_for sig twig ≤ length st.room

  pub run_is : (b : ℕ) (st : Fitting) → Good st → whole b st ≡ fit_run sig twig b st
  run_is b st g =
      begun_run (room_for sig twig) sig twig (length st.room) st (fit_fits sig twig st) (fit_run sig twig b st) g.given
      (ranged_yes (entries sig) (entries twig) st g.in_range) g.room

  pub kept : (a b : Fitting) → Step Fitting told step a b → Good a → Good b
  kept a b (found h e) g = absurd (silent (entries sig) (entries_of width sig) (entries twig) (entries_of width twig) a b e)
  kept a b (on h e) g =
      let x = step_within (entries sig) (entries_of width sig) (entries twig) (entries_of width twig) a b h e g.in_range in
      record { given = g.given; in_range = x.0; room = omega (arith, g.room, x.2) }

  judged : (st : Fitting) → Judging.Judged Fitting told step whole Good st
  judged st =
      begun_judged told step Good (room_for sig twig) sig twig (λ x. length x.room) (fit_fits sig twig) (fit_run sig twig) st
      (λ h x y. record { given = h; in_range = ranged_facts (entries sig) (entries twig) st x; room = y })

  -- ---- one turn, from any state

  module _ (room : List ℕ) (b : ℕ) (st : Fit) (r : Turn Fit) (left : List ℕ) (p : FitPromise sig twig room b st r left) where
    is : turned_of r left ≡ shown (whole b (fitting st room))
    is = handed_turned r left (whole b (fitting st room)) p

    pub step_as_written : Steps Fitting told step r.steps (fitting st room) (fitting r.state left)
    step_as_written =
        subst (λ (t : Turned Fitting). Steps Fitting told step t.steps (fitting st room) t.state) (sym is)
        (Judging.counted Fitting told step whole Good run_is kept b (fitting st room) (judged (fitting st room)))

    -- in range before, in range after; a turn refused before any step hands the state back as it was given
    pub handed_back_in_range : fit_fits sig twig (fitting st room) ≡ true → fit_fits sig twig (fitting r.state left) ≡ true
    handed_back_in_range l =
        ranged_yes (entries sig) (entries twig) (fitting r.state left)
        (steps_within (entries sig) (entries_of width sig) (entries twig) (entries_of width twig) step_as_written
        (ranged_facts (entries sig) (entries twig) (fitting st room) l)).0

    pub stops_before_the_fault : Good (fitting st room) → (x : Refusal) → r.stop ≡ Stop.Refused x
        → Laws.AtFault Fitting told step b (fitting st room) (turned_of r left) x.number x.entry.0
    stops_before_the_fault g x e =
        let h = shown_refusal _ (whole b (fitting st room)).halt x.number x.entry.0 (ap (λ (t : Turned Fitting). t.halt) (sym is) ∙ ap halt_of e) in
        let f = Judging.fault Fitting told step whole Good run_is kept b (fitting st room) g x.number x.entry.0 h in
        record {
          going = ap (λ (t : Turned Fitting). told t.state) is ∙ f.going;
          fault = ap (λ (t : Turned Fitting). step t.state) is ∙ f.fault;
          paid = subst (λ (t : Turned Fitting). t.steps < b) (sym is) f.paid;
        }

    -- "a question at yes or at no takes no step and reports the same again for every budget", unless it is refused
    pub told_stays : Good (fitting st room) → told_by st.stage ≡ true → (r.state ≡ st) × (r.steps ≡ 0) × (r.stop ≡ stop_of (end_at st.stage)) × (left ≡ room)
    told_stays g f =
        let q = run_is b (fitting st room) g ∙ Laws.run_end Fitting told step b 0 (fitting st room) f in
        let h = ap (λ (t : Turned Fitting). shown t) q in (
          p.state ∙ ap (λ (t : Turned Fitting). fit_of t.state) q,
          p.steps ∙ ap (λ (t : Turned Fitting). t.steps) q,
          told_apart r.stop (stop_of (end_at st.stage)) (p.stop ∙ ap (λ (t : Turned Fitting). halt_told t.halt) h ∙ sym (told_stop (end_at st.stage))),
          p.leaves ∙ ap (λ (t : Turned Fitting). t.state.room) q,
        )

  -- ---- turns one after the other

  module _ (a b : ℕ) (room : List ℕ) (st : Fit) (x r : Turn Fit) (mid left : List ℕ)
      (p : FitPromise sig twig room a st x mid) (o : FitPromise sig twig room (a + b) st r left) where
    -- stopped by its budget, a turn of a steps and then one of b are the turn of a + b
    pub cut_anywhere : (y : Turn Fit) (last : List ℕ) → x.stop ≡ Stop.Budget → FitPromise sig twig mid b x.state y last
        → turned_of r left ≡ Laws.after Fitting told step a (turned_of y last)
    cut_anywhere y last e q =
        let h = is room a st x mid p in
        let s = shown_budget _ (whole a (fitting st room)).halt (ap (λ (t : Turned Fitting). t.halt) (sym h) ∙ ap halt_of e) in
        is room (a + b) st r left o
        ∙ ap shown (Judging.cut Fitting told step whole Good run_is kept a b (fitting st room) (judged (fitting st room)) s)
        ∙ ap (λ (i : Fitting). Laws.after Fitting told step a (shown (whole b i))) (ap (λ (t : Turned Fitting). t.state) (sym h))
        ∙ ap (Laws.after Fitting told step a) (sym (is mid b x.state y last q))

    -- stopped by anything else, a larger budget changes nothing
    pub cut_kept : (x.stop ≡ Stop.Budget → ⊥) → turned_of r left ≡ turned_of x mid
    cut_kept n =
        is room (a + b) st r left o
        ∙ ap shown (Judging.larger Fitting told step whole Good run_is kept a b (fitting st room) (judged (fitting st room))
        (λ e. n (told_halt x.stop Halt.budget (p.stop ∙ ap (λ (h : Halt). halt_told (fit_halt (whole a (fitting st room)).state.stage h)) e))))
        ∙ sym (is room a st x mid p)

  -- ---- counts

  -- the steps between two states are the numbers that were not written yet at the first one and are at the second
  pub count_exact : {k : ℕ} {a b : Fitting} → Ranged (entries sig) (entries twig) a → Steps Fitting told step k a b
      → left_of (entries sig) b + k ≡ left_of (entries sig) a
  count_exact g m = (steps_within (entries sig) (entries_of width sig) (entries twig) (entries_of width twig) m g).1

  pub count_unique : {i j : ℕ} {a b : Fitting} → Ranged (entries sig) (entries twig) a → Steps Fitting told step i a b → Steps Fitting told step j a b → i ≡ j
  count_unique g m w = omega (arith, count_exact g m, count_exact g w)
