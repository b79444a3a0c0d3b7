-- Walking at the public call, over its promise, for any signature, twig, table and walk. That a walk has sixteen images is its type; the laws name it.
--   one_result             two results that the promise allows are equal
--   step_as_written        the walk handed back is the one after exactly the steps returned, by the written rule
--   handed_back_in_range   from a walk in range the walk handed back is in range, after a refusal too
--   stops_before_the_fault  a turn refused at a step stands before that step, and its budget would have paid for it
--   cut_anywhere, cut_kept  a turn of a + b steps is one of a and then one of b, unless it stopped
--   count_unique           no two counts join the same two walks, on any signature and table
use Rattle.std.specs.Prelude.{ℕ, ◌+◌, ◌*◌, ◌≤◌, ◌≡◌, refl, List, true, length}
use Rattle.std.proofs.Common.{ap, ◌∙◌, sym, subst, inl, inr}
use Rattle.turns.specs.Turn.{Next, Halt, Turned, turn, Step, on, found, Steps}
use Rattle.turns.specs.Counts as Counts
use Rattle.turns.specs.Laws as Laws
use Rattle.turns.specs.Judging as Judging
use Rattle.trees.specs.Signature.{Entries, entries_of, width, entries}
use Rattle.terms.specs.declared.Stop.{Stop}
use Rattle.terms.specs.declared.Refusal.{Refusal}
use Rattle.terms.specs.Stops.{halt_told, Handed}
use Rattle.checked.specs.Apart.{halt_of, halt_of_law, told_apart, told_halt, halt_told_law}
use Rattle.walking.specs.declared.Walk.{Walk}
use Rattle.preparing.specs.Masks.{can}
use Rattle.twig_turns.specs.Given.{given_of, table_width}
use Rattle.walking.specs.Kept.{Ranges}
use Rattle.walking.specs.Walking.{step_of, ended}
use Rattle.walking.specs.WalkTurn.{walk_run, walk_fits, walk_turn_of, WalkPromise}
use Rattle.twig_turns.proofs.Judged.{given_twig, begun_run, begun_judged}
use Rattle.walking.proofs.Parents.{given_parents}
use Rattle.walking.proofs.WalkRanges.{range_facts, range_yes}
use Rattle.walking.proofs.WalkSteps.{step_moved, step_answered}
use Rattle.loose_turns.specs.Trails.{Less, less_trans, less_apart, trail, progress}
use Rattle.terms.specs.declared.Turn.{Turn}

-- what was handed back, as a turn of the rule
abbrev pub turned_of : Turn Walk → Turned Walk
turned_of r = record { state = r.state; steps = r.steps; halt = halt_of r.stop }

pub handed_turned : (r : Turn Walk) (t : Turned Walk) → Handed r t → turned_of r ≡ t
handed_turned r t h =
    let a = h.state in
    let b = h.steps in
    let c = halt_told_law (halt_of r.stop) t.halt (sym (halt_of_law r.stop) ∙ h.stop) in
    λ i. record { state = a i; steps = b i; halt = c i }

pub one_result : (sig twig table : List ℕ) (b : ℕ) (w : Walk) (r q : Turn Walk)
    → WalkPromise sig twig table b w r → WalkPromise sig twig table b w q → r ≡ q
one_result sig twig table b w r q p o =
    let x = p.state ∙ sym o.state in
    let y = p.steps ∙ sym o.steps in
    let z = told_apart r.stop q.stop (p.stop ∙ sym o.stop) in
    λ i. record { state = x i; steps = y i; stop = z i }

module _ (sig twig table : List ℕ) where
  abbrev t : Entries
  t = entries_of width twig

  -- the written step of the walk, on the numbers of a signature, a twig and a table
  abbrev pub step : Walk → Next Walk
  step w = step_of (entries sig) (entries twig) (entries_of width sig) t (can table) w

  -- a whole turn of the walk: judged first, and then the steps
  abbrev pub whole : ℕ → Walk → Turned Walk
  whole b w = walk_turn_of sig twig table b w

  -- the twig and the signature's length are accepted, the walk is in its ranges, and the room is enough
  pub record Good (w : Walk) : Type 0 where
    pub given : (given_of sig twig).reason ≡ 1
    pub in_range : Ranges (entries sig) (entries twig) t w
    pub room : table_width * entries sig ≤ length table

  pub run_is : (b : ℕ) (w : Walk) → Good w → whole b w ≡ turn Walk ended step b w
  run_is b w g =
      begun_run (table_width * entries sig) sig twig (length table) w (walk_fits sig twig w) (walk_run sig twig table b w) g.given
      (range_yes (entries sig) (entries twig) t w g.in_range) g.room

  few : (given_of sig twig).reason ≡ 1 → entries twig ≤ 16
  few g = (given_twig sig twig g).small

  pub kept : (a b : Walk) → Step Walk ended step a b → Good a → Good b
  kept a b (on h e) g = record {
    given = g.given;
    in_range = step_moved (entries sig) (entries twig) t (given_parents sig twig g.given) (few g.given) (entries_of width sig) (can table) a h g.in_range b e;
    room = g.room;
  }
  kept a b (found h e) g = record {
    given = g.given;
    in_range = step_answered (entries sig) (entries twig) t (given_parents sig twig g.given) (few g.given) (entries_of width sig) (can table) a h g.in_range b e;
    room = g.room;
  }

  judged : (w : Walk) → length w.images ≡ 16 → Judging.Judged Walk ended step whole Good w
  judged w full =
      begun_judged ended step Good (table_width * entries sig) sig twig (λ x. length table) (walk_fits sig twig) (walk_run sig twig table) w
      (λ h x y. record { given = h; in_range = range_facts (entries sig) (entries twig) t w full (few h) x; room = y })

  -- ---- one turn, from any walk

  module _ (b : ℕ) (w : Walk) (full : length w.images ≡ 16) (r : Turn Walk) (p : WalkPromise sig twig table b w r) where
    is : turned_of r ≡ whole b w
    is = handed_turned r (whole b w) p

    pub step_as_written : Steps Walk ended step r.steps w r.state
    step_as_written =
        subst (λ (t : Turned Walk). Steps Walk ended step t.steps w t.state) (sym is)
        (Judging.counted Walk ended step whole Good run_is kept b w (judged w full))

    -- in range before, in range after; a turn refused before any step hands the walk back as it was given
    pub handed_back_in_range : walk_fits sig twig w ≡ true → walk_fits sig twig r.state ≡ true
    handed_back_in_range l = subst (λ (t : Turned Walk). walk_fits sig twig t.state ≡ true) (sym is) (go (judged w full))
      where
        go : Judging.Judged Walk ended step whole Good w → walk_fits sig twig (whole b w).state ≡ true
        go (Judging.Judged.runs g) =
            range_yes (entries sig) (entries twig) t (whole b w).state (Judging.good_kept Walk ended step whole Good run_is kept b w g).in_range
        go (Judging.Judged.refuses u v e) = rw (e b) l

    pub stops_before_the_fault : Good w → (x : Refusal) → r.stop ≡ Stop.Refused x
        → Laws.AtFault Walk ended step b w (turned_of r) x.number x.entry.0
    stops_before_the_fault g x e =
        subst (λ (t : Turned Walk). Laws.AtFault Walk ended step b w t x.number x.entry.0) (sym is)
        (Judging.fault Walk ended step whole Good run_is kept b w g x.number x.entry.0 (ap (λ (t : Turned Walk). t.halt) (sym is) ∙ ap halt_of e))

  -- ---- turns one after the other

  module _ (a b : ℕ) (w : Walk) (full : length w.images ≡ 16) (x r : Turn Walk) (p : WalkPromise sig twig table a w x) (o : WalkPromise sig twig table (a + b) w r) where
    -- stopped by its budget, a turn of a steps and then one of b are the turn of a + b
    pub cut_anywhere : (y : Turn Walk) → x.stop ≡ Stop.Budget → WalkPromise sig twig table b x.state y
        → turned_of r ≡ Laws.after Walk ended step a (turned_of y)
    cut_anywhere y e q =
        is (a + b) w full r o
        ∙ Judging.cut Walk ended step whole Good run_is kept a b w (judged w full) (ap (λ (t : Turned Walk). t.halt) (sym (is a w full x p)) ∙ ap halt_of e)
        ∙ ap (λ (s : Walk). Laws.after Walk ended step a (whole b s)) (ap (λ (t : Turned Walk). t.state) (sym (is a w full x p)))
        ∙ ap (Laws.after Walk ended step a) (sym (handed_turned y (whole b x.state) q))

    -- stopped by anything else, a larger budget changes nothing
    pub cut_kept : (x.stop ≡ Stop.Budget → ⊥) → r ≡ x
    cut_kept n =
        let q = Judging.larger Walk ended step whole Good run_is kept a b w (judged w full) (λ e. n (told_halt x.stop Halt.budget (p.stop ∙ ap halt_told e))) in
        one_result sig twig table a w r x (subst (Handed r) q o) p

  -- ---- counts

  leads_on : (a b : Walk) → Good a → Step Walk ended step a b → Less (trail a) (trail b)
  leads_on a b g (on h e) = progress (entries sig) (entries twig) (entries_of width sig) t (can table) (few g.given) b a g.in_range h (inl e)
  leads_on a b g (found h e) = progress (entries sig) (entries twig) (entries_of width sig) t (can table) (few g.given) b a g.in_range h (inr e)

  pub count_unique : {i j : ℕ} {a b : Walk} → Good a → Steps Walk ended step i a b → Steps Walk ended step j a b → i ≡ j
  count_unique g m w =
      Counts.good_count_unique Walk ended step Good kept (λ a b. Less (trail a) (trail b)) (λ a b c x y. less_trans x y)
      (λ a x. less_apart x refl) leads_on g m w
