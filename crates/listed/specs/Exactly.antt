-- The theorems of the walk, for an accepted signature, an accepted twig and nothing altered: over start call, any chain of preparing turns
-- to the end, the fresh walk and any chain of walking turns, with any budgets.
--   all_loose s tw     the ascending list of all loose answers
--   AllOf l           l has just the loose answers, ascending
--   all_of, all_unique, all_once   all_loose has just the loose answers, ascending, is the only such list, and has none twice
--   Listed c r        what the theorem says of a chain c whose last turn answered r
--   loose_exactly     the answers told along the chain are that list, each once, and all of it where the end is reported
--   end_steps_once    chains from the fresh walk to the end have taken equally many steps, however they are cut
--   Within B K r      what the theorem says of turns between
--   walk_within_law       from the start, from any answer and from any walk handed back, at most 2×m×n+1 steps
use Rattle.std.specs.Prelude.{ℕ, suc, ◌+◌, ◌-◌, ◌*◌, ◌≤◌, ◌≡◌, refl, ◌⊎◌, true}
use Rattle.std.proofs.Common.{ap, ◌∙◌, sym, subst, inl, inr, arith}
use mathlib.Core.List.{List, [], ◌++◌, map, reverse, map-append, Memᴰ}
use Rattle.turns.specs.Turn.{Halt, answer, end, budget, refusal, Turned, Steps, Outcome, ended, spent, told as tells, faulty}
use Rattle.turns.specs.Laws.{turn_outcome}
use Rattle.turns.specs.Chains.{one, more, chain_steps, chain_finished}
use Rattle.trees.specs.Signature.{entries_of, width, entries}
use Rattle.walks.specs.Every.{Pairs}
use Rattle.walks.specs.Walking as walks
use Rattle.walks.specs.Walking.{Choices, walking, at_answer, at_end, answers_from, ahead, walk_done, walk_step}
use Rattle.walks.specs.Order.{walk_count_unique}
use Rattle.walks.specs.Preorder.{Smaller}
use Rattle.walks.specs.Telling as telling
use Rattle.walks.specs.Telling.{tell, fresh_told, fresh_all, chain_limit}
use Rattle.walks.specs.Within.{turn_limit}
use Rattle.walks.specs.Chained.{told, AllButLast, chain_last, chain_one}
use Rattle.walks.specs.Stepping.{step_unrefused}
use Rattle.terms.specs.declared.Stop.{Stop}
use Rattle.checked.specs.Apart.{stop_of}
use Rattle.twig_turns.specs.Grounds.{Accepted, Grounds, accepted_grounds}
use Rattle.walking.specs.declared.Walk.{Walk}
use Rattle.preparing.specs.Masks.{can}
use Rattle.walking.specs.Walking.{fresh}
use Rattle.listed.specs.Loose.{LooseAnswer}
use Rattle.listed.specs.Questions.{Prepared, WalkTurns, tell_of, OnTheWay}
use Rattle.listed.specs.Prepared.{PreparedRight}
use Rattle.listed.specs.Choosing.{loose_answers}
use Rattle.listed.specs.Answered.{bits_listed, loose_sound, loose_complete, loose_ascending, loose_once, loose_unique}
use Rattle.listed.specs.Saved.{by_bit}
use Rattle.listed.specs.Walked.{prepared_right, bits, ch, rise, bound, fresh_run, way_run}
use Rattle.terms.specs.declared.Turn.{Turn}

-- no turn of a walk is refused
outcome_unrefused : (ch : Choices) {b : ℕ} {w : walks.Walk} {t : Turned walks.Walk} → Outcome walks.Walk walk_done (walk_step ch) b w t
    → (number entry : ℕ) → t.halt ≡ refusal number entry → ⊥
outcome_unrefused ch (ended m l f) number entry q = let z : ◌≡◌ {A = ℕ} 0 1 = cc in omega arith
outcome_unrefused ch (spent m f) number entry q = let z : ◌≡◌ {A = ℕ} 0 1 = cc in omega arith
outcome_unrefused ch (tells m l f x) number entry q = let z : ◌≡◌ {A = ℕ} 0 1 = cc in omega arith
outcome_unrefused ch (faulty {number = u} {entry = v} {to = to} m l f x) number entry q = step_unrefused ch to u v x

chain_unrefused : (ch : Choices) {w : walks.Walk} {B K : ℕ} {t : Turned walks.Walk} → telling.WalkTurns ch w B K t
    → (number entry : ℕ) → t.halt ≡ refusal number entry → ⊥
chain_unrefused ch c number entry q =
    let l = chain_last walks.Walk walk_done (walk_step ch) c in
    outcome_unrefused ch (turn_outcome walks.Walk walk_done (walk_step ch) l.0 l.1) number entry
    (ap (λ (t : Turned walks.Walk). t.halt) (sym l.2) ∙ q)

-- a walk that has ended is at the end
done_end : (w : walks.Walk) → walk_done w ≡ true → w ≡ at_end
done_end (walking r c xs) q = let z : ◌≡◌ {A = ℕ} 0 1 = cc in absurd (omega arith)
done_end (at_answer x xs) q = let z : ◌≡◌ {A = ℕ} 0 1 = cc in absurd (omega arith)
done_end at_end q = refl

-- so a chain whose last turn reported the end has led there
chain_to_end : (ch : Choices) {w : walks.Walk} {B K : ℕ} {t : Turned walks.Walk} → telling.WalkTurns ch w B K t → t.halt ≡ end
    → Steps walks.Walk walk_done (walk_step ch) K w at_end
chain_to_end ch {w} {K = K} {t = t} c q =
    subst (Steps walks.Walk walk_done (walk_step ch) K w)
    (done_end t.state (chain_finished walks.Walk walk_done (walk_step ch) c q))
    (chain_steps walks.Walk walk_done (walk_step ch) c)

-- the ascending list of all loose answers of the twig tw on the signature s
abbrev pub all_loose : List ℕ → List ℕ → List (List ℕ)
all_loose s tw = loose_answers (entries s) (entries tw) (entries_of width s) (entries_of width tw)

-- l has just the loose answers, and each is smaller than those after it, so that none is there twice
pub record AllOf (s tw : List ℕ) (l : List (List ℕ)) : Type 0 where
  pub ascending : Pairs Smaller l
  pub sound : (z : List ℕ) → Memᴰ z l → LooseAnswer (entries s) (entries tw) (entries_of width s) (entries_of width tw) z
  pub complete : (z : List ℕ) → LooseAnswer (entries s) (entries tw) (entries_of width s) (entries_of width tw) z → Memᴰ z l

module _ (s tw : List ℕ) where
  -- what is told along a chain of walking turns from the fresh walk
  pub record Listed (left : List ℕ) {B K : ℕ} {r : Turn Walk} (c : WalkTurns s tw left fresh B K r) : Type 0 where
    pub rest : List (List ℕ)
    pub front : told (tell_of (entries tw)) c ++ rest ≡ all_loose s tw
    pub whole : r.stop ≡ Stop.End → told (tell_of (entries tw)) c ≡ all_loose s tw
    pub unrefused : (r.stop ≡ Stop.Answer) ⊎ (r.stop ≡ Stop.End) ⊎ (r.stop ≡ Stop.Budget)
    -- and that list is all loose answers and no others, ascending, each once
    pub all : AllOf s tw (all_loose s tw)
    pub once : Pairs (λ y z. y ≡ z → ⊥) (all_loose s tw)

  -- turns that each but the last spent their budget: to the next answer or the end
  pub record Within (B K : ℕ) (r : Turn Walk) : Type 0 where
    pub limit : K ≤ 2 * (entries tw * entries s) + 1
    pub arrives : 2 * (entries tw * entries s) + 1 ≤ B → (r.stop ≡ Stop.Answer) ⊎ (r.stop ≡ Stop.End)

  module _ (accepted : Accepted s tw) where
    abbrev g : Grounds s tw
    g = accepted_grounds s tw accepted

    -- the list is what its name says, and the only such list
    pub all_of : AllOf s tw (all_loose s tw)
    all_of = record {
      ascending = loose_ascending (entries s) (entries tw) (entries_of width s) (entries_of width tw) g.tree g.twig;
      sound = loose_sound (entries s) (entries tw) (entries_of width s) (entries_of width tw) g.tree g.twig;
      complete = loose_complete (entries s) (entries tw) (entries_of width s) (entries_of width tw) g.tree g.twig;
    }

    pub all_unique : (l : List (List ℕ)) → AllOf s tw l → l ≡ all_loose s tw
    all_unique l h =
        loose_unique (entries s) (entries tw) (entries_of width s) (entries_of width tw) g.tree g.twig l h.ascending
        (λ z. (h.sound z, h.complete z))

    pub all_once : Pairs (λ y z. y ≡ z → ⊥) (all_loose s tw)
    all_once = loose_once (entries s) (entries tw) (entries_of width s) (entries_of width tw) g.tree g.twig

    module _ (left : List ℕ) (prepared : Prepared s tw left) where
      abbrev pr : PreparedRight s tw left
      pr = prepared_right s tw g left prepared

      -- what stopped a turn of a walk that is never refused
      kinds : (h : Halt) → ((number entry : ℕ) → h ≡ refusal number entry → ⊥)
          → (stop_of h ≡ Stop.Answer) ⊎ (stop_of h ≡ Stop.End) ⊎ (stop_of h ≡ Stop.Budget)
      kinds answer n = inl refl
      kinds end n = inr (inl refl)
      kinds budget n = inr (inr refl)
      kinds (refusal number entry) n = absurd (n number entry refl)

      halt_end : (h : Halt) → stop_of h ≡ Stop.End → h ≡ end
      halt_end answer q = let z : ◌≡◌ {A = ℕ} 0 1 = cc in absurd (omega arith)
      halt_end end q = refl
      halt_end budget q = let z : ◌≡◌ {A = ℕ} 0 1 = cc in absurd (omega arith)
      halt_end (refusal number entry) q = let z : ◌≡◌ {A = ℕ} 0 1 = cc in absurd (omega arith)

      halt_budget : (h : Halt) → stop_of h ≡ Stop.Budget → h ≡ budget
      halt_budget answer q = let z : ◌≡◌ {A = ℕ} 0 1 = cc in absurd (omega arith)
      halt_budget end q = let z : ◌≡◌ {A = ℕ} 0 1 = cc in absurd (omega arith)
      halt_budget budget q = refl
      halt_budget (refusal number entry) q = let z : ◌≡◌ {A = ℕ} 0 1 = cc in absurd (omega arith)

      nodes : suc (entries tw - 1) ≡ entries tw
      nodes = omega (arith, g.twig.some)

      -- all answers of the walk over the table are all loose answers
      same : map reverse (answers_from (ch s tw g left pr) (suc (entries tw - 1)) []) ≡ all_loose s tw
      same =
          ap (λ (k : ℕ). map reverse (answers_from (ch s tw g left pr) k [])) nodes
          ∙ bits_listed (entries s) (entries tw) (entries_of width s) (entries_of width tw) g.tree g.twig (by_bit (can left))
          (bits s tw g left pr)

      -- demand 2: the answers told, in order, are the front of the list; where the end is reported they are the list
      pub loose_exactly : {B K : ℕ} {r : Turn Walk} (c : WalkTurns s tw left fresh B K r) → Listed left c
      loose_exactly {r = r} c =
          let x = fresh_run s tw g left pr c in
          let a = ahead (ch s tw g left pr) x.last.state in
          record {
            rest = map reverse a;
            front =
                ap (λ (l : List (List ℕ)). l ++ map reverse a) x.told_same
                ∙ sym (map-append reverse (told tell x.chain) a)
                ∙ ap (map reverse) (fresh_told (ch s tw g left pr) (rise s tw g left pr) (entries tw - 1) x.chain)
                ∙ same;
            whole = λ h.
                x.told_same
                ∙ ap (map reverse) (fresh_all (ch s tw g left pr) (rise s tw g left pr) (entries tw - 1) x.chain
                (halt_end x.last.halt (sym x.stop_same ∙ h)))
                ∙ same;
            unrefused = subst (λ (k : Stop). (k ≡ Stop.Answer) ⊎ (k ≡ Stop.End) ⊎ (k ≡ Stop.Budget)) (sym x.stop_same)
                (kinds x.last.halt (chain_unrefused (ch s tw g left pr) x.chain));
            all = all_of;
            once = all_once;
          }

      -- the number of steps to the end is one number, whatever the budgets of the turns
      pub end_steps_once : {B C K L : ℕ} {r u : Turn Walk} → WalkTurns s tw left fresh B K r → WalkTurns s tw left fresh C L u
          → r.stop ≡ Stop.End → u.stop ≡ Stop.End → K ≡ L
      end_steps_once c d p q =
          let x = fresh_run s tw g left pr c in
          let y = fresh_run s tw g left pr d in
          x.count_same
          ∙ walk_count_unique (ch s tw g left pr) (rise s tw g left pr)
          (chain_to_end (ch s tw g left pr) x.chain (halt_end x.last.halt (sym x.stop_same ∙ p)))
          (chain_to_end (ch s tw g left pr) y.chain (halt_end y.last.halt (sym y.stop_same ∙ q)))
          ∙ sym y.count_same

      budgets : {x : walks.Walk} {B K : ℕ} {t : Turned walks.Walk} (c : telling.WalkTurns (ch s tw g left pr) x B K t)
          → AllButLast (λ u. stop_of u.halt ≡ Stop.Budget) c → AllButLast (λ u. u.halt ≡ budget) c
      budgets (one q) h = tt
      budgets (more {r = t} q c) h = (halt_budget t.halt h.0, budgets c h.1)

      -- demand 3: the steps of turns that each but the last spent their budget, summed
      pub walk_within_law : {w : Walk} {B K : ℕ} {r : Turn Walk} → OnTheWay s tw left w → (c : WalkTurns s tw left w B K r)
          → AllButLast (λ u. u.stop ≡ Stop.Budget) c → Within B K r
      walk_within_law {B = B} {K = K} {r = r} i c h =
          let x = way_run s tw g left pr c i in
          let y = x.run in
          let k = budgets y.chain (y.each_same h) in
          let l = chain_limit (ch s tw g left pr) (rise s tw g left pr) (entries tw) (entries s) (bound s tw g left pr) y.chain k
          x.way in
          record {
            limit = omega (arith, y.count_same, l);
            arrives = λ b.
                subst (λ (z : Stop). (z ≡ Stop.Answer) ⊎ (z ≡ Stop.End)) (sym y.stop_same)
                (stopped y.last.halt
                (subst (λ (t : Turned walks.Walk). (t.halt ≡ answer) ⊎ (t.halt ≡ end))
                (chain_one walks.Walk walk_done (walk_step (ch s tw g left pr)) y.chain k)
                (turn_limit (ch s tw g left pr) (rise s tw g left pr) (entries tw) (entries s) (bound s tw g left pr) B x.from
                x.way b)));
          }
        where
          stopped : (h : Halt) → (h ≡ answer) ⊎ (h ≡ end) → (stop_of h ≡ Stop.Answer) ⊎ (stop_of h ≡ Stop.End)
          stopped h (inl q) = inl (ap stop_of q)
          stopped h (inr q) = inr (ap stop_of q)
