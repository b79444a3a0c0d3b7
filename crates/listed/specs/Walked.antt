-- Walking over the table that preparing left: public turns are turns of the walk over the choices, and tell the same.
--   prepared_right    the table is right, by prepare_n
--   ch, bits, rise, bound   the walk over the table's bits, and what the laws of walks ask of it
--   Standing          a saved walk that stands for one on the way
--   Run               the chain over the choices that a chain of public turns is
--   first, fresh_run  there is one from the fresh walk
--   Onward, way_run   and from every walk on the way
use Rattle.std.specs.Prelude.{ℕ, ◌-◌, ◌≡◌, true, length, take}
use Rattle.std.proofs.Math.Path.{refl, sym, subst}
use Rattle.std.proofs.Common.{ap, ap₂, ◌∙◌}
use mathlib.Core.List.{List, [], ◌∷◌, ◌++◌, map, reverse, map-append}
use native.Mathlib.Omega.{arith}
use Rattle.turns.specs.Turn.{Next, Halt, answer, end, budget, refusal, Turned, turn}
use Rattle.turns.specs.Chains.{one, more}
use Rattle.trees.specs.Signature.{Entries, entries_of, width, entries}
use Rattle.walks.specs.Walking as walks
use Rattle.walks.specs.Walking.{Choices, Rising, walking, at_answer, at_end, images, walk_done, walk_step, walk_turn}
use Rattle.walks.specs.Plain.{plain_rising}
use Rattle.walks.specs.Potential as potential
use Rattle.walks.specs.Potential.{Bounded}
use Rattle.walks.specs.Falling.{fresh_way}
use Rattle.walks.specs.Telling as telling
use Rattle.walks.specs.Telling.{tell, turn_good}
use Rattle.walks.specs.Chained as chained
use Rattle.walks.specs.Chained.{AllButLast}
use Rattle.walks.specs.Mirror.{as_turned, Mirrors, turn_mirrored, turn_inv, chain_mirrored}
use Rattle.walks.specs.Room.{image_of, room_of, room_take}
use Rattle.terms.specs.declared.Stop.{Stop}
use Rattle.checked.specs.Apart.{stop_of, told_halt}
use Rattle.twig_turns.specs.Grounds.{Grounds}
use Rattle.walking.specs.declared.Walk.{Walk}
use Rattle.preparing.specs.Masks.{can}
use Rattle.walking.specs.Walking.{in_range, step_of, ended, fresh}
use Rattle.walking.specs.WalkTurn.{walk_run_of, walk_turn_of, WalkPromise}
use Rattle.listed.specs.Questions.{Prepared, WalkTurns, told, tell_of, OnTheWay, start, handed}
use Rattle.listed.specs.Given.{begun_runs}
use Rattle.listed.specs.Public.{Back, Ran, chain_ran}
use Rattle.listed.specs.Prepared.{PreparedRight, grounds_right}
use Rattle.listed.specs.Choosing.{parent_of, choices, choices_plain}
use Rattle.listed.specs.Answered.{Bits, bits_bounded}
use Rattle.listed.specs.Saved.{by_bit, shown, Way, walk_mirrors}
use Rattle.listed.specs.Ranged.{way_ranged}
use Rattle.terms.specs.declared.Turn.{Turn}
use Rattle.terms.specs.Stops.{Handed}

shown_images : (n : ℕ) (s : walks.Walk) → (shown n s).images ≡ room_of 16 (images s)
shown_images n (walking r c xs) = refl
shown_images n (at_answer x xs) = refl
shown_images n at_end = refl

module _ (s tw : List ℕ) (g : Grounds s tw) where
  abbrev n : ℕ
  n = entries s

  abbrev m : ℕ
  m = entries tw

  abbrev e : Entries
  e = entries_of width s

  abbrev w : Entries
  w = entries_of width tw

  -- the table that preparing left is right
  pub prepared_right : (left : List ℕ) → Prepared s tw left → PreparedRight s tw left
  prepared_right left p = grounds_right s tw g p.lent p.cleared p.state p.start p.turns p.ended

  module _ (left : List ℕ) (right : PreparedRight s tw left) where
    pub bits : Bits n m e w g.tree g.twig (by_bit (can left))
    bits q c a b d f = (λ h. right.right.can_sound c q d f a b h, λ h. right.right.can_complete c q d f a b h)

    -- the walk over the table's bits
    abbrev pub ch : Choices
    ch = choices n e w (by_bit (can left))

    pub rise : Rising ch
    rise = plain_rising ch (choices_plain n e w (by_bit (can left)))

    pub bound : Bounded ch m n
    bound = bits_bounded n m e w g.tree g.twig (by_bit (can left)) bits

    abbrev OnWay : walks.Walk → Type 0
    OnWay x = Way n m e w g.tree g.twig g.small (can left) bound x

    -- ---- public turns are turns of the written rule

    -- a saved walk that stands for one on the way
    pub record Standing (x : Walk) : Type 0 where
      pub walk : walks.Walk
      pub same : x ≡ shown n walk
      pub way : OnWay walk

    abbrev step : Walk → Next Walk
    step = step_of n m e w (can left)

    mirror : Mirrors (shown n) OnWay walk_done (walk_step ch) ended step
    mirror = walk_mirrors n m e w g.tree g.twig g.small (can left) bound

    standing_stays : (b : ℕ) (x : Walk) → Standing x → Standing (turn Walk ended step b x).state
    standing_stays b x i =
        let t = turn walks.Walk walk_done (walk_step ch) b i.walk in
        record {
          walk = t.state;
          same = ap (λ (y : Walk). (turn Walk ended step b y).state) i.same
              ∙ ap (λ (u : Turned Walk). u.state)
              (turn_mirrored (shown n) OnWay walk_done (walk_step ch) ended step mirror b i.walk i.way);
          way = turn_inv (shown n) OnWay walk_done (walk_step ch) ended step mirror b i.walk i.way;
        }

    abbrev Is : Turn Walk → Turned Walk → Type 0
    Is r t = Back (λ x. x.state) (λ x. x.steps) (λ x. x.stop) (λ x. x) r t

    walk_runs : (b : ℕ) (x : Walk) (r : Turn Walk) → Standing x → WalkPromise s tw left b x r → Is r (turn Walk ended step b x)
    walk_runs b x r i h =
        let f : in_range n m w x ≡ true = rw i.same
        (way_ranged n m e w g.tree g.twig g.small (can left) bound i.walk i.way) in
        let q : walk_turn_of s tw left b x ≡ walk_run_of n m e w (can left) b x
        = begun_runs s tw g.given (length left) x (in_range n m w x) (walk_run_of n m e w (can left) b x) f right.room in
        let k : Handed r (walk_run_of n m e w (can left) b x) = subst (Handed r) q h in
        record {
          state_same = k.state;
          steps_same = k.steps;
          stop_same = told_halt r.stop (walk_run_of n m e w (can left) b x).halt
              k.stop;
        }

    -- ---- chains

    abbrev said_of : Turned Walk → List (List ℕ)
    said_of t = told (stop_of t.halt) (take m t.state.images)

    said_same : (r : Turn Walk) (t : Turned Walk) → Standing t.state → Is r t → tell_of m r ≡ said_of t
    said_same r t i k = ap₂ (λ (a : Stop) (x : Walk). told a (take m x.images)) k.stop_same k.state_same

    abbrev Runs : Walk → {x : Walk} {B K : ℕ} {r : Turn Walk} → WalkTurns s tw left x B K r → Type 0
    Runs y c =
        Ran (λ b from t. WalkPromise s tw left b from t) (λ t. t.state) (λ t. t.steps) (λ t. t.stop)
        (λ x. x) ended step Standing standing_stays
        walk_runs (tell_of m) said_of said_same y c

    ran : {x : Walk} {B K : ℕ} {r : Turn Walk} (c : WalkTurns s tw left x B K r) → Standing x → Runs x c
    ran {x} c i =
        chain_ran (λ b from t. WalkPromise s tw left b from t) (λ t. t.state) (λ t. t.steps) (λ t. t.stop)
        (λ x. x) ended step Standing standing_stays
        walk_runs (tell_of m) said_of said_same c x refl i

    -- what a turn of the walk tells, in twig preorder
    turn_said : (b : ℕ) (x : walks.Walk) → OnWay x
        → said_of (as_turned (shown n) (walk_turn ch b x)) ≡ map reverse (tell (walk_turn ch b x))
    turn_said b x i = by (walk_turn ch b x).halt refl
      where
        z : List ℕ
        z = images (walk_turn ch b x).state

        by : (h : Halt) → (walk_turn ch b x).halt ≡ h
            → told (stop_of h) (take m (shown n (walk_turn ch b x).state).images) ≡ map reverse
            (telling.tell_of h (images (walk_turn ch b x).state))
        by answer q =
            let k = (turn_good ch m b x q i.way).0 in
            ap (λ (l : List ℕ). l ∷ [])
            (ap (take m) (shown_images n (walk_turn ch b x).state)
            ∙ ap (λ (j : ℕ). take j (room_of 16 (images (walk_turn ch b x).state))) (sym k)
            ∙ room_take 16 (images (walk_turn ch b x).state))
        by end q = refl
        by budget q = refl
        by (refusal number entry) q = refl

    both : {a b l k : List (List ℕ)} → a ≡ b → l ≡ k → a ++ l ≡ b ++ k
    both p q = ap₂ (λ (a l : List (List ℕ)). a ++ l) p q

    chain_said : {x : walks.Walk} {B K : ℕ} {t : Turned walks.Walk} (c : telling.WalkTurns ch x B K t) → OnWay x
        → chained.told (λ u. said_of (as_turned (shown n) u)) c ≡ map reverse (chained.told tell c)
    unfolding chained.told
    chain_said {x} (one {b = b} {r = t} q) i = subst (λ (u : Turned walks.Walk). said_of (as_turned (shown n) u) ≡ map reverse (tell u))
        (sym q) (turn_said b x i)
    chain_said {x} (more {b = b} {r = t} q c) i =
        let h : said_of (as_turned (shown n) t) ≡ map reverse (tell t)
        = subst (λ (u : Turned walks.Walk). said_of (as_turned (shown n) u) ≡ map reverse (tell u)) (sym q) (turn_said b x i) in
        let j : OnWay t.state = subst (λ (u : Turned walks.Walk). OnWay u.state) (sym q)
        (turn_inv (shown n) OnWay walk_done (walk_step ch) ended step mirror b x i) in
        both h (chain_said c j) ∙ sym (map-append reverse (tell t) (chained.told tell c))

    -- the chain over the choices that a chain of public turns is
    pub record Run (x : walks.Walk) {y : Walk} {B K : ℕ} {r : Turn Walk} (c : WalkTurns s tw left y B K r) : Type 0 where
      pub last : Turned walks.Walk
      pub count : ℕ
      pub chain : telling.WalkTurns ch x B count last
      pub count_same : K ≡ count
      pub stop_same : r.stop ≡ stop_of last.halt
      pub standing : Standing r.state
      pub told_same : chained.told (tell_of m) c ≡ map reverse (chained.told tell chain)
      pub each_same : AllButLast (λ u. u.stop ≡ Stop.Budget) c → AllButLast (λ u. stop_of u.halt ≡ Stop.Budget) chain

    walk_run_law : {y : Walk} {B K : ℕ} {r : Turn Walk} (c : WalkTurns s tw left y B K r) (i : Standing y) → Run i.walk c
    walk_run_law {y} {B} {K} {r} c i =
        let a = ran c i in
        let b = chain_mirrored (shown n) OnWay walk_done (walk_step ch) ended step mirror said_of (λ u. stop_of u.halt ≡ Stop.Budget)
        a.chain
        i.walk i.same i.way in
        record {
          last = b.last;
          count = b.count;
          chain = b.chain;
          count_same = a.count_same ∙ b.count_same;
          stop_same = a.back.stop_same ∙ ap (λ (t : Turned Walk). stop_of t.halt) b.last_same;
          standing = record {
            walk = a.kept.walk;
            same = a.back.state_same ∙ a.kept.same;
            way = a.kept.way;
          };
          told_same = a.told_same ∙ b.told_same ∙ chain_said b.chain i.way;
          each_same = λ z. b.each_same (a.each_same z);
        }

    -- ---- the walks on the way

    -- the fresh walk of m nodes over the table's bits
    abbrev pub first : walks.Walk
    first = walks.fresh ch (m - 1)

    fresh_same : fresh ≡ shown n first
    unfolding room_of parent_of image_of
    fresh_same = refl

    fresh_standing : Standing fresh
    fresh_standing = record {
      walk = first;
      same = fresh_same;
      way = record { way = fresh_way ch m (m - 1) (omega (arith, g.twig.some)); least = unfold parent_of image_of in omega arith };
    }

    way_standing : {x : Walk} → OnTheWay s tw left x → Standing x
    way_standing start = fresh_standing
    way_standing (handed c) = (walk_run_law c fresh_standing).standing

    -- every chain of public turns from the fresh walk
    pub fresh_run : {B K : ℕ} {r : Turn Walk} (c : WalkTurns s tw left fresh B K r) → Run first c
    unfolding fresh_standing
    fresh_run c = walk_run_law c fresh_standing

    -- every chain of public turns from a walk on the way
    pub record Onward {y : Walk} {B K : ℕ} {r : Turn Walk} (c : WalkTurns s tw left y B K r) : Type 0 where
      pub from : walks.Walk
      pub way : potential.OnTheWay ch m from
      pub run : Run from c

    pub way_run : {y : Walk} {B K : ℕ} {r : Turn Walk} (c : WalkTurns s tw left y B K r) → OnTheWay s tw left y → Onward c
    way_run c i = let x = way_standing i in record { from = x.walk; way = x.way.way; run = walk_run_law c x }
