-- Walking in turns on bare numbers: a chain of calls, each begun on the nineteen numbers that the last one left, is a chain of public turns, on any
-- signature, twig, table and numbers.
--   walk_untouched            a turn that took no step leaves the walk's numbers as given
--   WalkTold r q              a call that gave r tells what the public turn q hands back, and the next call reads that walk
--   said                      so does every call
--   walk_as_written           the walk left is the one after exactly the steps in out, by the written rule
--   WalkCalls s tw table l B K r   calls of the walk over one table, from the numbers l: budgets B and steps K in all, the last one gave r
--   tell_numbers m r           the answer that a call told, in twig preorder: where out[0] is 0, the first m of the numbers that it left
--   WalkRan, walk_chain       such calls are public turns from the walk that l stands for: the same steps, stops and answers told
use Rattle.std.specs.Prelude.{ℕ, ◌*◌, ◌≤◌, ◌<◌, refl, Bool, List, [], ◌∷◌, eqb, leb, length, get_or, take}
use Rattle.std.proofs.Math.Path.{◌≡◌}
use Rattle.std.proofs.Common.{ap, ◌∙◌, sym, subst}
use Rattle.std.proofs.Math.Bool.{true, false}
use native.Mathlib.Omega.{arith}
use Rattle.std.proofs.Math.Decide.{ℕ_discrete, dec_le}
use Rattle.std.proofs.lemmas.List.{take-append-le}
use Rattle.turns.specs.Pick.{pick}
use Rattle.turns.specs.Turn.{Next, moved, answered, refused, Turned, Steps, none, then, on, found}
use Rattle.turns.specs.Chains.{Chain}
use Rattle.trees.specs.Signature.{Entries, entries}
use Rattle.walks.specs.Chained.{told, AllButLast}
use Rattle.terms.specs.declared.Stop.{Stop}
use Rattle.terms.specs.Stops as stops
use Rattle.terms.specs.Stops.{Told}
use Rattle.checking.specs.Turn.{refused_at}
use Rattle.checked.specs.Apart.{stop_of, told_stop}
use Rattle.preparing.specs.Masks.{has_bit}
use Rattle.twig_turns.specs.Given.{table_width, given_of, refused_for, ready_for, begun_for}
use Rattle.twig_turns.proofs.Judged.{given_twig, begun_early}
use Rattle.walk_ranges.specs.declared.Phase.{Phase}
use Rattle.walk_ranges.proofs.Images.{place_length}
use Rattle.walking.specs.declared.Walk.{Walk}
use Rattle.walking.specs.Walking as walking
use Rattle.walking.specs.Walking.{in_range, ended, bad_end, end_of, back, readied_at, readied, walk_on, step_of}
use Rattle.walking.specs.WalkTurn.{walk_fits, walk_run, walk_turn_of, WalkPromise}
use Rattle.loose_turns.specs.Walked.{step, step_as_written}
use Rattle.listed.specs.Questions as questions
use Rattle.listed.specs.Questions.{WalkTurns, tell_of}
use Rattle.listed.specs.Cases.{walk_back, walk_handed}
use Rattle.telling.specs.Numbers.{TurnTold}
use Rattle.walk_ranges.specs.Phases.{phase_number}
use Rattle.telling.specs.Walk.{sixteen, outside, walk_of, walk_numbers, kept_of}
use Rattle.telling.proofs.WalkLaws.{walk_outside, kept_walk}
use Rattle.twig_calls.specs.Walk.{WalkTurnPromise}
use Rattle.telling.specs.Back.{sixteen_whole, walk_numbers_back}
use Rattle.calls_told.specs.Back.{walk_back_law, full, walk_saved, kept_read, kept_same}
use Rattle.calls_told.specs.Chains.{Called, stop_number, steps, reason_budget, no_steps, chain_ran}
use Rattle.terms.specs.declared.Turn.{Turn}

-- the answer that a call told: out[0] is 0, and the first m of the numbers that it left are the images in twig preorder
abbrev pub tell_numbers : ℕ → Called → List (List ℕ)
tell_numbers m r = pick (eqb (stop_number r) 0) (take m r.left ∷ []) []

-- ---- a step keeps sixteen images

-- what a step comes to has sixteen images
abbrev Full : Next Walk → Type 0
Full (moved to) = length to.images ≡ 16
Full (answered to) = length to.images ≡ 16
Full (refused number entry) = Unit {0}

readied_full : (p : Phase) (w : Walk) → length w.images ≡ 16 → length (readied_at p w).images ≡ 16
readied_full Phase.Walking w h = h
readied_full Phase.Answer w h = place_length w.images w.node 0 ∙ h
readied_full Phase.Ended w h = h

step_full : (n m : ℕ) (e t : Entries) (bits : ℕ → ℕ) (w : Walk) → length w.images ≡ 16 → Full (step_of n m e t bits w)
unfolding step_of walk_on back walking.found
step_full n m e t bits w h =
    let v = readied w in
    let k = readied_full w.phase w h in
    by (bad_end n e t w) (leb (end_of n e t v) v.candidate.0) (has_bit (bits v.candidate.0) v.node) (leb v.node 1) (eqb v.node m) _ _ _ _ _
    k (place_length v.images _ _ ∙ k) (place_length v.images _ _ ∙ k) (place_length v.images _ _ ∙ k) k
  where
    by : (a b c d f : Bool) (u v x y z : Walk) → length u.images ≡ 16 → length v.images ≡ 16 → length x.images ≡ 16
        → length y.images ≡ 16 → length z.images ≡ 16
        → Full (pick a (refused 11 0) (pick b (pick d (moved u) (moved v)) (pick c (pick f (answered x) (moved y)) (moved z))))
    by true b c d f u v x y z p q r i j = tt
    by false true c true f u v x y z p q r i j = p
    by false true c false f u v x y z p q r i j = q
    by false false true d true u v x y z p q r i j = r
    by false false true d false u v x y z p q r i j = i
    by false false false d f u v x y z p q r i j = j

module _ (s tw table : List ℕ) where
  steps_full : {k : ℕ} {a b : Walk} → Steps Walk ended (step s tw table) k a b → length a.images ≡ 16 → length b.images ≡ 16
  steps_full none h = h
  steps_full (then (on f e) m) h = steps_full m (subst Full e (step_full _ _ _ _ _ _ h))
  steps_full (then (found f e) m) h = steps_full m (subst Full e (step_full _ _ _ _ _ _ h))

  -- ---- one call

  -- what the public turn hands back
  abbrev public : ℕ → Walk → Turn Walk
  public b w = walk_back (walk_turn_of s tw table b w)

  written : (b : ℕ) (w : Walk) → length w.images ≡ 16 → Steps Walk ended (step s tw table) (public b w).steps w (public b w).state
  written b w h = step_as_written s tw table b w h (public b w) (walk_handed (walk_turn_of s tw table b w))

  -- numbers that stand for no walk are refused, and left
  record Outside (t : Turned Walk) : Type 0 where
    pub kept : t.state ≡ outside
    pub unanswered : stop_of t.halt ≡ Stop.Answer → ⊥

  outside_turn : (b : ℕ) → Outside (walk_turn_of s tw table b outside)
  unfolding begun_for ready_for in_range
  outside_turn b = by (eqb (given_of s tw).reason 1)
    where
      by : (c : Bool) → Outside (pick c (refused_at outside 9) (refused_for outside (given_of s tw)))
      by true = record { kept = refl; unanswered = λ e. let z : ◌≡◌ {A = ℕ} 0 1 = cc in omega arith }
      by false = record { kept = refl; unanswered = λ e. let z : ◌≡◌ {A = ℕ} 0 1 = cc in omega arith }

  -- an answer is told for a twig of at most 16 nodes only
  few_nodes : (b : ℕ) (w : Walk) → (public b w).stop ≡ Stop.Answer → entries tw ≤ 16
  few_nodes b w e = by (ℕ_discrete (given_of s tw).reason 1)
    where
      by : Dec ((given_of s tw).reason ≡ 1) → entries tw ≤ 16
      by (yes g) = (given_twig s tw g).small
      by (no n) =
          let q = ap (λ (t : Turned Walk). stop_of t.halt) (sym (begun_early (table_width * entries s) s tw (length table) w (walk_fits s tw w) (walk_run s tw table b w) n)) ∙ e in
          let z : ◌≡◌ {A = ℕ} 0 1 = cc in absurd (omega arith)

  -- "rewritten by the steps it took and by nothing else"
  pub walk_untouched : (l : List ℕ) (b r : ℕ) (left out : List ℕ) → length l ≡ 19 → WalkTurnPromise s tw table l b r left out
      → get_or out 1 0 ≡ 0 → left ≡ l
  walk_untouched l b r left out h p z =
      let t = walk_turn_of s tw table b (walk_of l) in
      p.now_at
      ∙ kept_same walk_saved l t.state (walk_numbers_back l h)
      (no_steps (written b (walk_of l) (full l)) (sym (ap (λ (o : List ℕ). get_or o 1 0) p.says.out_is) ∙ z))

  -- the call tells what the public turn hands back; the next call reads that walk; at an answer its images are the first numbers left
  pub record WalkTold (r : Called) (q : Turn Walk) : Type 0 where
    pub says : TurnTold (stops.told q.stop) q.steps r.number r.out
    pub reads : walk_of r.left ≡ q.state
    pub writes : q.stop ≡ Stop.Answer → r.left ≡ walk_numbers q.state
    pub sixteen_images : length q.state.images ≡ 16
    pub few : q.stop ≡ Stop.Answer → entries tw ≤ 16

  pub said : (b : ℕ) (l : List ℕ) (r : Called) → WalkTurnPromise s tw table l b r.number r.left r.out → WalkTold r (public b (walk_of l))
  said b l r p = record {
    says = subst (λ (x : Told). TurnTold x t.steps r.number r.out) (sym (told_stop t.halt)) p.says;
    reads = ap walk_of p.now_at ∙ kept_read walk_saved l t.state (walk_back_law t.state long) (λ k. (over k).kept);
    writes = λ e. p.now_at ∙ at_answer_law e (dec_le (get_or l 18 0) 2);
    sixteen_images = long;
    few = few_nodes b (walk_of l);
  }
    where
      t : Turned Walk
      t = walk_turn_of s tw table b (walk_of l)

      long : length t.state.images ≡ 16
      long = steps_full (written b (walk_of l) (full l)) (full l)

      over : 2 < get_or l 18 0 → Outside t
      over k = subst (λ (w : Walk). Outside (walk_turn_of s tw table b w)) (sym (walk_outside l k)) (outside_turn b)

      at_answer_law : stop_of t.halt ≡ Stop.Answer → Dec (get_or l 18 0 ≤ 2) → kept_of l t.state ≡ walk_numbers t.state
      at_answer_law e (yes k) = kept_walk l t.state k
      at_answer_law e (no k) = absurd ((over (omega arith)).unanswered e)

  -- the walk left is the one after exactly out[1] steps of the written rule
  pub walk_as_written : (l : List ℕ) (b r : ℕ) (left out : List ℕ) → WalkTurnPromise s tw table l b r left out
      → Steps Walk ended (step s tw table) (get_or out 1 0) (walk_of l) (walk_of left)
  walk_as_written l b r left out p =
      let x = said b l (record { number = r; left = left; out = out }) p in
      subst (λ (w : Walk). Steps Walk ended (step s tw table) (get_or out 1 0) (walk_of l) w) (sym x.reads)
      (subst (λ (i : ℕ). Steps Walk ended (step s tw table) i (walk_of l) (public b (walk_of l)).state)
      (sym (ap (λ (o : List ℕ). get_or o 1 0) p.says.out_is)) (written b (walk_of l) (full l)))

  -- ---- calls one after the other

  -- any chain of calls over one table, with any budgets, each begun on the numbers that the one before left
  abbrev pub WalkCalls : List ℕ → ℕ → ℕ → Called → Type 0
  WalkCalls l B K r =
      Chain (List ℕ) Called (λ b from t. WalkTurnPromise s tw table from b t.number t.left t.out) (λ t. t.left) steps l B K r

  -- the first m of a walk's numbers are its first m images
  first_images : (m : ℕ) (w : Walk) → m ≤ 16 → length w.images ≡ 16 → take m (walk_numbers w) ≡ take m w.images
  first_images m w l h =
      take-append-le m (sixteen w.images []) (w.node ∷ w.candidate.0 ∷ phase_number w.phase ∷ []) l ∙ ap (take m) (sixteen_whole w.images h)

  tell_same : (r : Called) (q : Turn Walk) → WalkTold r q → tell_numbers (entries tw) r ≡ tell_of (entries tw) q
  tell_same r q x =
      ap (λ (o : List ℕ). pick (eqb (get_or o 0 0) 0) (take (entries tw) r.left ∷ []) []) x.says.out_is ∙ by q.stop refl
    where
      by : (z : Stop) → q.stop ≡ z
          → pick (eqb (stops.told z).reason 0) (take (entries tw) r.left ∷ []) [] ≡ questions.told z (take (entries tw) q.state.images)
      by Stop.Answer e =
          ap (λ (l : List ℕ). l ∷ []) (ap (take (entries tw)) (x.writes e) ∙ first_images (entries tw) q.state (x.few e) x.sixteen_images)
      by Stop.End e = refl
      by Stop.Budget e = refl
      by (Stop.Refused y) e = refl

  -- the public turns that a chain of calls is
  pub record WalkRan (w : Walk) {l : List ℕ} {B K : ℕ} {r : Called} (c : WalkCalls l B K r) : Type 0 where
    pub last : Turn Walk
    pub total : ℕ
    pub chain : WalkTurns s tw table w B total last
    pub told_as : WalkTold r last
    pub total_same : K ≡ total
    pub told_same : told (tell_numbers (entries tw)) c ≡ told (tell_of (entries tw)) chain
    pub each_same : AllButLast (λ u. stop_number u ≡ 2) c → AllButLast (λ u. u.stop ≡ Stop.Budget) chain

  pub walk_chain : {l : List ℕ} {B K : ℕ} {r : Called} (c : WalkCalls l B K r) (w : Walk) → walk_of l ≡ w → WalkRan w c
  walk_chain c w e =
      let x = chain_ran (λ b from t. WalkTurnPromise s tw table from b t.number t.left t.out) (λ t. t.left) steps
      (λ b from t. WalkPromise s tw table b from t) (λ t. t.state) (λ t. t.steps) walk_of public WalkTold
      (λ b w. walk_handed (walk_turn_of s tw table b w)) said (λ b l r p. (said b l r p).reads)
      (λ r q x. ap (λ (o : List ℕ). get_or o 1 0) x.says.out_is)
      (tell_numbers (entries tw)) (tell_of (entries tw)) tell_same (λ u. stop_number u ≡ 2) (λ u. u.stop ≡ Stop.Budget)
      (λ r q x h. reason_budget q.stop (sym (ap (λ (o : List ℕ). get_or o 0 0) x.says.out_is) ∙ h)) c w e in
      record {
        last = x.last;
        total = x.total;
        chain = x.chain;
        told_as = x.same;
        total_same = x.total_same;
        told_same = x.told_same;
        each_same = x.each_same;
      }
