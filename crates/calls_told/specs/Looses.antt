-- The theorems of the walk, of calls on bare numbers: for an accepted signature and twig, a table that calls of preparing left, the numbers that the
-- call for a fresh walk left, and any chain of calls of the walk, with any budgets.
--   numbers_question         a signature and a twig of which calls of the check reported the end are accepted
--   NumbersListed c          what the theorem says of a chain c of calls
--   numbers_loose_exactly    the answers told along the calls are the ascending list of all loose answers, each once, and all of it where out[0] is 1
--   numbers_end_once         calls from the fresh walk to the end have taken equally many steps, however they are cut
--   NumbersOnTheWay l        the numbers l are those of the fresh walk, or were left by a chain of calls from it
--   NumbersWithin B K r      what the theorem says of calls between
--   numbers_walk_within      from the start, from any answer and from any numbers left, at most 2×m×n+1 steps
use Rattle.std.specs.Prelude.{ℕ, ◌+◌, ◌*◌, ◌≤◌, ◌≡◌, refl, ◌⊎◌, List, [], ◌∷◌, ◌++◌, get_or}
use Rattle.std.proofs.Common.{ap, ◌∙◌, sym, subst, inl, inr, arith}
use Rattle.trees.specs.Signature.{entries}
use Rattle.walks.specs.Every.{Pairs}
use Rattle.walks.specs.Chained.{told, AllButLast}
use Rattle.terms.specs.declared.Stop.{Stop}
use Rattle.terms.specs.Stops as stops
use Rattle.checked.specs.Yields.{Words}
use Rattle.twig_turns.specs.Grounds.{Accepted}
use Rattle.walking.specs.Walking.{fresh}
use Rattle.listed.specs.Questions.{Prepared, OnTheWay, start, handed}
use Rattle.listed.specs.Exactly.{all_loose, AllOf, loose_exactly, end_steps_once, walk_within_law}
use Rattle.telling.specs.Walk.{walk_of}
use Rattle.twig_calls.specs.Walk.{WalkFreshPromise}
use Rattle.calls_told.specs.Chains.{Called, stop_number, reason_end}
use Rattle.calls_told.specs.Checks.{CheckCalls, numbers_accepted}
use Rattle.calls_told.specs.Prepares.{Readied, readied}
use Rattle.calls_told.specs.Walks.{WalkTold, WalkCalls, tell_numbers, walk_chain}
use Rattle.terms.specs.declared.Turn.{Turn}
use Rattle.walking.specs.declared.Walk.{Walk}

-- accepted, by calls of the check from 1, 0, 0: the signature as a data tree, 0, and the twig as a twig, 1
pub numbers_question : (s tw : List ℕ) → Words s → Words tw → {A B J K : ℕ} {r u : Called} → CheckCalls 0 s (1 ∷ 0 ∷ 0 ∷ []) A J r → stop_number r ≡ 1
    → CheckCalls 1 tw (1 ∷ 0 ∷ 0 ∷ []) B K u → stop_number u ≡ 1 → Accepted s tw
numbers_question s tw v w c p d q = record { data_tree = numbers_accepted 0 s v c p; twig = numbers_accepted 1 tw w d q }

module _ (s tw left : List ℕ) where
  -- what is told along a chain of calls from the fresh walk
  pub record NumbersListed {l : List ℕ} {B K : ℕ} {r : Called} (c : WalkCalls s tw left l B K r) : Type 0 where
    pub rest : List (List ℕ)
    pub front : told (tell_numbers (entries tw)) c ++ rest ≡ all_loose s tw
    pub whole : stop_number r ≡ 1 → told (tell_numbers (entries tw)) c ≡ all_loose s tw
    pub unrefused : stop_number r ≤ 2
    -- and that list is all loose answers and no others, ascending, each once
    pub all : AllOf s tw (all_loose s tw)
    pub once : Pairs (λ y z. y ≡ z → ⊥) (all_loose s tw)

  -- calls that each but the last spent their budget: to the next answer or the end
  pub record NumbersWithin (B K : ℕ) (r : Called) : Type 0 where
    pub limit : K ≤ 2 * (entries tw * entries s) + 1
    pub arrives : 2 * (entries tw * entries s) + 1 ≤ B → (stop_number r ≡ 0) ⊎ (stop_number r ≡ 1)

  -- "from the start, and from any answer": numbers of the fresh walk, or left by a chain of calls from it
  pub data NumbersOnTheWay : List ℕ → Type 0 where
    begins : {number : ℕ} {l : List ℕ} → WalkFreshPromise number l → NumbersOnTheWay l
    came : {number B K : ℕ} {l : List ℕ} {r : Called} → WalkFreshPromise number l → WalkCalls s tw left l B K r → NumbersOnTheWay r.left

  -- the numbers that the call for a fresh walk left are read as the fresh walk
  fresh_read : {number : ℕ} {l : List ℕ} → WalkFreshPromise number l → walk_of l ≡ fresh
  fresh_read f = ap walk_of f.numbers

  way : {l : List ℕ} → NumbersOnTheWay l → OnTheWay s tw left (walk_of l)
  way (begins f) = subst (OnTheWay s tw left) (sym (fresh_read f)) start
  way (came f c) = let x = walk_chain s tw left c fresh (fresh_read f) in subst (OnTheWay s tw left) (sym x.told_as.reads) (handed x.chain)

  -- out[0] of a call is the number of the public stop
  reason_is : (r : Called) (q : Turn Walk) → WalkTold s tw left r q → stop_number r ≡ (stops.told q.stop).reason
  reason_is r q x = ap (λ (o : List ℕ). get_or o 0 0) x.says.out_is

  module _ (accepted : Accepted s tw) (prepared : Readied s tw left) where
    abbrev p : Prepared s tw left
    p = readied s tw left prepared

    -- demand 2: the answers told, in order, are the front of the list; where the end is reported they are the list
    pub numbers_loose_exactly : {number B K : ℕ} {l : List ℕ} {r : Called} → WalkFreshPromise number l → (c : WalkCalls s tw left l B K r)
        → NumbersListed c
    numbers_loose_exactly {r = r} f c =
        let x = walk_chain s tw left c fresh (fresh_read f) in
        let y = loose_exactly s tw accepted left p x.chain in
        let e = reason_is r x.last x.told_as in
        record {
          rest = y.rest;
          front = ap (λ (z : List (List ℕ)). z ++ y.rest) x.told_same ∙ y.front;
          whole = λ h. x.told_same ∙ y.whole (reason_end x.last.stop (sym e ∙ h));
          unrefused = by x.last.stop e y.unrefused;
          all = y.all;
          once = y.once;
        }
      where
        by : (z : Stop) → stop_number r ≡ (stops.told z).reason → (z ≡ Stop.Answer) ⊎ (z ≡ Stop.End) ⊎ (z ≡ Stop.Budget) → stop_number r ≤ 2
        by z e (inl q) = let i = e ∙ ap (λ (y : Stop). (stops.told y).reason) q in omega arith
        by z e (inr (inl q)) = let i = e ∙ ap (λ (y : Stop). (stops.told y).reason) q in omega arith
        by z e (inr (inr q)) = let i = e ∙ ap (λ (y : Stop). (stops.told y).reason) q in omega arith

    -- the number of steps to the end is one number, whatever the budgets of the calls
    pub numbers_end_once : {number other B C K L : ℕ} {l k : List ℕ} {r u : Called} → WalkFreshPromise number l → WalkFreshPromise other k
        → WalkCalls s tw left l B K r → WalkCalls s tw left k C L u → stop_number r ≡ 1 → stop_number u ≡ 1 → K ≡ L
    numbers_end_once {r = r} {u = u} f g c d h i =
        let x = walk_chain s tw left c fresh (fresh_read f) in
        let y = walk_chain s tw left d fresh (fresh_read g) in
        x.total_same
        ∙ end_steps_once s tw accepted left p x.chain y.chain
        (reason_end x.last.stop (sym (reason_is r x.last x.told_as) ∙ h))
        (reason_end y.last.stop (sym (reason_is u y.last y.told_as) ∙ i))
        ∙ sym y.total_same

    -- demand 3: the steps of calls that each but the last spent their budget, summed
    pub numbers_walk_within : {B K : ℕ} {l : List ℕ} {r : Called} → NumbersOnTheWay l → (c : WalkCalls s tw left l B K r)
        → AllButLast (λ u. stop_number u ≡ 2) c → NumbersWithin B K r
    numbers_walk_within {l = l} {r = r} i c h =
        let x = walk_chain s tw left c (walk_of l) refl in
        let y = walk_within_law s tw accepted left p (way i) x.chain (x.each_same h) in
        record {
          limit = omega (arith, y.limit, x.total_same);
          arrives = λ b. by x.last.stop (reason_is r x.last x.told_as) (y.arrives b);
        }
      where
        by : (z : Stop) → stop_number r ≡ (stops.told z).reason → (z ≡ Stop.Answer) ⊎ (z ≡ Stop.End) → (stop_number r ≡ 0) ⊎ (stop_number r ≡ 1)
        by z e (inl q) = inl (e ∙ ap (λ (y : Stop). (stops.told y).reason) q)
        by z e (inr q) = inr (e ∙ ap (λ (y : Stop). (stops.told y).reason) q)
