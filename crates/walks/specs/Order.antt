-- Every step leads a walk on: no two counts of steps join the same two states.
--   mark w           the images and the candidate, or the images of an answer, latest first
--   Past a b         the mark b is later than a: greater at a node, with the same before it, or longer
--   On a b           the walk b is further on than a: it has ended and a has not, or its mark is later
--   on_trans, on_never   further on is transitive, and nothing is further on than itself
--   step_on          every step leads on
--   walk_count_unique   no two counts of steps join the same two states
use Rattle.std.specs.Prelude.{ℕ, suc, ◌+◌, ◌≡◌, refl, ◌⊎◌, true, false, List, [], ◌∷◌}
use Rattle.std.proofs.Common.{subst, inl, inr, arith}
use Rattle.turns.specs.Turn.{Next, moved, answered, refused, Step, on, found, Steps}
use Rattle.turns.specs.Counts.{count_unique}
use Rattle.walks.specs.Walking.{Choices, Rising, Walk, walking, at_answer, at_end, walk_done, walk_step}
use Rattle.walks.specs.Answers.{Extends, same, more, Before, less, later}
use Rattle.walks.specs.Comparing.{extends_length, extends_trans, before_more, before_cut, before_never, before_trans}
use Rattle.walks.specs.Stepping as stepping
use Rattle.walks.specs.Stepping.{Tried, step_walking, step_answer}

-- an answer stands behind its last candidate
abbrev pub mark : Walk → List ℕ
mark (walking r c xs) = c ∷ xs
mark (at_answer x xs) = 0 ∷ x ∷ xs
mark at_end = []

-- in the order of the nodes: greater at the first one where they differ, or longer
pub data Past (a b : List ℕ) : Type 0 where
  greater : Before a b → Past a b
  longer : {r : ℕ} → Extends a b (suc r) → Past a b

-- the walk b is further on than a: it has ended and a has not, or its mark is later
abbrev pub On : Walk → Walk → Type 0
On a b = (walk_done a ≡ false) × ((walk_done b ≡ true) ⊎ Past (mark a) (mark b))

past_trans : {a b c : List ℕ} → Past a b → Past b c → Past a c
past_trans (greater p) (greater q) = greater (before_trans p q)
past_trans (greater p) (longer e) = greater (before_more p e)
past_trans {a} {c = c} (longer e) (greater q) = by (before_cut e q)
  where
    by : Before a c ⊎ ((s : ℕ) × Extends a c (suc s)) → Past a c
    by (inl p) = greater p
    by (inr p) = longer p.1
past_trans {a} {c = c} (longer {r = r} e) (longer {r = s} f) =
    longer {r = s + suc r} (subst (Extends a c) (omega arith) (extends_trans e f))

past_never : (a : List ℕ) → Past a a → ⊥
past_never a (greater p) = before_never a p
past_never a (longer e) = omega (arith, extends_length e)

pub on_trans : (a b c : Walk) → On a b → On b c → On a c
on_trans a b c (h, inl e) (g, q) = let z : ◌≡◌ {A = ℕ} 0 1 = cc in absurd (omega arith)
on_trans a b c (h, inr p) (g, inl e) = (h, inl e)
on_trans a b c (h, inr p) (g, inr q) = (h, inr (past_trans p q))

pub on_never : (a : Walk) → On a a → ⊥
on_never a (h, inl e) = let z : ◌≡◌ {A = ℕ} 0 1 = cc in absurd (omega arith)
on_never a (h, inr p) = past_never (mark a) p

module _ (ch : Choices) (rise : Rising ch) where
  -- what a step comes to is further on than its candidate
  abbrev Further : List ℕ → Next Walk → Type 0
  Further a (moved to) = (walk_done to ≡ true) ⊎ Past a (mark to)
  Further a (answered to) = (walk_done to ≡ true) ⊎ Past a (mark to)
  Further a (refused number entry) = Unit

  tried_further : {r c : ℕ} {xs : List ℕ} {y : Next Walk} → Tried ch r c xs y → Further (c ∷ xs) y
  tried_further (stepping.finish l) = inl refl
  tried_further (stepping.back {x = x} {xs = xs} l) = inr (greater (later (less (rise xs x) same)))
  tried_further (stepping.found l e) = inr (longer (more same))
  tried_further (stepping.set l e) = inr (longer (more same))
  tried_further (stepping.miss {c = c} {xs = xs} l e) = inr (greater (less (rise xs c) same))

  -- an answer's mark is before that of the candidate that it goes on with
  further_later : {a b : List ℕ} (y : Next Walk) → Past a b → Further b y → Further a y
  further_later (moved to) p (inl e) = inl e
  further_later (moved to) p (inr q) = inr (past_trans p q)
  further_later (answered to) p (inl e) = inl e
  further_later (answered to) p (inr q) = inr (past_trans p q)
  further_later (refused number entry) p q = tt

  step_further : (w : Walk) → walk_done w ≡ false → Further (mark w) (walk_step ch w)
  step_further (walking r c xs) h = tried_further (step_walking ch r c xs)
  step_further (at_answer x xs) h =
      further_later (walk_step ch (at_answer x xs)) (greater (later (less (rise xs x) same))) (tried_further (step_answer ch x xs))
  step_further at_end h = let z : ◌≡◌ {A = ℕ} 0 1 = cc in absurd (omega arith)

  pub step_on : (a b : Walk) → Step Walk walk_done (walk_step ch) a b → On a b
  step_on a b (on h e) = (h, subst (Further (mark a)) e (step_further a h))
  step_on a b (found h e) = (h, subst (Further (mark a)) e (step_further a h))

  -- "equal to the count of the written step rule between the old and new state": there is one such count
  pub walk_count_unique : {j k : ℕ} {a b : Walk} → Steps Walk walk_done (walk_step ch) j a b → Steps Walk walk_done (walk_step ch) k a b → j ≡ k
  walk_count_unique p q = count_unique Walk walk_done (walk_step ch) On on_trans on_never step_on p q
