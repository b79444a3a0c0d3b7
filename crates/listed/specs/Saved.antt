-- The saved walk, with its sixteen images, mirrors the walk over the choices: their steps agree.
--   by_bit can          the test by a table's bits
--   shown n w          the saved walk that stands for the walk w
--   Small n w          its candidate is at most n+1
--   image_room         an image in the room of sixteen
--   nodes              what holds of the images set
--   Way                what holds of every walk on the way
--   walk_mirrors       finished and step agree, and steps keep the way
use Prim.Native.Nat.{ℕ, zero, suc, ◌+◌, ◌-◌, ◌≤◌, ◌<◌}
use Rattle.std.proofs.Math.Path.{◌≡◌, refl, ap}
use Rattle.std.proofs.Common.{◌∙◌, sym, subst, add-one}
use Rattle.std.specs.Prelude.{Bool, ◌&&◌, ◌||◌, leb}
use Rattle.std.proofs.Math.Bool.{true, false}
use mathlib.Core.List.{List, [], ◌∷◌}
use native.Mathlib.Omega.{arith}
use Rattle.std.proofs.Math.Dec.{ltb}
use Rattle.std.proofs.Math.ListN.{length}
use borrow.Author.Tests.{eq-eqb, ne_eqb, le-leb, lt-leb, le-ltb}
use Rattle.turns.specs.Pick.{pick}
use Rattle.turns.specs.Turn.{Next, moved, answered, refused, Step, on, found}
use Rattle.trees.specs.Signature.{Entries}
use Rattle.trees.specs.Facts.{Facts}
use Rattle.walks.specs.Walking as walks
use Rattle.walks.specs.Walking.{Choices, walking, at_answer, at_end, walk_done, walk_step}
use Rattle.walks.specs.Answers.{Good}
use Rattle.walks.specs.Plain.{plain_good}
use Rattle.walks.specs.Stepping as stepping
use Rattle.walks.specs.Stepping.{Tried, step_walking, step_answer}
use Rattle.walks.specs.Potential.{Bounded, Trying, OnTheWay}
use Rattle.walks.specs.Falling.{after_answer, step_way}
use Rattle.walks.specs.Room.{image_of, room_of, room_get, room_set, room_drop, image_zero, image_top, image_down}
use Rattle.walks.specs.Mirror.{as_next, Mirrors}
use Rattle.walk_ranges.specs.declared.Phase.{Phase}
use Rattle.walking.specs.declared.Walk.{Walk}
use Rattle.preparing.specs.Masks.{has_bit}
use Rattle.walking.specs.Walking as saved
use Rattle.walk_ranges.specs.Ranges.{image, place}
use Rattle.walking.specs.Walking.{at, end_of, bad_end, back, walk_on, step_of, ended}
use Rattle.listed.specs.Choosing.{parent_of, end_after, choices, choices_plain, NodeFits, nodes_of}

-- "can of entry c has the bit of k"
abbrev pub by_bit : (ℕ → ℕ) → ℕ → ℕ → Bool
by_bit can q c = has_bit (can c) q

-- the saved walk that stands for a walk
abbrev pub shown : ℕ → walks.Walk → Walk
shown n (walking r c xs) = at (room_of 16 xs) (suc (length xs)) c Phase.Walking
shown n (at_answer x xs) = at (room_of 16 (x ∷ xs)) (suc (length xs)) x Phase.Answer
shown n at_end = at (room_of 16 []) 1 (n + 1) Phase.Ended

-- "c from 1 to n+1"
abbrev pub Small : ℕ → walks.Walk → Type 0
Small n (walking r c xs) = c ≤ n + 1
Small n (at_answer x xs) = x ≤ n
Small n at_end = Unit

pub image_room : (xs : List ℕ) (q : ℕ) → length xs ≤ 16 → image (room_of 16 xs) q ≡ image_of xs q
unfolding image
image_room xs zero h = sym (image_zero xs)
image_room xs (suc q) h = room_get 16 xs h q

place_room : (xs : List ℕ) (c q : ℕ) → length xs < 16 → q ≡ suc (length xs) → place (room_of 16 xs) q c ≡ room_of 16 (c ∷ xs)
unfolding place
place_room xs c q h z = let k : q - 1 ≡ length xs = omega arith in rw k (room_set 16 c xs h)

drop_room : (x : ℕ) (xs : List ℕ) (q : ℕ) → length xs < 16 → q ≡ suc (length xs) → place (room_of 16 (x ∷ xs)) q 0 ≡ room_of 16 xs
unfolding place
drop_room x xs q h z = let k : q - 1 ≡ length xs = omega arith in rw k (room_drop 16 x xs h)

-- a saved walk by equal parts
at_same : {l k : List ℕ} {q r c d : ℕ} (p : Phase) → l ≡ k → q ≡ r → c ≡ d → at l q c p ≡ at k r d p
at_same p x y z = λ i. at (x i) (y i) (z i) p

module _ (n m : ℕ) (e w : Entries) (tree : Facts n e) (twig : Facts m w) (small : m ≤ 16) (can : ℕ → ℕ)
    (bound : Bounded (choices n e w (by_bit can)) m n) where
  abbrev ch : Choices
  ch = choices n e w (by_bit can)

  -- a walk on its way, with its candidate in its range
  pub record Way (s : walks.Walk) : Type 0 where
    pub way : OnTheWay ch m s
    pub least : Small n s

  pub nodes : (z : List ℕ) → length z ≤ m → Good ch z → (q : ℕ) → 1 ≤ q → q ≤ length z → NodeFits n m e w tree twig (by_bit can) z q
  nodes z l g q a b = nodes_of n m e w tree twig (by_bit can) z l ((plain_good ch (choices_plain n e w (by_bit can)) z).0 g) q a b

  -- ---- the range of node k

  module _ (r c : ℕ) (xs : List ℕ) (t : Trying ch m r c xs) where
    room : length xs < 16
    room = omega (arith, t.nodes)

    end_same : (c : ℕ) → end_of n e w (shown n (walking r c xs)) ≡ end_after n e w xs
    unfolding end_of parent_of
    end_same c = by xs (image_room xs (w.fa (suc (length xs))) (omega (arith, room)))
      where
        by : (ys : List ℕ) → image (room_of 16 ys) (w.fa (suc (length ys))) ≡ image_of ys (w.fa (suc (length ys)))
            → pick (leb (suc (length ys)) 1) (n + 1) (e.ff (image (room_of 16 ys) (w.fa (suc (length ys))))) ≡ end_after n e w ys
        by [] h = refl
        by (y ∷ ys) h = rw (lt-leb (suc (suc (length ys))) 1 (omega arith), h)

    -- on a tree its ff is never out of range
    end_fine : (l : List ℕ) (q : ℕ) (f : Phase) → image l (w.fa (suc (length xs))) ≡ image_of xs (w.fa (suc (length xs)))
        → bad_end n e w (at l (suc (length xs)) q f) ≡ false
    unfolding bad_end
    end_fine l q f h = by xs refl h
      where
        by : (ys : List ℕ) → xs ≡ ys → image l (w.fa (suc (length ys))) ≡ image_of ys (w.fa (suc (length ys)))
            → (ltb 1 (suc (length ys))
            && (leb (e.ff (image l (w.fa (suc (length ys))))) (image l (w.fa (suc (length ys))))
            || ltb (n + 1) (e.ff (image l (w.fa (suc (length ys))))))) ≡ false
        by [] z k = refl
        by (y ∷ ys) z k =
            let o = ap length z in
            let b : suc (suc (length ys)) ≤ m = omega (arith, t.nodes) in
            let u : 1 ≤ w.fa (suc (suc (length ys))) = twig.inner (suc (suc (length ys))) (omega arith) b in
            let v : w.fa (suc (suc (length ys))) < suc (suc (length ys)) = (twig.each (suc (suc (length ys))) (omega arith) b).fa_high in
            let i = nodes (y ∷ ys) (omega arith) (subst (Good ch) z t.good) (w.fa (suc (suc (length ys)))) u (omega arith) in
            let j = tree.each (image_of (y ∷ ys) (w.fa (suc (suc (length ys))))) (omega (arith, i.above)) i.high in
            rw (
              k,
              lt-leb (e.ff (image_of (y ∷ ys) (w.fa (suc (suc (length ys)))))) (image_of (y ∷ ys) (w.fa (suc (suc (length ys)))))
                  j.ff_low,
              le-ltb (n + 1) (e.ff (image_of (y ∷ ys) (w.fa (suc (suc (length ys)))))) j.ff_high,
            )
            (by_test (ltb 1 (suc (suc (length ys)))))
          where
            by_test : (b : Bool) → (b && (false || false)) ≡ false
            by_test true = refl
            by_test false = refl

    abbrev now : Walk
    now = shown n (walking r c xs)

    -- ---- the three cases of a step

    walk_past : end_after n e w xs ≤ c → walk_on n m e w can now ≡ back now
    unfolding walk_on
    walk_past l = rw (end_same c, le-leb (end_after n e w xs) c l)

    walk_hit : c < end_after n e w xs → has_bit (can c) (suc (length xs)) ≡ true → walk_on n m e w can now ≡ saved.found m w now
    unfolding walk_on
    walk_hit l h = rw (end_same c, lt-leb (end_after n e w xs) c l, h)

    walk_miss : c < end_after n e w xs → has_bit (can c) (suc (length xs)) ≡ false → walk_on n m e w can now ≡ saved.on now
    unfolding walk_on
    walk_miss l h = rw (end_same c, lt-leb (end_after n e w xs) c l, h)

  finish_same : (r c : ℕ) → n + 1 ≤ c → c ≤ n + 1 → back (shown n (walking r c [])) ≡ moved (shown n at_end)
  unfolding back
  finish_same r c l h = ap (λ (x : Walk). moved x) (at_same Phase.Ended refl refl (omega arith))

  back_same : (r c x : ℕ) (xs : List ℕ) → length xs < 15
      → back (shown n (walking r c (x ∷ xs))) ≡ moved (shown n (walking (suc r) (suc x) xs))
  unfolding back
  back_same r c x xs l =
      let k : suc (suc (length xs)) - 1 ≡ suc (length xs) = omega arith in
      rw (lt-leb (suc (suc (length xs))) 1 (omega arith), k)
      (ap (λ (x : Walk). moved x)
      (at_same Phase.Walking (drop_room x xs (suc (length xs)) (omega arith) refl) refl
      (add-one (image (room_of 16 (x ∷ xs)) (suc (length xs)))
      ∙ ap suc (image_room (x ∷ xs) (suc (length xs)) (omega arith) ∙ image_top x xs (suc (length xs)) refl))))

  found_same : (c : ℕ) (xs : List ℕ) → suc (length xs) ≡ m → length xs < 16
      → saved.found m w (shown n (walking 0 c xs)) ≡ answered (shown n (at_answer c xs))
  unfolding saved.found
  found_same c xs k l =
      rw (eq-eqb (suc (length xs)) m k)
      (ap (λ (x : Walk). answered x) (at_same Phase.Answer (place_room xs c (suc (length xs)) l refl) refl refl))

  set_same : (r c : ℕ) (xs : List ℕ) → suc (length xs) < m → length xs < 15
      → saved.found m w (shown n (walking (suc r) c xs)) ≡ moved (shown n (walking r (suc (parent_of w (c ∷ xs))) (c ∷ xs)))
  unfolding saved.found parent_of
  set_same r c xs k l =
      let p = place_room xs c (suc (length xs)) (omega arith) refl in
      let o : suc (length xs) + 1 ≡ suc (suc (length xs)) = omega arith in
      rw (ne_eqb (suc (length xs)) m (λ z. omega arith), o, p)
      (ap (λ (x : Walk). moved x)
      (at_same Phase.Walking refl refl
      (add-one (image (room_of 16 (c ∷ xs)) (w.fa (suc (suc (length xs)))))
      ∙ ap suc (image_room (c ∷ xs) (w.fa (suc (suc (length xs)))) (omega arith)))))

  tried_same : {r c : ℕ} {xs : List ℕ} {y : Next walks.Walk} → Trying ch m r c xs → c ≤ n + 1 → Tried ch r c xs y
      → walk_on n m e w can (shown n (walking r c xs)) ≡ as_next (shown n) y
  tried_same t h (stepping.finish {r = r} {c = c} l) = walk_past r c [] t l ∙ finish_same r c l h
  tried_same t h (stepping.back {r = r} {c = c} {x = x} {xs = xs} l) =
      walk_past r c (x ∷ xs) t l ∙ back_same r c x xs (omega (arith, t.nodes))
  tried_same t h (stepping.found {c = c} {xs = xs} l f) =
      walk_hit 0 c xs t l f ∙ found_same c xs (omega (arith, t.nodes)) (omega (arith, t.nodes))
  tried_same t h (stepping.set {r = r} {c = c} {xs = xs} l f) =
      walk_hit (suc r) c xs t l f ∙ set_same r c xs (omega (arith, t.nodes)) (omega (arith, t.nodes))
  tried_same t h (stepping.miss {r = r} {c = c} {xs = xs} l f) =
      walk_miss r c xs t l f ∙ ap (λ (x : Walk). moved x) (at_same Phase.Walking refl refl (add-one c))

  -- ---- the whole step

  step_same : (s : walks.Walk) → Way s → walk_done s ≡ false → step_of n m e w can (shown n s) ≡ as_next (shown n) (walk_step ch s)
  unfolding step_of
  step_same (walking r c xs) i d =
      rw (end_fine r c xs i.way (room_of 16 xs) c Phase.Walking
      (image_room xs (w.fa (suc (length xs))) (omega (arith, i.way.nodes))))
      (tried_same i.way i.least (step_walking ch r c xs))
  step_same (at_answer x xs) i d =
      let t = after_answer ch m x xs i.way in
      let k : suc (length xs) ≡ m = i.way.0 in
      let f : w.fa (suc (length xs)) < suc (length xs) = (twig.each (suc (length xs)) (omega arith) (omega arith)).fa_high in
      let j : image (room_of 16 (x ∷ xs)) (w.fa (suc (length xs))) ≡ image_of xs (w.fa (suc (length xs)))
      = image_room (x ∷ xs) (w.fa (suc (length xs))) (omega arith) ∙ image_down x xs (w.fa (suc (length xs))) (omega arith) in
      let g : saved.let_go (shown n (at_answer x xs)) ≡ shown n (walking 0 (suc x) xs)
      = at_same Phase.Walking (drop_room x xs (suc (length xs)) (omega arith) refl) refl
      (add-one (image (room_of 16 (x ∷ xs)) (suc (length xs)))
      ∙ ap suc (image_room (x ∷ xs) (suc (length xs)) (omega arith) ∙ image_top x xs (suc (length xs)) refl)) in
      rw (end_fine 0 (suc x) xs t (room_of 16 (x ∷ xs)) x Phase.Answer j)
      (ap (walk_on n m e w can) g ∙ tried_same t (omega (arith, i.least)) (step_answer ch x xs))
  step_same at_end i d = let z : ◌≡◌ {A = ℕ} 0 1 = cc in absurd (omega arith)

  -- ---- candidates stay in their range

  abbrev Smalls : Next walks.Walk → Type 0
  Smalls (moved to) = Small n to
  Smalls (answered to) = Small n to
  Smalls (refused number entry) = Unit

  tried_small : {r c : ℕ} {xs : List ℕ} {y : Next walks.Walk} → Trying ch m r c xs → Tried ch r c xs y → Smalls y
  unfolding parent_of
  tried_small t (stepping.finish l) = tt
  tried_small t (stepping.back {x = x} {xs = xs} l) =
      let b = bound.high xs t.good.1 (omega (arith, t.nodes)) in omega (arith, t.good.0.below)
  tried_small t (stepping.found {c = c} {xs = xs} l f) = let b = bound.high xs t.good (omega (arith, t.nodes)) in omega arith
  tried_small t (stepping.set {r = r} {c = c} {xs = xs} l f) =
      let z = c ∷ xs in
      let g : Good ch z = (record { reached = t.from; below = l; passes = f }, t.good) in
      let k = suc (suc (length xs)) in
      let b : k ≤ m = omega (arith, t.nodes) in
      let u : 1 ≤ w.fa k = twig.inner k (omega arith) b in
      let v : w.fa k < k = (twig.each k (omega arith) b).fa_high in
      omega (arith, (nodes z (omega arith) g (w.fa k) u (omega arith)).high)
  tried_small t (stepping.miss {c = c} {xs = xs} l f) = let b = bound.high xs t.good (omega (arith, t.nodes)) in omega arith

  step_small : (s : walks.Walk) → OnTheWay ch m s → Smalls (walk_step ch s)
  step_small (walking r c xs) t = tried_small t (step_walking ch r c xs)
  step_small (at_answer x xs) t = tried_small (after_answer ch m x xs t) (step_answer ch x xs)
  step_small at_end t = unfold walk_step in tt

  way_kept : (s to : walks.Walk) → Way s → Step walks.Walk walk_done (walk_step ch) s to → Way to
  way_kept s to i (on h f) = record { way = step_way ch m s to (on h f) i.way; least = subst Smalls f (step_small s i.way) }
  way_kept s to i (found h f) = record { way = step_way ch m s to (found h f) i.way; least = subst Smalls f (step_small s i.way) }

  done_same : (s : walks.Walk) → ended (shown n s) ≡ walk_done s
  done_same (walking r c xs) = refl
  done_same (at_answer x xs) = refl
  done_same at_end = refl

  pub walk_mirrors : Mirrors (shown n) Way walk_done (walk_step ch) ended (step_of n m e w can)
  walk_mirrors = record { done_same = λ s i. done_same s; step_same = step_same; keeps = way_kept }
