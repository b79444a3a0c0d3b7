-- Every saved walk on the way is within document 01's ranges, so no public turn refuses it.
--   images_fit     the sixteen images
--   way_ranged     all of it
use Prim.Native.Nat.{ℕ, suc, ◌+◌, ◌≤◌}
use Rattle.std.specs.Prelude.{◌≡◌, true, ◌&&◌, leb, ltb, eqb, length}
use Rattle.std.proofs.Math.Path.{refl}
use Rattle.std.proofs.Common.{◌∙◌, arith}
use mathlib.Core.List.{List, [], ◌∷◌}
use Rattle.std.proofs.Math.Decide.{dec_le}
use borrow.Author.Tests.{eq-eqb, le-leb, lt-leb, lt-ltb}
use Rattle.turns.specs.Pick.{pick}
use Rattle.trees.specs.Signature.{Entries}
use Rattle.trees.specs.Facts.{Facts}
use Rattle.walks.specs.Walking as walks
use Rattle.walks.specs.Walking.{Choices, walking, at_answer, at_end}
use Rattle.walks.specs.Answers.{Good}
use Rattle.walks.specs.Plain.{plain_rising}
use Rattle.walks.specs.Ranges.{reached_least}
use Rattle.walks.specs.Potential.{Bounded}
use Rattle.walks.specs.Room.{image_of, room_of, image_unset, image_top}
use Rattle.walk_ranges.specs.declared.Phase.{Phase}
use Rattle.preparing.specs.Masks.{every}
use Rattle.walk_ranges.specs.Ranges.{image, placed, image_fits, phase_fits}
use Rattle.walking.specs.Walking.{at, in_range}
use Rattle.preparing.proofs.Bits.{every_all}
use Rattle.listed.specs.Choosing.{parent_of, choices, choices_plain}
use Rattle.listed.specs.Saved.{by_bit, shown, image_room, Way, nodes}

module _ (n m : ℕ) (e w : Entries) (tree : Facts n e) (twig : Facts m w) (small : m ≤ 16) (can : ℕ → ℕ)
    (bound : Bounded (choices n e w (by_bit can)) m n) where
  abbrev ch : Choices
  ch = choices n e w (by_bit can)

  -- "images before k … from 1 to n and greater than the twig parent's, the others 0"
  image_fits_law : (z : List ℕ) → length z ≤ m → Good ch z → (q : ℕ) → 1 ≤ q → image_fits n w (room_of 16 z) (length z) q ≡ true
  unfolding image_fits
  image_fits_law z l g q a = by (dec_le q (length z))
    where
      i : (r : ℕ) → image (room_of 16 z) r ≡ image_of z r
      i r = image_room z r (omega arith)

      by : Dec (q ≤ length z) → pick (leb q (length z))
          (leb 1 (image (room_of 16 z) q) && leb (image (room_of 16 z) q) n && ltb (image (room_of 16 z) (w.fa q)) (image (room_of 16 z) q))
          (eqb (image (room_of 16 z) q) 0) ≡ true
      by (yes b) =
          let f = nodes n m e w tree twig small can bound z l g q a b in
          rw (le-leb q (length z) b, i q, i (w.fa q), le-leb 1 (image_of z q) (omega (arith, f.above)), le-leb (image_of z q) n f.high)
          (lt-ltb (image_of z (w.fa q)) (image_of z q) f.above)
      by (no b) = rw (lt-leb q (length z) (omega arith), i q) (eq-eqb (image_of z q) 0 (image_unset z q (omega arith)))

  images_fit : (z : List ℕ) → length z ≤ m → Good ch z → every (image_fits n w (room_of 16 z) (length z)) 16 ≡ true
  images_fit z l g = every_all (image_fits n w (room_of 16 z) (length z)) 16 (λ q a b. image_fits_law z l g q a)

  -- the ranges, from their parts
  ranged : (l : List ℕ) (k c j : ℕ) (p : Phase) → 1 ≤ k → k ≤ m → 1 ≤ c → c ≤ n + 1 → placed p k ≡ j → every (image_fits n w l j) 16 ≡ true
      → phase_fits n m w l k c p ≡ true → in_range n m w (at l k c p) ≡ true
  unfolding in_range
  ranged l k c j p a b d f q g h = rw (le-leb 1 k a, le-leb k m b, le-leb 1 c d, le-leb c (n + 1) f, q, g) h

  pub way_ranged : (s : walks.Walk) → Way n m e w tree twig small can bound s → in_range n m w (shown n s) ≡ true
  unfolding phase_fits parent_of
  way_ranged (walking r c xs) i =
      let t = i.way in
      let low : suc (image_of xs (w.fa (suc (length xs)))) ≤ c = reached_least (plain_rising ch (choices_plain n e w (by_bit can)) xs)
      t.from in
      let g = image_room xs (w.fa (suc (length xs))) (omega (arith, t.nodes)) in
      ranged (room_of 16 xs) (suc (length xs)) c (length xs) Phase.Walking (omega arith) (omega (arith, t.nodes)) (omega arith) i.least
      (omega arith)
      (images_fit xs (omega (arith, t.nodes)) t.good) (rw g (lt-ltb (image_of xs (w.fa (suc (length xs)))) c low))
  way_ranged (at_answer x xs) i =
      let k : suc (length xs) ≡ m = i.way.0 in
      let f = nodes n m e w tree twig small can bound (x ∷ xs) (omega arith) i.way.1 (suc (length xs)) (omega arith) (omega arith) in
      let t : image_of (x ∷ xs) (suc (length xs)) ≡ x = image_top x xs (suc (length xs)) refl in
      let g = image_room (x ∷ xs) (suc (length xs)) (omega arith) ∙ t in
      ranged (room_of 16 (x ∷ xs)) (suc (length xs)) x (suc (length xs)) Phase.Answer (omega arith) (omega arith) (omega (arith, f.above))
      (omega (arith, i.least)) refl (images_fit (x ∷ xs) (omega arith) i.way.1)
      (rw (eq-eqb (suc (length xs)) m k, g) (eq-eqb x x refl))
  way_ranged at_end i =
      ranged (room_of 16 []) 1 (n + 1) 0 Phase.Ended (omega arith) twig.some (omega arith) (omega arith) refl
      (images_fit [] (omega arith) tt) (eq-eqb (n + 1) (n + 1) refl)
