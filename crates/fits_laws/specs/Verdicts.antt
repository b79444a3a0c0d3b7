-- What a number of a table that is filled so far tells of ordered answers.
--   Latest t     there is an ordered answer whose root stands at t, and none whose root stands later
--   yes_answer   so it is where the root's row has come to an end by n+1 at t, and had not before
--   no_answer    where a whole row has not, there is no ordered answer
use Rattle.std.specs.Prelude.{ℕ, zero, suc, ◌+◌, ◌-◌, ◌*◌, ◌≤◌, ◌<◌, ◌≡◌, refl, true, length}
use Rattle.std.proofs.Math.Path.{ap, subst}
use Rattle.std.proofs.Common.{sym, ◌∙◌, inr, arith}
use mathlib.Core.List.{List, [], ◌∷◌, reverse}
use Rattle.std.proofs.Math.Decide.{dec_le}
use Rattle.std.proofs.lemmas.List.{length-reverse}
use Rattle.trees.specs.Signature.{Entries}
use Rattle.trees.specs.Facts.{Facts}
use Rattle.walks.specs.Answers.{Good}
use Rattle.walks.specs.Plain.{inside_fits}
use Rattle.walks.specs.Room.{image_of, image_zero, image_top, image_down}
use Rattle.walks.specs.Image.{image, reverse_image, image_reverse}
use Rattle.ordering.specs.Answer.{Answer}
use Rattle.ordering.specs.Twig.{end_of, before_of}
use Rattle.ordering.specs.TwigLaws as L
use Rattle.ordering.specs.TwigLaws.{root_before}
use Rattle.ordering.specs.Table.{ends_in, fits_in, Filled, FilledFrom}
use Rattle.ordering.specs.Ends.{end_whole, end_over, ends_sound, ends_least}
use Rattle.ordering.specs.Choosing.{low_of, high_of, choices_of}
use Rattle.ordering.specs.Chosen.{start_first, Node, nodes_of}
use Rattle.ordering.specs.Walked.{plain, bounded, good_chosen}
use Rattle.ordering.specs.Answering.{answer_good, good_answer}
use Rattle.fits_laws.specs.Finished.{finished, finished_kept, finished_filled}

-- t is the greatest entry that the root of an ordered answer stands at
pub record Latest (n : ℕ) (e : Entries) (m : ℕ) (w : Entries) (t : ℕ) : Type 0 where
  pub ranks : List ℕ
  pub answer : Answer n e m w ranks
  pub first : image ranks 1 ≡ t
  pub none_later : (xs : List ℕ) → Answer n e m w xs → image xs 1 ≤ t

module _ (n : ℕ) (e : Entries) (m : ℕ) (w : Entries) (tree : Facts n e) (twig : Facts m w) where
  -- ---- a root that fits is the beginning of an answer

  module _ (u : List ℕ) (filled : Filled n e m w u) where
    root_good : (x : ℕ) → 1 ≤ x → x ≤ n → fits_in n e m w u 1 (n + 1) x ≡ true → Good (choices_of n e m w u) (x ∷ [])
    unfolding low_of high_of
    root_good x low high fits =
        let z : end_of n e (image_of [] (w.fa 1)) ≡ n + 1 = ap (λ (p : ℕ). end_of n e (image_of [] p)) twig.root_fa ∙ ap (end_of n e) (image_zero []) ∙ end_whole n e in
        let s = start_first n e [] (before_of w 1) (w.fa 1) (root_before w) ∙ ap (λ (p : ℕ). image_of [] p + 1) twig.root_fa ∙ ap (λ (p : ℕ). p + 1) (image_zero []) in (
          inside_fits (choices_of n e m w u) (plain n e m w u) {xs = []} {x = x} (record {
            low = omega (arith, s);
            high = omega (arith, z);
            passes = subst (λ (k : ℕ). fits_in n e m w u 1 k x ≡ true) (sym z) fits;
          }),
          tt,
        )

    -- the walk never fails below: m − 1 more images, and the root's stays
    extend : (d x : ℕ) (xs : List ℕ) → Good (choices_of n e m w u) (x ∷ xs) → suc (length xs) + d ≡ m
        → (zs : List ℕ) × (length zs ≡ m) × Good (choices_of n e m w u) zs × (image_of zs 1 ≡ image_of (x ∷ xs) 1)
    extend zero x xs g l = (x ∷ xs, omega arith, g, refl)
    extend (suc d) x xs g l =
        let c = (bounded n e m w u tree twig filled).never_fails x xs g (omega arith) in
        let r = extend d c.0 (x ∷ xs) (c.1, g) (omega arith) in
        (r.0, r.1, r.2, r.3 ∙ image_down c.0 (x ∷ xs) 1 (omega arith))

    root_answer : (x : ℕ) → 1 ≤ x → x ≤ n → fits_in n e m w u 1 (n + 1) x ≡ true → (xs : List ℕ) × Answer n e m w xs × (image xs 1 ≡ x)
    root_answer x low high fits =
        let r = extend (m - 1) x [] (root_good x low high fits) (omega (arith, twig.some)) in
        (reverse r.0, good_answer n e m w tree twig u filled r.0 r.1 r.2, reverse_image r.0 1 (omega arith) ∙ r.3 ∙ image_top x [] 1 refl)

    -- each node of an answer lies in the tree, so its row has come to an end by n+1 where the node stands, and before it
    node_ends : (xs : List ℕ) → Answer n e m w xs → (q a : ℕ) → 1 ≤ q → q ≤ m → 1 ≤ a → a ≤ image xs q → ends_in n u q a ≤ n + 1
    node_ends xs a q from some last low upto =
        let i = node q some last in
        let z : image_of (reverse xs) q ≡ image xs q = image_reverse xs q some in
        let h = ends_least n e m w u tree twig filled q from (end_of n e (image_of zs (w.fa q))) (image_of zs q) some last low (omega arith) i.rank i.passes in
        omega (arith, h, within (w.fa q) refl)
      where
        zs : List ℕ
        zs = reverse xs

        node : (p : ℕ) → 1 ≤ p → p ≤ m → Node n e m w (fits_in n e m w u) (reverse xs) p
        node p s l =
            let k : length (reverse xs) ≡ m = length-reverse xs ∙ a.nodes in
            nodes_of n e m w (fits_in n e m w u) tree twig (reverse xs) (good_chosen n e m w u (reverse xs) (answer_good n e m w tree twig u filled xs a))
            (omega arith) p s (omega arith)

        within : (p : ℕ) → w.fa q ≡ p → end_of n e (image_of (reverse xs) (w.fa q)) ≤ n + 1
        within zero z = rw (z, image_zero (reverse xs), end_whole n e) (omega arith)
        within (suc p) z =
            let i = node (w.fa q) (omega arith) (omega (arith, L.parent m w twig q some last)) in
            (end_over n e tree (image_of (reverse xs) (w.fa q)) i.some i.rank).1

  -- ---- what the numbers written so far tell

  module _ (t : List ℕ) (long : m * n ≤ length t) where
    pub yes_answer : (a : ℕ) → 1 ≤ a → a ≤ n → FilledFrom n e m w t 1 (a - 1) → ends_in n t 1 a ≤ n + 1 → n + 1 < ends_in n t 1 (a + 1) → Latest n e m w a
    yes_answer a low high done told before =
        let s = ends_sound n e m w u tree twig f 1 a (n + 1) (omega arith) twig.some low (omega (arith, k)) (omega arith) in
        let z : s.seat ≡ a = only s.seat s.from s.upto s.fits (dec_le s.seat a) in
        let r = root_answer u f s.seat (omega (arith, s.from)) (omega (arith, s.upto)) s.fits in
        record { ranks = r.0; answer = r.1; first = r.2 ∙ z; none_later = λ xs g. upto xs g (dec_le (image xs 1) a) }
      where
        u : List ℕ
        u = finished n e m w 1 (a - 1) t

        f : Filled n e m w (finished n e m w 1 (a - 1) t)
        f = finished_filled n e m w twig 1 (a - 1) t (omega arith) twig.some (omega arith) long done

        k : ends_in n (finished n e m w 1 (a - 1) t) 1 a ≡ ends_in n t 1 a
        k = finished_kept n e m w 1 (a - 1) t (omega arith) (omega arith) 1 a (inr (refl, omega arith))

        -- nothing ends by n+1 from the next entry on
        never : ends_in n (finished n e m w 1 (a - 1) t) 1 (a + 1) ≤ n + 1 → ⊥
        never h = omega (arith, before, h, finished_kept n e m w 1 (a - 1) t (omega arith) (omega arith) 1 (a + 1) (inr (refl, omega arith)))

        only : (x : ℕ) → a ≤ x → x < n + 1 → fits_in n e m w (finished n e m w 1 (a - 1) t) 1 (n + 1) x ≡ true → Dec (x ≤ a) → x ≡ a
        only x from under fits (yes h) = omega arith
        only x from under fits (no h) =
            absurd (never (ends_least n e m w (finished n e m w 1 (a - 1) t) tree twig f 1 (a + 1) (n + 1) x (omega arith) twig.some (omega arith) (omega arith) (omega arith) fits))

        upto : (xs : List ℕ) → Answer n e m w xs → Dec (image xs 1 ≤ a) → image xs 1 ≤ a
        upto xs g (yes h) = h
        upto xs g (no h) = absurd (never (node_ends (finished n e m w 1 (a - 1) t) f xs g 1 (a + 1) (omega arith) twig.some (omega arith) (omega arith)))

    pub no_answer : (q : ℕ) → 1 ≤ q → q ≤ m → FilledFrom n e m w t q 0 → n + 1 < ends_in n t q 1 → (xs : List ℕ) → Answer n e m w xs → ⊥
    no_answer q some last done told xs a =
        let u = finished n e m w q 0 t in
        let f = finished_filled n e m w twig q 0 t some last (omega arith) long done in
        let k = finished_kept n e m w q 0 t some (omega arith) q 1 (inr (refl, omega arith)) in
        omega (arith, k, told, node_ends u f xs a q 1 some last (omega arith) (a.ranks q some last).0)
