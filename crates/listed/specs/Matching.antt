-- A match of the twig's part under q at t, child by child: it is that the part fits.
--   Match n m e w q t   the name passes at t, and each child of q has a match below t
--   Kid, kid_of         a child comes after its parent, and its part lies in the parent's
--   fits_match, match_fits   there is one exactly if the part fits
--   answer_match        each node of a loose answer has a match at its image
use Rattle.std.specs.Prelude.{ℕ, zero, suc, ◌+◌, ◌-◌, ◌≤◌, ◌<◌, ◌≡◌, refl, ◌⊎◌, List, eqb}
use Rattle.std.proofs.Common.{◌∙◌, subst, inl, inr, arith, eq-eqb, ne_eqb}
use Rattle.std.proofs.Math.Decide.{ℕ_discrete}
use Rattle.turns.specs.Pick.{pick}
use Rattle.trees.specs.Signature.{Entries}
use Rattle.trees.specs.Facts.{Facts, Inside, Follows}
use Rattle.trees.specs.Names.{Passes}
use Rattle.walks.specs.Image.{image, Below}
use Rattle.listed.specs.Loose.{Ranked, LooseAnswer, PartFits}

-- the images x, with y for node r
unfoldable placing : (ℕ → ℕ) → ℕ → ℕ → ℕ → ℕ
placing x r y i = pick (eqb i r) y (x i)

placing_same : (x : ℕ → ℕ) (r y : ℕ) → placing x r y r ≡ y
unfolding placing
placing_same x r y = rw (eq-eqb r r refl)

placing_other : (x : ℕ → ℕ) (r y i : ℕ) → (i ≡ r → ⊥) → placing x r y i ≡ x i
unfolding placing
placing_other x r y i h = rw (ne_eqb i r h)

-- the name passes, and each child of q has a match below t
pub data Match (n m : ℕ) (e w : Entries) : ℕ → ℕ → Type 0 where
  match : {q t : ℕ} → 1 ≤ t → t ≤ n → Passes (w.name q) (e.name t)
      → (at : (r : ℕ) → 1 ≤ r → r ≤ m → w.fa r ≡ q → ℕ)
      → ((r : ℕ) (a : 1 ≤ r) (b : r ≤ m) (f : w.fa r ≡ q) → Below e.ff t (at r a b f))
      → ((r : ℕ) (a : 1 ≤ r) (b : r ≤ m) (f : w.fa r ≡ q) → Match n m e w r (at r a b f))
      → Match n m e w q t

module _ (n m : ℕ) (e w : Entries) (twig : Facts m w) where
  -- a child comes after its parent, and its part lies in the parent's
  pub record Kid (q r : ℕ) : Type 0 where
    pub after : q < r
    pub inside : r < w.ff q
    pub nested : w.ff r ≤ w.ff q

  pub kid_of : (q r : ℕ) → 1 ≤ q → 1 ≤ r → r ≤ m → w.fa r ≡ q → Kid q r
  kid_of q r a b c f =
      let l = (twig.each r b c).fa_high in
      let i = subst (λ (x : ℕ). Inside w x r) f (twig.own r (omega (arith, l)) c) in
      record { after = omega (arith, l); inside = i.inside; nested = i.nested }

  -- ---- a part that fits is matched

  fits_from : (d q t : ℕ) → 1 ≤ q → q ≤ m → m < q + d → PartFits n e w q t → Match n m e w q t
  fits_from zero q t a b l p = absurd (omega arith)
  fits_from (suc d) q t a b l p =
      subst (Match n m e w q) p.top
      (match own.low own.high own.name (λ r c k f. p.image r) placed
      (λ r c k f. fits_from d r (p.image r) c k (omega (arith, (kid_of q r a c k f).after)) (part r c k f)))
    where
      own : Ranked n e w p.image q
      own = p.each q (omega arith) (twig.each q a b).ff_low

      placed : (r : ℕ) → 1 ≤ r → r ≤ m → w.fa r ≡ q → Below e.ff (p.image q) (p.image r)
      placed r c k f =
          let i = kid_of q r a c k f in
          subst (λ (x : ℕ). Below e.ff (p.image x) (p.image r)) f (p.below r i.after i.inside)

      part : (r : ℕ) → 1 ≤ r → r ≤ m → w.fa r ≡ q → PartFits n e w r (p.image r)
      part r c k f =
          let i = kid_of q r a c k f in
          record {
            image = p.image;
            top = refl;
            each = λ s u v. p.each s (omega (arith, i.after)) (omega (arith, i.nested));
            below = λ s u v. p.below s (omega (arith, i.after)) (omega (arith, i.nested));
          }

  pub fits_match : (q t : ℕ) → 1 ≤ q → q ≤ m → PartFits n e w q t → Match n m e w q t
  fits_match q t a b p = fits_from (suc m) q t a b (omega arith) p

  -- each node of a loose answer has a match at its image
  pub answer_match : (l : List ℕ) → LooseAnswer n m e w l → (q : ℕ) → 1 ≤ q → q ≤ m → Match n m e w q (image l q)
  answer_match l h q a b =
      let i = twig.each q a b in
      fits_match q (image l q) a b
      (record {
        image = image l;
        top = refl;
        each = λ r u v. h.each r (omega arith) (omega (arith, i.ff_high));
        below = λ r u v. h.below r (omega arith) (omega (arith, i.ff_high));
      })

  -- ---- a matched part fits: node by node, in the order of the twig

  module _ (q t : ℕ) (q_low : 1 ≤ q) (q_high : q ≤ m) where
    -- the first k nodes of the part have their images
    record Begun (k : ℕ) : Type 0 where
      image : ℕ → ℕ
      top : image q ≡ t
      each : (r : ℕ) → q ≤ r → r < q + k → Match n m e w r (image r)
      below : (r : ℕ) → q < r → r < q + k → Below e.ff (image (w.fa r)) (image r)

    -- an image for the match of a child of p
    below_match : (p r x : ℕ) → 1 ≤ r → r ≤ m → w.fa r ≡ p → Match n m e w p x → (y : ℕ) × Below e.ff x y × Match n m e w r y
    below_match p r x a b f (match l h s at u sub) = (at r a b f, u r a b f, sub r a b f)

    begun : (k : ℕ) → q + suc k ≤ w.ff q → Match n m e w q t → Begun (suc k)
    begun zero l h = record {
      image = λ i. t;
      top = refl;
      each = λ r a b. subst (λ (x : ℕ). Match n m e w x t) (omega arith) h;
      below = λ r a b. absurd (omega arith);
    }
    begun (suc k) l h = by (begun k (omega arith) h)
      where
        r : ℕ
        r = q + suc k

        r_high : r ≤ m
        r_high = omega (arith, (twig.each q q_low q_high).ff_high)

        -- the next node's parent is in the part
        apart : Inside w q r ⊎ Follows w q r → q ≤ w.fa r
        apart (inl i) = i.under
        apart (inr i) = absurd (omega (arith, i.outside))

        by : Begun (suc k) → Begun (suc (suc k))
        by g =
            let p : q ≤ w.fa r = apart (twig.pair q r q_low (omega arith) r_high) in
            let s : w.fa r < r = (twig.each r (omega arith) r_high).fa_high in
            let y = below_match (w.fa r) r (g.image (w.fa r)) (omega arith) r_high refl (g.each (w.fa r) p (omega arith)) in
            let same : (i : ℕ) → i < r → placing g.image r y.0 i ≡ g.image i
            = λ i v. placing_other g.image r y.0 i (λ z. omega arith) in
            let here : placing g.image r y.0 r ≡ y.0 = placing_same g.image r y.0 in
            record {
              image = placing g.image r y.0;
              top = same q (omega arith) ∙ g.top;
              each = λ i a b. each_of g y.0 y.2 here same i a b (ℕ_discrete i r);
              below = λ i a b. below_of g y.0 y.1 here same (omega arith) i a b (ℕ_discrete i r);
            }
          where
            each_of : (g : Begun (suc k)) (y : ℕ) → Match n m e w r y → placing g.image r y r ≡ y
                → ((i : ℕ) → i < r → placing g.image r y i ≡ g.image i)
                → (i : ℕ) → q ≤ i → i < q + suc (suc k) → Dec (i ≡ r) → Match n m e w i (placing g.image r y i)
            each_of g y h here same i a b (yes z) = rw (z, here) h
            each_of g y h here same i a b (no z) = rw (same i (omega arith)) (g.each i a (omega arith))

            below_of : (g : Begun (suc k)) (y : ℕ) → Below e.ff (g.image (w.fa r)) y → placing g.image r y r ≡ y
                → ((i : ℕ) → i < r → placing g.image r y i ≡ g.image i) → w.fa r < r
                → (i : ℕ) → q < i → i < q + suc (suc k) → Dec (i ≡ r)
                → Below e.ff (placing g.image r y (w.fa i)) (placing g.image r y i)
            below_of g y h here same up i a b (yes z) = rw (z, here, same (w.fa r) up) h
            below_of g y h here same up i a b (no z) =
                let f : w.fa i < i = (twig.each i (omega arith) (omega (arith, r_high))).fa_high in
                rw (same i (omega arith), same (w.fa i) (omega arith)) (g.below i a (omega arith))

    match_ranked : (r x : ℕ) → Match n m e w r x → (1 ≤ x) × (x ≤ n) × Passes (w.name r) (e.name x)
    match_ranked r x (match l h s at u sub) = (l, h, s)

    pub match_fits : Match n m e w q t → PartFits n e w q t
    match_fits h =
        let i = twig.each q q_low q_high in
        let g = begun (w.ff q - q - 1) (omega (arith, i.ff_low)) h in
        record {
          image = g.image;
          top = g.top;
          each = λ r a b.
              let z = match_ranked r (g.image r) (g.each r a (omega (arith, i.ff_low))) in
              record { low = z.0; high = z.1; name = z.2 };
          below = λ r a b. g.below r a (omega (arith, i.ff_low));
        }
