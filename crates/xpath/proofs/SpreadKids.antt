-- Parents and siblings in one pass: which elements are the parent of a context that was seen.
--   Kids S up n B      B passes just the ranks from 1 to n that are the parent of one in S
--   kids_none          nothing is seen yet
--   kids_hit, kids_miss   one more is seen
--   spread_parent, spread_later, spread_earlier   the parent axis and the two sibling axes
use Rattle.std.specs.Prelude.{ℕ, ◌+◌, ◌≤◌, ◌<◌, ◌≡◌, Bool, not, ◌&&◌, ltb}
use Rattle.std.proofs.Math.Path.{refl, ap, sym}
use Rattle.std.proofs.Common.{◌∙◌, arith}
use Rattle.std.proofs.Math.Logic.{⊎_elim}
use Rattle.std.proofs.Math.Bool.{true, false, and-false, false≢true}
use Rattle.std.proofs.Math.Decide.{ℕ_discrete}
use Rattle.std.proofs.Math.Dec.{eqb}
use borrow.Author.Tests.{lt-ltb, le-ltb, eq-eqb, ne_eqb}
use Rattle.trees.specs.Order.{lt_or_ge}
use Rattle.trees.specs.Signature.{Entries}
use Rattle.trees.specs.Facts.{Facts}
use Rattle.xpath.specs.Axes.{parent_of, sibling_before, on_axis}
use Rattle.xpath.specs.Spread.{spread_of, Seen, More, hit, none}

-- B passes just the ranks from 1 to n that are the parent of one in S
pub record Kids (S : ℕ → Type 0) (up : ℕ → ℕ) (n : ℕ) (B : ℕ → Bool) : Type 0 where
  pub yes : (c : ℕ) → S c → 1 ≤ up c → up c ≤ n → B (up c) ≡ true
  pub no : (p : ℕ) → 1 ≤ p → p ≤ n → B p ≡ true → (c : ℕ) × S c × (up c ≡ p)

pub kids_none : (P : ℕ → Bool) (lo : ℕ) (up : ℕ → ℕ) (n : ℕ) (B : ℕ → Bool) → ((p : ℕ) → 1 ≤ p → p ≤ n → B p ≡ false) → Kids (Seen P lo lo) up n B
kids_none P lo up n B h = record {
  yes = λ c s a b. absurd (omega (arith, s.low, s.high));
  no = λ p a b q. absurd (false≢true (sym (h p a b) ∙ q));
}

-- one more is seen, rank k; where it passes, its parent passes from now on
module _ {S T : ℕ → Type 0} {P : ℕ → Bool} {k : ℕ} (m : More S T P k) (up : ℕ → ℕ) (n : ℕ) (B : ℕ → Bool) (h : Kids S up n B) where
  pub kids_hit : P k ≡ true → (C : ℕ → Bool) → (up k ≤ n → C (up k) ≡ true) → ((p : ℕ) → (p ≡ up k → ⊥) → C p ≡ B p) → Kids T up n C
  kids_hit q C own other = record { yes = there; no = back }
    where
      there : (c : ℕ) → T c → 1 ≤ up c → up c ≤ n → C (up c) ≡ true
      there c t a b = ⊎_elim (λ (s : S c). old s (ℕ_discrete (up c) (up k))) (λ (w : (c ≡ k) × (P k ≡ true)). new (ap up w.0)) (m.split c t)
        where
          new : up c ≡ up k → C (up c) ≡ true
          new e = ap C e ∙ own (omega arith)

          old : S c → Dec (up c ≡ up k) → C (up c) ≡ true
          old s (yes e) = new e
          old s (no e) = other (up c) e ∙ h.yes c s a b

      back : (p : ℕ) → 1 ≤ p → p ≤ n → C p ≡ true → (c : ℕ) × T c × (up c ≡ p)
      back p a b r = go (ℕ_discrete p (up k))
        where
          go : Dec (p ≡ up k) → (c : ℕ) × T c × (up c ≡ p)
          go (yes e) = (k, m.own q, sym e)
          go (no e) = let s = h.no p a b (sym (other p e) ∙ r) in (s.0, m.kept s.0 s.1, s.2)

  pub kids_miss : P k ≡ false → Kids T up n B
  kids_miss q = record {
    yes = λ c t a b. ⊎_elim (λ (s : S c). h.yes c s a b) (λ (w : (c ≡ k) × (P k ≡ true)). absurd (false≢true (sym q ∙ w.1))) (m.split c t);
    no = λ p a b r. let s = h.no p a b r in (s.0, m.kept s.0 s.1, s.2);
  }

module _ (up : ℕ → ℕ) (a j : ℕ) where
  sibling_yes : a < j → (up a ≡ 0 → ⊥) → up j ≡ up a → sibling_before up a j ≡ true
  unfolding sibling_before parent_of
  sibling_yes l z q = simp (lt-ltb a j l, ne_eqb (up a) 0 z, eq-eqb (up j) (up a) q)

  sibling_no : (a < j → (up a ≡ 0 → ⊥) → up j ≡ up a → ⊥) → sibling_before up a j ≡ false
  unfolding sibling_before parent_of
  sibling_no h =
      ⊎_elim (λ (l : a < j). go l (ℕ_discrete (up a) 0) (ℕ_discrete (up j) (up a))) (λ (g : j ≤ a). simp (le-ltb a j g)) (lt_or_ge a j)
    where
      go : a < j → Dec (up a ≡ 0) → Dec (up j ≡ up a) → (ltb a j && (not (eqb (up a) 0) && eqb (up j) (up a))) ≡ false
      go l (yes z) d = simp (eq-eqb (up a) 0 z, and-false)
      go l (no z) (yes q) = absurd (h l z q)
      go l (no z) (no q) = simp (ne_eqb (up j) (up a) q, and-false)

module _ (n : ℕ) (e : Entries) (f : Facts n e) (small : n ≤ 4096) (P : ℕ → Bool) (j : ℕ) (l : 1 ≤ j) (h : j ≤ n) (B : ℕ → Bool) where
  low : e.fa j < j
  low = (f.each j l h).fa_high

  pub spread_parent : Kids (Seen P 1 (n + 1)) e.fa n B → B j ≡ spread_of 4 n e.fa P j
  unfolding on_axis parent_of
  spread_parent k = go (B j) refl
    where
      go : (b : Bool) → B j ≡ b → B j ≡ spread_of 4 n e.fa P j
      go true q =
          let s = k.no j l h q in
          q ∙ sym (hit n e f small P j l h 4 s.0 s.1.low (omega (arith, s.1.high)) s.1.passes (eq-eqb (e.fa s.0) j s.2))
      go false q = q ∙ sym (none n e f small P j l h 4 (λ c a b p. ne_eqb (e.fa c) j (λ w. false≢true (sym q ∙ ap B (sym w)
          ∙ k.yes c (record { low = a; high = omega arith; passes = p }) (omega arith) (omega arith)))))

  pub spread_later : Kids (Seen P 1 j) e.fa n B → (not (eqb (e.fa j) 0) && B (e.fa j)) ≡ spread_of 9 n e.fa P j
  unfolding on_axis
  spread_later k = go (ℕ_discrete (e.fa j) 0) (B (e.fa j)) refl
    where
      go : Dec (e.fa j ≡ 0) → (b : Bool) → B (e.fa j) ≡ b → (not (eqb (e.fa j) 0) && B (e.fa j)) ≡ spread_of 9 n e.fa P j
      go (yes z) b q = simp (eq-eqb (e.fa j) 0 z) (sym (none n e f small P j l h 9 (λ c a d p. sibling_no e.fa c j (λ m w v. w (sym v ∙ z)))))
      go (no z) true q =
          let s = k.no (e.fa j) (omega arith) (omega (arith, low)) q in
          simp (ne_eqb (e.fa j) 0 z, q) (sym (hit n e f small P j l h 9 s.0 s.1.low (omega (arith, s.1.high)) s.1.passes
          (sibling_yes e.fa s.0 j s.1.high (λ w. z (sym s.2 ∙ w)) (sym s.2))))
      go (no z) false q =
          simp (ne_eqb (e.fa j) 0 z, q) (sym (none n e f small P j l h 9 (λ c a d p. sibling_no e.fa c j (λ m w v.
          false≢true (sym q ∙ ap B v ∙ k.yes c (record { low = a; high = m; passes = p }) (omega arith) (omega (arith, low)))))))

  pub spread_earlier : Kids (Seen P (j + 1) (n + 1)) e.fa n B → (not (eqb (e.fa j) 0) && B (e.fa j)) ≡ spread_of 10 n e.fa P j
  unfolding on_axis
  spread_earlier k = go (ℕ_discrete (e.fa j) 0) (B (e.fa j)) refl
    where
      go : Dec (e.fa j ≡ 0) → (b : Bool) → B (e.fa j) ≡ b → (not (eqb (e.fa j) 0) && B (e.fa j)) ≡ spread_of 10 n e.fa P j
      go (yes z) b q = simp (eq-eqb (e.fa j) 0 z) (sym (none n e f small P j l h 10 (λ c a d p. sibling_no e.fa j c (λ m w v. w z))))
      go (no z) true q =
          let s = k.no (e.fa j) (omega arith) (omega (arith, low)) q in
          simp (ne_eqb (e.fa j) 0 z, q) (sym (hit n e f small P j l h 10 s.0 (omega (arith, s.1.low)) (omega (arith, s.1.high)) s.1.passes
          (sibling_yes e.fa j s.0 (omega (arith, s.1.low)) z s.2)))
      go (no z) false q =
          simp (ne_eqb (e.fa j) 0 z, q) (sym (none n e f small P j l h 10 (λ c a d p. sibling_no e.fa j c (λ m w v.
          false≢true (sym q ∙ ap B (sym v) ∙ k.yes c (record { low = omega arith; high = omega arith; passes = p }) (omega arith) (omega (arith, low)))))))
