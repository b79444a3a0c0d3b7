-- Strictly ascending ranks, tested from the front.
--   rises_from n last l   each of l is above the one before it, the first above last, and at most n
--   rising_is            from 0 on this says: ranks from 1 to n, strictly ascending
--   rising_…             its cases at place k of a list
--   within_at            each of the list is a rank from 1 to n
use Prim.Native.Nat.{ℕ, suc, ◌+◌, ◌≤◌, ◌<◌}
use Rattle.std.specs.Prelude.{◌≡◌, refl, List, [], ◌∷◌, Bool, true, false, ◌&&◌, length, get_or, drop, ltb, leb}
use Rattle.std.proofs.Math.Path.{ap}
use Rattle.std.proofs.Common.{◌∙◌, sym, arith, add-one, drop_of_length-le, drop-cons}
use Rattle.std.proofs.Math.Bool.{and-false}
use Rattle.std.proofs.lemmas.Bool.{false≢true}
use borrow.Author.Tests.{lt-ltb, le-ltb, le-leb, lt-leb, ltb-true, leb-true}
use Rattle.xpath.specs.Select.{rises, within}

-- each number is above the one before it, the first above last, and none is over n
unfoldable pub rises_from : ℕ → ℕ → List ℕ → Bool
rises_from n last [] = true
rises_from n last (c ∷ l) = ltb last c && (leb c n && rises_from n c l)

-- the first, if there is one, is above last
abbrev above : ℕ → List ℕ → Bool
above last [] = true
above last (c ∷ l) = ltb last c

rises_cons : (c : ℕ) (l : List ℕ) → rises (c ∷ l) ≡ (above c l && rises l)
unfolding rises
rises_cons c [] = refl
rises_cons c (d ∷ l) = refl

-- regrouping: o follows from a
regroup : (a o b w x y : Bool) → (a ≡ true → o ≡ true) → (a && (b && (w && (x && y)))) ≡ ((o && b && w) && (a && (x && y)))
regroup false o b w x y h = sym (and-false (o && b && w))
regroup true o b w x y h = rw (h refl) (go b w)
  where
    go : (b w : Bool) → (b && (w && (x && y))) ≡ ((b && w) && (x && y))
    go true w = refl
    go false w = refl

from_is : (n last : ℕ) (l : List ℕ) → rises_from n last l ≡ (within n l && (above last l && rises l))
unfolding rises_from within rises
from_is n last [] = refl
from_is n last (c ∷ l) =
    ap (λ (b : Bool). ltb last c && (leb c n && b)) (from_is n c l)
    ∙ regroup (ltb last c) (leb 1 c) (leb c n) (within n l) (above c l) (rises l) (λ h. le-leb 1 c (omega (arith, ltb-true last c h)))
    ∙ ap (λ (b : Bool). (leb 1 c && leb c n && within n l) && (ltb last c && b)) (sym (rises_cons c l))

pub rising_is : (n : ℕ) (l : List ℕ) → (within n l && rises l) ≡ rises_from n 0 l
unfolding within rises
rising_is n l = go l ∙ sym (from_is n 0 l)
  where
    go : (l : List ℕ) → (within n l && rises l) ≡ (within n l && (above 0 l && rises l))
    go [] = refl
    go (c ∷ l) = low (leb 1 c) (leb c n && within n l) refl
      where
        low : (o w : Bool) → leb 1 c ≡ o → ((o && leb c n && within n l) && rises (c ∷ l)) ≡ ((o && leb c n && within n l) && (ltb 0 c && rises (c ∷ l)))
        low true w q = rw (lt-ltb 0 c (omega (arith, leb-true 1 c q)))
        low false w q = refl

module _ (n last : ℕ) (l : List ℕ) (k : ℕ) where
  pub rising_end : length l ≤ k → rises_from n last (drop k l) ≡ true
  unfolding rises_from
  rising_end h = ap (rises_from n last) (drop_of_length-le l h)

  module _ (h : k < length l) where
    pub rising_low : get_or l k 0 ≤ last → rises_from n last (drop k l) ≡ false
    unfolding rises_from
    rising_low g = ap (rises_from n last) (drop-cons l k 0 h) ∙ simp (le-ltb _ _ g)

    pub rising_high : n < get_or l k 0 → rises_from n last (drop k l) ≡ false
    unfolding rises_from
    rising_high g = ap (rises_from n last) (drop-cons l k 0 h) ∙ simp (lt-leb _ _ g, and-false)

    pub rising_step : last < get_or l k 0 → get_or l k 0 ≤ n → rises_from n last (drop k l) ≡ rises_from n (get_or l k 0) (drop (k + 1) l)
    unfolding rises_from
    rising_step g m = ap (rises_from n last) (drop-cons l k 0 h) ∙ rw (add-one k) (simp (lt-ltb _ _ g, le-leb _ _ m))

-- a rank from 1 to n
pub record Rank (n i : ℕ) : Type 0 where
  pub low : 1 ≤ i
  pub high : i ≤ n

pub within_at : (n : ℕ) (l : List ℕ) → within n l ≡ true → (k : ℕ) → k < length l → Rank n (get_or l k 0)
unfolding within
within_at n [] w k h = absurd (omega arith)
within_at n (c ∷ l) w k h = go (leb 1 c) (leb c n) (within n l) refl refl w k h (λ q j g. within_at n l q j g)
  where
    go : (a b d : Bool) → leb 1 c ≡ a → leb c n ≡ b → (a && b && d) ≡ true → (k : ℕ) → k < suc (length l)
        → (d ≡ true → (j : ℕ) → j < length l → Rank n (get_or l j 0)) → Rank n (get_or (c ∷ l) k 0)
    go true true d p q r Prim.Native.Nat.zero g ih = record { low = leb-true 1 c p; high = leb-true c n q }
    go true true d p q r (suc k) g ih = ih r k (omega arith)
    go true false d p q r k g ih = absurd (false≢true r)
    go false b d p q r k g ih = absurd (false≢true r)
