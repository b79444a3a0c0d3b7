-- The search for the p-th: the count is that of the ranks up to j, and less than p.
--   count_next, count_start, count_skip   the count at the next rank, at the first, and past ranks that do not pass
--   count_below  a count that does not come to p
--   only_hit, only_at   a rank that passes and whose count is p; the rank at which the count comes to p
--   counts_more  a rank that passes counts one more than those before it
--   only_none    no rank does
--   only_marks   the mark of the only rank
use Prim.Native.Nat.{ℕ, zero, suc, ◌+◌, ◌≤◌, ◌<◌}
use mathlib.Core.Path.{◌≡◌, refl, ap, ◌∙◌, sym}
use mathlib.Core.List.{List}
use mathlib.Core.Logic.{⊎_elim}
use mathlib.Core.Bool.{Bool, true, false, ◌&&◌, ◌||◌, or-true, or-false}
use native.Mathlib.Omega.{arith}
use native.Mathlib.Numerals.{add-one}
use native.Mathlib.Nat.{eq-or-lt_of_le}
use native.Mathlib.Decide.{ℕ_discrete}
use lib.ListN.{length, set, length-set}
use lib.Seq.{get_or-set_same, get_or-set_other}
use lib.Dec.{eqb}
use mir.Val.{bool_byte}
use borrow.Author.Tests.{eq-eqb, ne_eqb}
use Rattle.trees.specs.Order.{lt_or_ge}
use Rattle.xpath.specs.Select.{up_to}
use Rattle.xpath.specs.SelectLaws.{up_none, up_grows}
use Rattle.xpath.specs.Axes.{pth, kept}
use Rattle.xpath.specs.Kept.{kept_other, kept_position}
use Rattle.marks.specs.Marks.{marked, Marked}
use Rattle.marks.proofs.Marking.{count_yes, count_no}
use Rattle.searching.specs.Only.{Only}

-- a count below p that does not come to p stays below it
pub count_below : (b t : Bool) (met p : ℕ) → b ≡ t → met < p → (met + bool_byte b ≡ p → ⊥) → met + bool_byte b < p
count_below true t met p s m ne = omega arith
count_below false t met p s m ne = omega arith

module _ (P : ℕ → Bool) where
  pub count_next : (j met : ℕ) (b : Bool) → met ≡ length (up_to j P) → b ≡ P (j + 1) → met + bool_byte b ≡ length (up_to (j + 1) P)
  count_next j met true q s = count_yes P j met (sym s) q
  count_next j met false q s = omega (arith, count_no P j met (sym s) q)

  pub count_start : (j : ℕ) → ((i : ℕ) → 1 ≤ i → i ≤ j → P i ≡ false) → 0 ≡ length (up_to j P)
  count_start j h = sym (ap length (up_none P j h))

  past : (j k : ℕ) → j ≤ k → ((i : ℕ) → j < i → i ≤ k → P i ≡ false) → up_to k P ≡ up_to j P
  unfolding up_to
  past j zero l h = ap (λ (x : ℕ). up_to x P) (let z : 0 ≡ j = omega arith in z)
  past j (suc k) l h =
      ⊎_elim (λ (e : j ≡ suc k). ap (λ (x : ℕ). up_to x P) (sym e))
      (λ (m : j < suc k). simp (h (suc k) m (omega arith)) (past j k (omega arith) (λ i a b. h i a (omega arith))))
      (eq-or-lt_of_le l)

  pub count_skip : (j k met : ℕ) → met ≡ length (up_to j P) → j ≤ k → ((i : ℕ) → j < i → i ≤ k → P i ≡ false) → met ≡ length (up_to k P)
  count_skip j k met q l h = q ∙ sym (ap length (past j k l h))

  -- a rank that passes after j counts one more than j
  pub counts_more : (j i : ℕ) → j < i → P i ≡ true → length (up_to j P) < length (up_to i P)
  counts_more j zero l h = absurd (omega arith)
  counts_more j (suc i) l h =
      let y : P (i + 1) ≡ true = ap P (add-one i) ∙ h in
      omega (arith, up_grows P j i (omega arith), count_yes P i (length (up_to i P)) y refl, ap (λ (x : ℕ). length (up_to x P)) (add-one i))

  module _ (axis p : ℕ) (lp : 1 ≤ p) where
    kept_miss : (i : ℕ) → (P i ≡ true → length (up_to i P) ≡ p → ⊥) → kept axis p P i ≡ false
    unfolding pth
    kept_miss i h = kept_position axis p P i (omega arith) ∙ go (P i) refl
      where
        go : (b : Bool) → P i ≡ b → (b && eqb (length (up_to i P)) p) ≡ false
        go true q = ne_eqb _ _ (h q)
        go false q = refl

    kept_hit : (i : ℕ) → P i ≡ true → length (up_to i P) ≡ p → kept axis p P i ≡ true
    unfolding pth
    kept_hit i h q = kept_position axis p P i (omega arith) ∙ simp (h, eq-eqb _ _ q)

    -- no rank up to j is kept
    kept_early : (j i : ℕ) → i ≤ j → length (up_to j P) < p → kept axis p P i ≡ false
    kept_early j i l h = kept_miss i (λ y q. omega (arith, up_grows P i j l))

    pub only_hit : (n j : ℕ) → j ≤ n → P j ≡ true → length (up_to j P) ≡ p → Only n (kept axis p P) j
    only_hit n j l y q = record { high = l; are = λ i a b. go i (ℕ_discrete i j) }
      where
        other : (i : ℕ) → (i ≡ j → ⊥) → P i ≡ true → length (up_to i P) ≡ p → ⊥
        other i ne z r =
            ⊎_elim (λ (w : i < j). omega (arith, counts_more i j w y)) (λ (w : j ≤ i). omega (arith, counts_more j i (omega arith) z)) (lt_or_ge i j)

        go : (i : ℕ) → Dec (i ≡ j) → kept axis p P i ≡ eqb i j
        go i (yes z) = ap (kept axis p P) z ∙ kept_hit j y q ∙ sym (eq-eqb _ _ z)
        go i (no z) = kept_miss i (other i z) ∙ sym (ne_eqb _ _ z)

    pub only_at : (n j met : ℕ) (b : Bool) → j < n → met ≡ length (up_to j P) → met < p → b ≡ P (j + 1) → met + bool_byte b ≡ p → Only n (kept axis p P) (j + 1)
    only_at n j met true l q m s g = only_hit n (j + 1) (omega arith) (sym s) (sym (count_next j met true q s) ∙ g)
    only_at n j met false l q m s g = absurd (omega arith)

    pub only_none : (n j end met : ℕ) → end ≤ j → met ≡ length (up_to j P) → met < p → ((i : ℕ) → end < i → i ≤ n → P i ≡ false) → Only n (kept axis p P) 0
    only_none n j end met l q m h = record { high = omega arith; are = λ i a b. at i b ∙ sym (ne_eqb i 0 (omega arith)) }
      where
        at : (i : ℕ) → i ≤ n → kept axis p P i ≡ false
        at i b = ⊎_elim (λ (w : j < i). kept_other axis p P i (h i (omega arith) b)) (λ (w : i ≤ j). kept_early j i w (omega arith)) (lt_or_ge j i)

-- the only rank gets a mark; a mark at 0 is that of no rank
pub only_marks : (n : ℕ) (K : ℕ → Bool) (k : ℕ) (m : List Bool) → n ≤ 4096 → length m ≡ 4097 → Only n K k → Marked n K m (set m k true)
only_marks n K k m s w o = record { long = simp length-set w; are = λ i l h. go i l h (ℕ_discrete i k) }
  where
    go : (i : ℕ) → 1 ≤ i → i ≤ n → Dec (i ≡ k) → marked (set m k true) i ≡ (marked m i || K i)
    go i l h (yes z) =
        ap (marked (set m k true)) z ∙ get_or-set_same m k true false (omega (arith, o.high))
        ∙ sym (ap (λ (b : Bool). marked m i || b) (o.are i l h ∙ eq-eqb i k z) ∙ or-true (marked m i))
    go i l h (no z) =
        get_or-set_other m k i true false z
        ∙ sym (ap (λ (b : Bool). marked m i || b) (o.are i l h ∙ ne_eqb i k z) ∙ or-false (marked m i))
