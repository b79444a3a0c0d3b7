-- The way up from an element, start: it meets just the element and its ancestors, so that what it counts is the ancestor-or-self axis.
--   Way              j is start or an ancestor of it; 0 is the end of the way
--   way_start        start itself
--   top              entry 0 reads as entry 1, which has no parent
--   climb_start      after start nothing is on the axis
--   climb_count, climb_next   what is chosen up to j is j itself, if its name passes, and what is chosen up to its parent; which is on the way too
--   climb_hit, climb_miss   the rank at which what is left falls below p; there is none
--   above_kept       what is kept on the ancestor axis is on the way up from the parent
use Prim.Native.Nat.{ℕ, zero, suc, ◌+◌, ◌-◌, ◌≤◌, ◌<◌}
use mathlib.Core.Path.{◌≡◌, refl, ap, ◌∙◌, sym, subst}
use mathlib.Core.List.{List}
use mathlib.Core.Logic.{◌⊎◌, inl, inr, ⊎_elim}
use mathlib.Core.Bool.{Bool, true, false, ◌&&◌}
use native.Mathlib.Omega.{arith}
use native.Mathlib.Nat.{eq-or-lt_of_le}
use native.Mathlib.Decide.{ℕ_discrete}
use lib.ListN.{length}
use mir.Val.{bool_byte}
use lib.Dec.{eqb}
use borrow.Author.Tests.{eq-eqb}
use Rattle.turns.specs.Pick.{pick}
use Rattle.trees.specs.Names.{passes}
use Rattle.trees.specs.Facts.{Inside, Follows, Facts}
use Rattle.trees.specs.Order.{lt_or_ge}
use Rattle.trees.specs.Signature.{Entries, cell, entries_of, width}
use Rattle.xpath.specs.Select.{up_to}
use Rattle.xpath.specs.SelectLaws.{up_same}
use Rattle.xpath.specs.Axes.{met, ancestor_of, ancestor_or_self, chosen, pth, kept}
use Rattle.xpath.specs.Ancestors.{inside_yes, inside_no}
use Rattle.xpath.specs.Levels.{above_other}
use Rattle.marks.proofs.Marking.{count_yes, count_no}
use Rattle.searching.specs.Only.{Only}
use Rattle.axes.proofs.Cases.{self_yes, self_other, chosen_off, chosen_on, axis_ancestor, axis_ancestor_or_self}
use Rattle.searching.proofs.Found.{count_skip, only_hit, only_none}

-- j is start or an ancestor of it, or 0
pub record Way (e : Entries) (start j : ℕ) : Type 0 where
  pub high : j ≤ start
  pub over : 1 ≤ j → start < e.ff j

-- entry 0 reads as entry 1, which has no parent
pub top : (n : ℕ) (s : List ℕ) → Facts n (entries_of width s) → (entries_of width s).fa 0 ≡ 0
unfolding cell
top n s f = f.root_fa

-- rank 0 has no ancestors
none_above : (up : ℕ → ℕ) → up 0 ≡ 0 → (k i : ℕ) → met up k i 0 ≡ false
unfolding met
none_above up none zero i = refl
none_above up none (suc k) i = simp (eq-eqb _ _ none)

module _ (n : ℕ) (e : Entries) (f : Facts n e) (test start : ℕ) (h : start ≤ n) where
  abbrev P : ℕ → Bool
  P = chosen 6 n e.fa e.name test start

  pub way_start : Way e start start
  way_start = record { high = omega arith; over = λ l. (f.each start l h).ff_low }

  way_next : (j : ℕ) → 1 ≤ j → Way e start j → Way e start (e.fa j)
  way_next j l w =
      let low = (f.each j l (omega (arith, w.high))).fa_high in
      record { high = omega (arith, w.high); over = λ u. omega (arith, w.over l, (f.own j (omega arith) (omega (arith, w.high))).nested) }

  -- what is not start, and whose block start is not in, is not on the axis
  off : (i : ℕ) → 1 ≤ i → i ≤ n → 1 ≤ start → (i ≡ start → ⊥) → (i < start → e.ff i ≤ start) → P i ≡ false
  off i l g ls ne out =
      chosen_off 6 n e.fa e.name test start i
      (axis_ancestor_or_self 6 n e.fa start i refl ∙ self_other n e.fa i start ne ∙ inside_no n e f n i start l ls h out)

  on : (j : ℕ) → 1 ≤ j → Way e start j → P j ≡ passes test (e.name j)
  on j l w = chosen_on 6 n e.fa e.name test start j (axis_ancestor_or_self 6 n e.fa start j refl ∙ ⊎_elim
      (λ (q : j ≡ start). self_yes n e.fa j start q)
      (λ (q : j < start). self_other n e.fa j start (omega arith) ∙ inside_yes n e f n j start l q h h (w.over l))
      (eq-or-lt_of_le w.high))

  -- between an element of the way and its parent there is none
  gap : (j : ℕ) → 1 ≤ j → Way e start j → (i : ℕ) → e.fa j < i → i ≤ j - 1 → P i ≡ false
  gap j l w i m g =
      off i (omega arith) (omega (arith, w.high)) (omega (arith, w.high)) (omega (arith, w.high)) (λ q. go (f.pair i j (omega arith) (omega arith) (omega (arith, w.high))))
    where
      go : Inside e i j ⊎ Follows e i j → e.ff i ≤ start
      go (inl x) = absurd (omega (arith, x.under))
      go (inr x) = omega (arith, x.outside, w.high)

  pub climb_count : (j : ℕ) → 1 ≤ j → Way e start j → (b : Bool) → b ≡ passes test (e.name j) → length (up_to j P) ≡ bool_byte b + length (up_to (e.fa j) P)
  climb_count j l w b s = go b (on j l w ∙ sym s)
    where
      low : e.fa j < j
      low = (f.each j l (omega (arith, w.high))).fa_high

      back : j - 1 + 1 ≡ j
      back = omega arith

      before : length (up_to (e.fa j) P) ≡ length (up_to (j - 1) P)
      before = count_skip P (e.fa j) (j - 1) (length (up_to (e.fa j) P)) refl (omega (arith, low)) (gap j l w)

      whole : length (up_to (j - 1 + 1) P) ≡ length (up_to j P)
      whole = ap (λ (x : ℕ). length (up_to x P)) back

      go : (b : Bool) → P j ≡ b → length (up_to j P) ≡ bool_byte b + length (up_to (e.fa j) P)
      go true q = omega (arith, count_yes P (j - 1) (length (up_to (j - 1) P)) (ap P back ∙ q) refl, before, whole)
      go false q = omega (arith, count_no P (j - 1) (length (up_to (j - 1) P)) (ap P back ∙ q) refl, before, whole)

  -- the same where the code has read the parent
  pub climb_next : (j : ℕ) → 1 ≤ j → Way e start j → (b : Bool) → b ≡ passes test (e.name j) → (r : ℕ) → r ≡ e.fa j
      → Way e start r × (length (up_to j P) ≡ bool_byte b + length (up_to r P))
  climb_next j l w b s r q = subst (λ (x : ℕ). Way e start x × (length (up_to j P) ≡ bool_byte b + length (up_to x P))) (sym q) (way_next j l w, climb_count j l w b s)

  module _ (none : e.fa 0 ≡ 0) where
    pub climb_start : length (up_to start P) ≡ length (up_to n P)
    climb_start = count_skip P start n (length (up_to start P)) refl h (λ i m g. go i m g (ℕ_discrete start 0))
      where
        go : (i : ℕ) → start < i → i ≤ n → Dec (start ≡ 0) → P i ≡ false
        go i m g (yes z) =
            chosen_off 6 n e.fa e.name test start i (axis_ancestor_or_self 6 n e.fa start i refl ∙ self_other n e.fa i start (omega arith)
            ∙ ap (λ (x : ℕ). met e.fa n i x) z ∙ none_above e.fa none n i)
        go i m g (no z) = off i (omega arith) g (omega arith) (omega arith) (λ q. absurd (omega arith))

  module _ (p : ℕ) (lp : 1 ≤ p) where
    pub climb_hit : (j : ℕ) → 1 ≤ j → Way e start j → (b : Bool) → b ≡ passes test (e.name j) → p ≤ length (up_to j P) → length (up_to j P) - bool_byte b < p → Only n (kept 6 p P) j
    climb_hit j l w true s k m = only_hit P 6 p lp n j (omega (arith, w.high)) (on j l w ∙ sym s) (omega arith)
    climb_hit j l w false s k m = absurd (omega arith)

    pub climb_miss : (left : ℕ) → left < p → (p ≤ length (up_to n P) → p ≤ left) → Only n (kept 6 p P) 0
    climb_miss left m k =
        ⊎_elim (λ (q : length (up_to n P) < p). only_none P 6 p lp n n n (length (up_to n P)) (omega arith) refl q (λ i a b. absurd (omega arith)))
        (λ (q : p ≤ length (up_to n P)). absurd (omega (arith, k q))) (lt_or_ge (length (up_to n P)) p)

-- ---- the ancestor axis

module _ (n : ℕ) (e : Entries) (f : Facts n e) (none : e.fa 0 ≡ 0) (c : ℕ) (lc : 1 ≤ c) (hc : c ≤ n) where
  low : e.fa c < c
  low = (f.each c lc hc).fa_high

  -- the ancestors are the parent and its ancestors
  above_is : (i : ℕ) → 1 ≤ i → i ≤ n → ancestor_of n e.fa i c ≡ ancestor_or_self n e.fa i (e.fa c)
  above_is i l h = go (ℕ_discrete (e.fa c) 0) (ℕ_discrete i (e.fa c))
    where
      go : Dec (e.fa c ≡ 0) → Dec (i ≡ e.fa c) → ancestor_of n e.fa i c ≡ ancestor_or_self n e.fa i (e.fa c)
      go (yes z) y =
          inside_no n e f n i c l lc hc (λ q. absurd (omega (arith, f.inner c (omega arith) hc)))
          ∙ sym (self_other n e.fa i (e.fa c) (omega arith) ∙ ap (λ (x : ℕ). met e.fa n i x) z ∙ none_above e.fa none n i)
      go (no z) (yes q) =
          inside_yes n e f n i c l (omega (arith, low)) hc hc (omega (arith, (f.own c (omega (arith, low)) hc).inside, ap e.ff q))
          ∙ sym (self_yes n e.fa i (e.fa c) q)
      go (no z) (no q) = above_other n e f c lc hc (omega arith) i l h q ∙ sym (self_other n e.fa i (e.fa c) q)

  above_same : (test p r : ℕ) → Only n (kept 6 p (chosen 6 n e.fa e.name test (e.fa c))) r → Only n (kept 5 p (chosen 5 n e.fa e.name test c)) r
  unfolding kept pth chosen
  above_same test p r o = record { high = o.high; are = λ i l h. go i l h ∙ o.are i l h }
    where
      P : ℕ → Bool
      P i = chosen 5 n e.fa e.name test c i

      Q : ℕ → Bool
      Q i = chosen 6 n e.fa e.name test (e.fa c) i

      each : (i : ℕ) → 1 ≤ i → i ≤ n → P i ≡ Q i
      each i l h =
          ap (λ (b : Bool). b && passes test (e.name i))
          (axis_ancestor 5 n e.fa c i refl ∙ above_is i l h ∙ sym (axis_ancestor_or_self 6 n e.fa (e.fa c) i refl))

      go : (i : ℕ) → 1 ≤ i → i ≤ n → kept 5 p P i ≡ kept 6 p Q i
      go i l h =
          ap (λ (b : Bool). pick (eqb p 0) b (b && eqb (length (up_to i P)) p)) (each i l h)
          ∙ ap (λ (x : List ℕ). pick (eqb p 0) (Q i) (Q i && eqb (length x) p)) (up_same P Q i (λ j a b. each j a (omega arith)))

  pub above_kept : (axis up test p r : ℕ) → axis ≡ 5 → up ≡ e.fa c → Only n (kept 6 p (chosen 6 n e.fa e.name test up)) r
      → Only n (kept axis p (chosen axis n e.fa e.name test c)) r
  above_kept axis up test p r a u o =
      subst (λ (x : ℕ). Only n (kept x p (chosen x n e.fa e.name test c)) r) (sym a)
      (above_same test p r (subst (λ (x : ℕ). Only n (kept 6 p (chosen 6 n e.fa e.name test x)) r) u o))
