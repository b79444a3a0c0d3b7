-- A row of siblings: from each element its ff leads to the next.
--   next_child, only_child    the next element of a row; none of the row is below another
--   row_on, row_early, row_late, row_gap   which ranks are in the row
--   row_next                  the row after one more element
--   met_…, none_left          the count at the next rank, the rank at which it comes to p, the count past its block; no rank is found
--   begun_child, begun_later, begun_earlier   the rows that the code searches
--   row_low, row_high         the row of a context ends within the entries
use Prim.Native.Nat.{ℕ, ◌+◌, ◌-◌, ◌≤◌, ◌<◌}
use mathlib.Core.Path.{◌≡◌, refl, ap, ◌∙◌, sym}
use mathlib.Core.List.{List}
use mathlib.Core.Logic.{◌⊎◌, inl, inr, ⊎_elim}
use mathlib.Core.Bool.{Bool, false, ◌&&◌, and-false}
use lib.ListN.{length}
use mir.Val.{bool_byte}
use native.Mathlib.Omega.{arith}
use native.Mathlib.Decide.{ℕ_discrete}
use native.Mathlib.Nat.{eq-or-lt_of_le}
use borrow.Author.Tests.{lt-ltb, le-ltb, le-leb, lt-leb, eq-eqb, ne_eqb}
use Rattle.trees.specs.Facts.{Inside, Follows, Facts}
use Rattle.trees.specs.Names.{passes}
use Rattle.trees.specs.Order.{lt_or_ge}
use Rattle.trees.specs.Signature.{Entries, cell, entries_of, width}
use Rattle.xpath.specs.Select.{up_to}
use Rattle.xpath.specs.SelectLaws.{up_length}
use Rattle.xpath.specs.Axes.{kept}
use Rattle.searching.specs.Only.{Only}
use Rattle.searching.proofs.Found.{count_next, count_skip, only_at, only_none}
use Rattle.axes.specs.Row.{in_row, Row}

module _ (n : ℕ) (e : Entries) (f : Facts n e) (up k : ℕ) (l : 1 ≤ k) (h : k ≤ n) (q : e.fa k ≡ up) where
  high : up < k
  high = omega (arith, (f.each k l h).fa_high)

  pub next_child : e.ff k ≤ n → (1 ≤ up → e.ff k < e.ff up) → e.fa (e.ff k) ≡ up
  next_child g s = go (ℕ_discrete up 0)
    where
      past : k < e.ff k
      past = (f.each k l h).ff_low

      low : e.fa (e.ff k) < e.ff k
      low = (f.each (e.ff k) (omega (arith, past)) g).fa_high

      -- the parent of the next is no element of the block of k, so that it comes before k
      before : Inside e k (e.ff k) ⊎ Follows e k (e.ff k) → e.fa (e.ff k) < k
      before (inl x) = absurd (omega (arith, x.inside))
      before (inr x) = ⊎_elim (λ (y : e.fa (e.ff k) < k). y) (λ (y : e.ff k ≤ e.fa (e.ff k)). absurd (omega (arith, low))) x.apart

      under : 1 ≤ up → Inside e up (e.ff k) ⊎ Follows e up (e.ff k) → up ≤ e.fa (e.ff k)
      under w (inl x) = x.under
      under w (inr x) = absurd (omega (arith, x.outside, s w))

      -- it is not between up and k
      deep : up < e.fa (e.ff k) → e.fa (e.ff k) < k → Inside e (e.fa (e.ff k)) k ⊎ Follows e (e.fa (e.ff k)) k → ⊥
      deep y m (inl x) = omega (arith, x.under)
      deep y m (inr x) = omega (arith, x.outside, past, (f.own (e.ff k) (omega (arith, past)) g).inside)

      root : up ≡ 0 → (1 < k) ⊎ (k ≤ 1) → ⊥
      root z (inl x) = omega (arith, f.inner k x h)
      root z (inr x) = let y : e.ff k ≡ e.ff 1 = ap e.ff (omega arith) in omega (arith, f.root_ff)

      go : Dec (up ≡ 0) → e.fa (e.ff k) ≡ up
      go (yes z) = absurd (root z (lt_or_ge 1 k))
      go (no z) =
          let b : e.fa (e.ff k) < k = before (f.pair k (e.ff k) l past g) in
          ⊎_elim (λ (y : up ≡ e.fa (e.ff k)). sym y)
          (λ (y : up < e.fa (e.ff k)). absurd (deep y b (f.pair (e.fa (e.ff k)) k (omega arith) b h)))
          (eq-or-lt_of_le (under (omega arith) (f.pair up (e.ff k) (omega arith) (omega (arith, past, high)) g)))

  pub only_child : (i : ℕ) → k < i → i ≤ n → i < e.ff k → e.fa i ≡ up → ⊥
  only_child i m g w z = go (f.pair k i l m g)
    where
      go : Inside e k i ⊎ Follows e k i → ⊥
      go (inl x) = omega (arith, x.under, high)
      go (inr x) = omega (arith, x.outside)

-- ---- the ranks of a row

module _ (n : ℕ) (e : Entries) (f : Facts n e) (test up after last : ℕ) where
  abbrev P : ℕ → Bool
  P i = in_row e up after last i && passes test (e.name i)

  pub row_early : (i : ℕ) → i ≤ after → P i ≡ false
  row_early i h = simp (le-ltb after i h)

  pub row_late : (i : ℕ) → last < i → P i ≡ false
  row_late i h = simp (lt-leb i last h, and-false)

  pub row_on : (j : ℕ) → Row n e up j last → after ≤ j → j < last → P (j + 1) ≡ passes test (e.name (j + 1))
  row_on j r a h = simp (lt-ltb after (j + 1) (omega arith), le-leb (j + 1) last (omega arith), eq-eqb (e.fa (j + 1)) up (r.first h))

  module _ (j : ℕ) (r : Row n e up j last) (h : j < last) (x : ℕ) (q : x ≡ e.ff (j + 1)) where
    pub row_gap : (i : ℕ) → j + 1 < i → i ≤ x - 1 → P i ≡ false
    row_gap i m g = ⊎_elim (λ (y : last < i). row_late i y)
        (λ (y : i ≤ last). simp (ne_eqb (e.fa i) up (only_child n e f up (j + 1) (omega arith) (omega (arith, r.high)) (r.first h) i m (omega (arith, r.high)) (omega arith)), and-false))
        (lt_or_ge last i)

    pub row_next : Row n e up (x - 1) last
    row_next = record { high = r.high; first = λ m. ap e.fa (here m) ∙ next m; inside = r.inside }
      where
        here : x - 1 < last → x - 1 + 1 ≡ e.ff (j + 1)
        here m = omega (arith, (f.each (j + 1) (omega arith) (omega (arith, r.high))).ff_low)

        next : x - 1 < last → e.fa (e.ff (j + 1)) ≡ up
        next m =
            next_child n e f up (j + 1) (omega arith) (omega (arith, r.high)) (r.first h) (omega (arith, here m, r.high)) (λ w. omega (arith, here m, r.inside w))

-- ---- the search

module _ (n : ℕ) (e : Entries) (f : Facts n e) (test up after last j : ℕ) (r : Row n e up j last) (a : after ≤ j) (met : ℕ)
    (q : met ≡ length (up_to j (λ i. in_row e up after last i && passes test (e.name i)))) where
  abbrev Q : ℕ → Bool
  Q i = in_row e up after last i && passes test (e.name i)

  pub none_left : (p : ℕ) → 1 ≤ p → met < p → last ≤ j → Only n (kept 1 p (λ i. in_row e up after last i && passes test (e.name i))) 0
  none_left p lp m h = only_none Q 1 p lp n j last met h q m (λ i w g. row_late n e f test up after last i w)

  module _ (h : j < last) (b : Bool) (s : b ≡ passes test (e.name (j + 1))) where
    is : b ≡ Q (j + 1)
    is = s ∙ sym (row_on n e f test up after last j r a h)

    pub met_small : met + bool_byte b ≤ n
    met_small = omega (arith, count_next Q j met b q is, up_length Q (j + 1), r.high)

    pub met_here : (p : ℕ) → 1 ≤ p → met < p → met + bool_byte b ≡ p → Only n (kept 1 p (λ i. in_row e up after last i && passes test (e.name i))) (j + 1)
    met_here p lp m g = only_at Q 1 p lp n j met b (omega (arith, r.high)) q m is g

    pub met_next : (x : ℕ) → x ≡ e.ff (j + 1) → met + bool_byte b ≡ length (up_to (x - 1) (λ i. in_row e up after last i && passes test (e.name i)))
    met_next x w =
        count_skip Q (j + 1) (x - 1) (met + bool_byte b) (count_next Q j met b q is) (omega (arith, (f.each (j + 1) (omega arith) (omega (arith, r.high))).ff_low))
        (row_gap n e f test up after last j r h x w)

-- ---- the rows that the code searches

module _ (n : ℕ) (e : Entries) (f : Facts n e) (c : ℕ) (lc : 1 ≤ c) (hc : c ≤ n) (last : ℕ) where
  first_child : (u : ℕ) → 1 ≤ u → u + 1 ≤ n → u + 1 < e.ff u → e.fa (u + 1) ≡ u
  first_child u l h w = go (f.pair u (u + 1) l (omega arith) h)
    where
      go : Inside e u (u + 1) ⊎ Follows e u (u + 1) → e.fa (u + 1) ≡ u
      go (inl x) = omega (arith, x.under, (f.each (u + 1) (omega arith) h).fa_high)
      go (inr x) = absurd (omega (arith, x.outside))

  pub begun_child : last ≡ e.ff c - 1 → Row n e c c last
  begun_child q =
      let o = f.each c lc hc in
      record {
        high = omega (arith, o.ff_high);
        first = λ m. first_child c lc (omega (arith, o.ff_high)) (omega arith);
        inside = λ w. omega (arith, o.ff_low);
      }

  pub begun_later : (up row : ℕ) → up ≡ e.fa c → last ≡ e.ff c - 1 → row ≡ e.ff up - 1 → e.ff up ≤ n + 1 → Row n e up last row
  begun_later up row u q s w =
      let o = f.each c lc hc in
      record {
        high = omega arith;
        first = λ m. ap e.fa (let y : last + 1 ≡ e.ff c = omega (arith, o.ff_low) in y)
            ∙ next_child n e f up c lc hc (sym u) (omega (arith, o.ff_low)) (λ z. omega (arith, o.ff_low));
        inside = λ z. omega (arith, (f.each up z (omega (arith, o.fa_high))).ff_low);
      }

  pub begun_earlier : (up : ℕ) → up ≡ e.fa c → last ≡ c - 1 → Row n e up up last
  begun_earlier up u q = record { high = omega arith; first = λ m. first_child up (above m) (omega arith) (omega (arith, around (above m))); inside = λ w. omega (arith, around w) }
    where
      above : up < last → 1 ≤ up
      above m = omega (arith, f.inner c (omega arith) hc)

      around : 1 ≤ up → c < e.ff up
      around w =
          let y : e.ff (e.fa c) ≡ e.ff up = ap e.ff (sym u) in
          omega (arith, (f.own c (omega (arith, (f.each c lc hc).fa_high)) hc).inside)

-- entry 0 reads as entry 1
first : (s : List ℕ) → cell width s 0 2 ≡ cell width s 1 2
unfolding cell
first s = refl

-- the row of a context ends within the entries; that of the root, which has no parent, with the last one
module _ (s : List ℕ) (n : ℕ) (f : Facts n (entries_of width s)) (c : ℕ) (l : 1 ≤ c) (h : c ≤ n) (up : ℕ) (u : up ≡ (entries_of width s).fa c) where
  bounds : (1 ≤ cell width s up 2) × (cell width s up 2 ≤ n + 1)
  bounds = go (ℕ_discrete up 0)
    where
      root : cell width s 0 2 ≡ cell width s 1 2
      root = first s

      go : Dec (up ≡ 0) → (1 ≤ cell width s up 2) × (cell width s up 2 ≤ n + 1)
      go (yes z) = let y : cell width s up 2 ≡ cell width s 0 2 = ap (λ (i : ℕ). cell width s i 2) z in (omega (arith, root, f.root_ff), omega (arith, root, f.root_ff))
      go (no z) = let o = f.each up (omega arith) (omega (arith, (f.each c l h).fa_high)) in (omega (arith, o.ff_low), o.ff_high)

  pub row_low : 1 ≤ (entries_of width s).ff up
  row_low = bounds.0

  pub row_high : (entries_of width s).ff up ≤ n + 1
  row_high = bounds.1
