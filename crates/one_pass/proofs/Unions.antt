-- What the passes mark, put together.
--   none_or           where nothing had a mark
--   same_arm          the contexts themselves
--   or_same_below, or_same_above   an axis or the contexts themselves
--   union_marks       contexts, axis and names give the answer
--   marks_written     the marked ranks written are the answer written
use Prim.Native.Nat.{ℕ, ◌≤◌}
use mathlib.Core.Path.{◌≡◌, refl, ap, ◌∙◌, sym, subst}
use mathlib.Core.List.{List}
use mathlib.Core.Bool.{Bool, true, false, ◌&&◌, ◌||◌, or-true, or-false}
use Rattle.trees.specs.Names.{passes}
use Rattle.xpath.specs.Select.{up_to, within}
use Rattle.xpath.specs.SelectLaws.{up_same}
use Rattle.xpath.specs.Rising.{within_at}
use Rattle.xpath.specs.Axes.{in_answer}
use Rattle.xpath.specs.Spread.{is_context, spread_of}
use Rattle.xpath.specs.SpreadUnion.{spread_same, spread_self, spread_below_or_self, spread_above_or_self, spread_answer}
use Rattle.terms.specs.Room.{room_for, Leaves}
use Rattle.marks.specs.Marks.{marked, Marks, Marked, lesser}
use Rattle.marks.proofs.Marking.{lesser_first}
use Rattle.terms.specs.Stops.{Written}

module _ (n : ℕ) (m₀ m : List Bool) (none : Marks n (λ j. false) m₀) where
  pub none_or : (K : ℕ → Bool) → Marked n K m₀ m → Marks n K m
  none_or K h = record { long = h.long; are = λ j l g. h.are j l g ∙ ap (λ (b : Bool). b || K j) (none.are j l g) }

  pub same_arm : (up : ℕ → ℕ) (from : List Bool) → Marked n (marked from) m₀ m → Marks n (spread_of 0 n up (marked from)) m
  same_arm up from h = record { long = h.long; are = λ j l g. (none_or (marked from) h).are j l g ∙ sym (spread_self n (marked from) j l g up) }

-- the marks of a pass, then the contexts' own
swap : (a s p : Bool) → ((a || s) || p) ≡ (a || (p || s))
swap true s p = refl
swap false true p = sym (or-true p)
swap false false p = sym (or-false p)

module _ (n : ℕ) (up : ℕ → ℕ) (from m₀ m₁ m₂ : List Bool) (h : Marked n (marked from) m₁ m₂) where
  pub or_same_below : Marked n (spread_of 2 n up (marked from)) m₀ m₁ → Marked n (spread_of 3 n up (marked from)) m₀ m₂
  or_same_below p = record {
    long = h.long;
    are = λ j l g. h.are j l g ∙ ap (λ (b : Bool). b || marked from j) (p.are j l g) ∙ swap (marked m₀ j) (spread_of 2 n up (marked from) j) (marked from j)
        ∙ ap (λ (b : Bool). marked m₀ j || b) (sym (spread_below_or_self n (marked from) j l g up));
  }

  pub or_same_above : Marked n (spread_of 5 n up (marked from)) m₀ m₁ → Marked n (spread_of 6 n up (marked from)) m₀ m₂
  or_same_above p = record {
    long = h.long;
    are = λ j l g. h.are j l g ∙ ap (λ (b : Bool). b || marked from j) (p.are j l g) ∙ swap (marked m₀ j) (spread_of 5 n up (marked from) j) (marked from j)
        ∙ ap (λ (b : Bool). marked m₀ j || b) (sym (spread_above_or_self n (marked from) j l g up));
  }

pub union_marks : (axis n : ℕ) (up name : ℕ → ℕ) (test : ℕ) (contexts : List ℕ) (from found m : List Bool) → within n contexts ≡ true
    → Marks n (is_context contexts) from → Marks n (spread_of axis n up (marked from)) found
    → Marks n (λ j. marked found j && passes test (name j)) m → Marks n (in_answer axis n up name test 0 contexts) m
union_marks axis n up name test contexts from found m w p q h = record {
  long = h.long;
  are = λ j l g. h.are j l g ∙ ap (λ (b : Bool). b && passes test (name j)) (q.are j l g ∙ spread_same axis n up (marked from) (is_context contexts) j p.are)
      ∙ spread_answer axis n up name test contexts j (λ k r. let x = within_at n contexts w k r in (x.low, x.high));
}

pub marks_written : (n : ℕ) → n ≤ 4096 → (P : ℕ → Bool) (m : List Bool) (room : List ℕ) (r : Written) (after : List ℕ) → Marks n P m
    → Leaves (room_for room (up_to (lesser n 4096) (marked m))) r after → Leaves (room_for room (up_to n P)) r after
marks_written n small P m room r after h q =
    subst (λ (l : List ℕ). Leaves (room_for room l) r after) (ap (λ (k : ℕ). up_to k (marked m)) (lesser_first n 4096 small) ∙ up_same (marked m) P n h.are) q
