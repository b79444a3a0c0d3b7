-- Marking for one context after the other.
--   marked_set     one more rank has a mark
--   Each           what is marked for the first k contexts
--   each_…         none, one more, all
use Prim.Native.Nat.{ℕ, ◌+◌, ◌≤◌, ◌<◌}
use mathlib.Core.Path.{◌≡◌, ap, ◌∙◌, sym}
use mathlib.Core.List.{List}
use mathlib.Core.Bool.{Bool, true, false, ◌||◌, or-true, or-false}
use native.Mathlib.Decide.{ℕ_discrete}
use lib.ListN.{length, get_or, set, take}
use lib.Seq.{get_or-set_same, get_or-set_other}
use lib.Dec.{eqb}
use borrow.Author.Tests.{eq-eqb, ne_eqb}
use Rattle.xpath.specs.Select.{some}
use Rattle.xpath.specs.SelectLaws.{some_more, some_all}
use Rattle.marks.specs.Marks.{marked, Marks, Marked}

pub marked_set : (m : List Bool) (c j : ℕ) → c < length m → marked (set m c true) j ≡ (marked m j || eqb c j)
marked_set m c j w = go (ℕ_discrete j c)
  where
    go : Dec (j ≡ c) → marked (set m c true) j ≡ (marked m j || eqb c j)
    go (yes e) =
        ap (marked (set m c true)) e ∙ get_or-set_same m c true false w
        ∙ sym (ap (λ (b : Bool). marked m j || b) (eq-eqb c j (sym e)) ∙ or-true (marked m j))
    go (no ne) =
        get_or-set_other m c j true false ne
        ∙ sym (ap (λ (b : Bool). marked m j || b) (ne_eqb c j (λ e. ne (sym e))) ∙ or-false (marked m j))

-- what is kept for one of the first k contexts is marked
abbrev pub Each : ℕ → (ℕ → ℕ → Bool) → List ℕ → ℕ → List Bool → Type 0
Each n K contexts k m = Marks n (λ j. some (λ c. K c j) (take k contexts)) m

module _ (n : ℕ) (K : ℕ → ℕ → Bool) (contexts : List ℕ) where
  pub each_none : (m : List Bool) → Marks n (λ j. false) m → Each n K contexts 0 m
  unfolding some
  each_none m h = record { long = h.long; are = λ j l g. h.are j l g }

  pub each_more : (k : ℕ) (m m' : List Bool) → k < length contexts → Each n K contexts k m
      → Marked n (K (get_or contexts k 0)) m m' → Each n K contexts (k + 1) m'
  each_more k m m' h p q = record {
    long = q.long;
    are = λ j l g. q.are j l g ∙ ap (λ (b : Bool). b || K (get_or contexts k 0) j) (p.are j l g) ∙ sym (some_more (λ c. K c j) contexts k h);
  }

  pub each_done : (k : ℕ) (m : List Bool) → length contexts ≤ k → Each n K contexts k m → Marks n (λ j. some (λ c. K c j) contexts) m
  each_done k m h p = record { long = p.long; are = λ j l g. p.are j l g ∙ some_all (λ c. K c j) contexts k h }
