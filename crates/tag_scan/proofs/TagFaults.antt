-- Tag lists: which refusal a tag has under which facts, and what a tag without one is.
--   with_…, closed_…, end_…, nameless_…   the tests
--   tag_…                         the refusals of a tag, in their order
--   Opened, Closed, tag_passed    what a tag without refusal is
use Prim.Native.Nat.{ℕ, ◌+◌, ◌-◌, ◌≤◌, ◌<◌}
use mathlib.Core.Path.{◌≡◌, refl, ap, ◌∙◌, sym}
use mathlib.Core.Logic.{◌⊎◌, inl, inr}
use mathlib.Core.Bool.{Bool, true, false, not, ◌&&◌, ◌||◌}
use mathlib.Core.List.{List}
use native.Mathlib.Omega.{arith}
use lib.ListN.{length}
use lib.Dec.{ltb, leb, eqb}
use borrow.Author.Tests.{ltb-true, ltb-false, leb-false, eqb-true, eqb-false, lt-ltb, le-ltb, le-leb, lt-leb, eq-eqb, ne_eqb}
use Rattle.turns.specs.Pick.{pick}
use Rattle.bytes_read.specs.Bytes.{number_at}
use Rattle.bytes_read.specs.Scans.{Scan, first_fault}
use Rattle.tag_scan.specs.TagLists.{opening, closing, closed_with, root_closed, nameless_at, misnested, tag_fault, tag_next, tree_end}
use Rattle.bytes_read.proofs.Marks.{marked_is}

module _ (d n : ℕ) where
  pub with_open : (d ≡ 0 → ⊥) → closed_with d n ≡ false
  unfolding closed_with
  with_open h = simp (ne_eqb _ _ h)

  pub with_none : n ≤ 0 → closed_with d n ≡ false
  unfolding closed_with
  with_none h = go (eqb d 0)
    where
      go : (t : Bool) → (t && ltb 0 n) ≡ false
      go true = le-ltb _ _ h
      go false = refl

  pub with_yes : d ≡ 0 → 0 < n → closed_with d n ≡ true
  unfolding closed_with
  with_yes h k = simp (eq-eqb _ _ h, lt-ltb _ _ k)

  with_is : closed_with d n ≡ true → (d ≡ 0) × (0 < n)
  unfolding closed_with
  with_is = go (eqb d 0) (ltb 0 n) refl refl
    where
      go : (s t : Bool) → eqb d 0 ≡ s → ltb 0 n ≡ t → (s && t) ≡ true → (d ≡ 0) × (0 < n)
      go true true u v h = (eqb-true _ _ u, ltb-true _ _ v)
      go true false u v h = let z : ◌≡◌ {A = ℕ} 0 1 = cc in absurd (omega arith)
      go false t u v h = let z : ◌≡◌ {A = ℕ} 0 1 = cc in absurd (omega arith)

-- the same of a state
module _ (st : Scan) where
  pub closed_open : (st.depth ≡ 0 → ⊥) → root_closed st ≡ false
  closed_open h = with_open st.depth st.count h

  pub closed_none : st.count ≤ 0 → root_closed st ≡ false
  closed_none h = with_none st.depth st.count h

  pub closed_yes : st.depth ≡ 0 → 0 < st.count → root_closed st ≡ true
  closed_yes h k = with_yes st.depth st.count h k

  pub closed_is : root_closed st ≡ true → (st.depth ≡ 0) × (0 < st.count)
  closed_is h = with_is st.depth st.count h

module _ (whole : Bool) (b : List ℕ) (st : Scan) where
  pub end_open : root_closed st ≡ false → tree_end whole b st ≡ false
  unfolding tree_end
  end_open h = simp h

  module _ (closed : root_closed st ≡ true) where
    pub end_here : whole ≡ false → tree_end whole b st ≡ true
    unfolding tree_end
    end_here h = simp (closed, h)

    pub end_last : whole ≡ true → st.at ≡ length b → tree_end whole b st ≡ true
    unfolding tree_end
    end_last h k = simp (closed, h, eq-eqb _ _ k)

  pub end_closed : tree_end whole b st ≡ true → root_closed st ≡ true
  unfolding tree_end
  end_closed = go (root_closed st) refl
    where
      go : (t : Bool) → root_closed st ≡ t → (t && (not whole || eqb st.at (length b))) ≡ true → root_closed st ≡ true
      go true u h = u
      go false u h = let z : ◌≡◌ {A = ℕ} 0 1 = cc in absurd (omega arith)

module _ (any : Bool) (b : List ℕ) (p : ℕ) where
  pub nameless_any : any ≡ true → nameless_at any b p ≡ false
  unfolding nameless_at
  nameless_any h = simp h

  pub nameless_zero : any ≡ false → number_at b (p + 2) ≡ 0 → nameless_at any b p ≡ true
  unfolding nameless_at
  nameless_zero h k = simp (h, eq-eqb _ _ k)

  pub nameless_other : (number_at b (p + 2) ≡ 0 → ⊥) → nameless_at any b p ≡ false
  unfolding nameless_at
  nameless_other h = go (not any)
    where
      go : (t : Bool) → (t && eqb (number_at b (p + 2)) 0) ≡ false
      go true = ne_eqb _ _ h
      go false = refl

  -- no place has both marks
  pub not_both : opening b p ≡ true → closing b p ≡ true → ⊥
  not_both u v = let s = marked_is b p 79 80 u in let t = marked_is b p 67 76 v in omega (arith, s.0, t.0)

-- the first fault of an `OP` record that is not cut
module _ (z r f : Bool) where
  pub first_nameless : z ≡ true → first_fault false false false z r f ≡ 3
  first_nameless h = simp h

  pub first_misnested : z ≡ false → r ≡ true → first_fault false false false z r f ≡ 12
  first_misnested h k = simp (h, k)

  pub first_over : z ≡ false → r ≡ false → f ≡ true → first_fault false false false z r f ≡ 7
  first_over h k l = simp (h, k, l)

  pub first_none : z ≡ false → r ≡ false → f ≡ false → first_fault false false false z r f ≡ 0
  first_none h k l = simp (h, k, l)

module _ (any : Bool) (most : ℕ) (b : List ℕ) (st : Scan) where
  pub tag_unclosed : length b ≤ st.at → 0 < st.count → tag_fault any most b st ≡ 12
  unfolding tag_fault
  tag_unclosed h k = simp (le-leb _ _ h, lt-ltb _ _ k)

  pub tag_missing : length b ≤ st.at → st.count ≤ 0 → tag_fault any most b st ≡ 1
  unfolding tag_fault
  tag_missing h k = simp (le-leb _ _ h, le-ltb _ _ k, lt-ltb (length b) (st.at + 2) (omega arith))

  module _ (there : st.at < length b) where
    pub tag_cut : length b < st.at + 2 → tag_fault any most b st ≡ 1
    unfolding tag_fault
    tag_cut h = simp (lt-leb _ _ there, lt-ltb _ _ h)

    module _ (mark : st.at + 2 ≤ length b) where
      pub tag_unknown : opening b st.at ≡ false → closing b st.at ≡ false → tag_fault any most b st ≡ 2
      unfolding tag_fault
      tag_unknown h k = simp (lt-leb _ _ there, le-ltb _ _ mark, h, k)

      module _ (opens_here : opening b st.at ≡ true) where
        pub open_cut : length b < st.at + 4 → tag_fault any most b st ≡ 1
        unfolding tag_fault
        open_cut h = simp (lt-leb _ _ there, le-ltb _ _ mark, opens_here, lt-ltb _ _ h)

        -- what is left to judge of an `OP` record with its name
        pub open_told : st.at + 4 ≤ length b → (z r f : Bool) → z ≡ nameless_at any b st.at → r ≡ root_closed st → f ≡ leb most st.count
            → first_fault false false false z r f ≡ tag_fault any most b st
        unfolding tag_fault misnested
        open_told body z r f hz hr hf =
            let e : tag_fault any most b st ≡ first_fault false false false (nameless_at any b st.at) (root_closed st) (leb most st.count)
            = simp (lt-leb _ _ there, le-ltb _ _ mark, opens_here, le-ltb _ _ body) in
            cc

        pub open_fine : st.at + 4 ≤ length b → nameless_at any b st.at ≡ false → root_closed st ≡ false → st.count < most → tag_fault any most b st ≡ 0
        unfolding tag_fault misnested
        open_fine body named nested h = simp (lt-leb _ _ there, le-ltb _ _ mark, opens_here, le-ltb _ _ body, named, nested, lt-leb _ _ h)

      module _ (opens_not : opening b st.at ≡ false) (closes_here : closing b st.at ≡ true) where
        pub close_misnested : st.depth ≡ 0 → tag_fault any most b st ≡ 12
        unfolding tag_fault misnested
        close_misnested h = simp (lt-leb _ _ there, le-ltb _ _ mark, opens_not, closes_here, eq-eqb _ _ h)

        pub close_fine : (st.depth ≡ 0 → ⊥) → tag_fault any most b st ≡ 0
        unfolding tag_fault misnested
        close_fine h = simp (lt-leb _ _ there, le-ltb _ _ mark, opens_not, closes_here, ne_eqb _ _ h)

  -- ---- a tag without refusal

  pub record Opened : Type 0 where
    pub opens_here : opening b st.at ≡ true
    pub body : st.at + 4 ≤ length b
    pub named : nameless_at any b st.at ≡ false
    pub nested : root_closed st ≡ false
    pub few : st.count < most
    pub is : tag_next b st ≡ record { at = st.at + 4; depth = st.depth + 1; count = st.count + 1 }

  pub record Closed : Type 0 where
    pub opens_not : opening b st.at ≡ false
    pub closes_here : closing b st.at ≡ true
    pub mark : st.at + 2 ≤ length b
    pub some_open : 1 ≤ st.depth
    pub is : tag_next b st ≡ record { at = st.at + 2; depth = st.depth - 1; count = st.count }

  pub next_open : opening b st.at ≡ true → tag_next b st ≡ record { at = st.at + 4; depth = st.depth + 1; count = st.count + 1 }
  unfolding tag_next
  next_open h = simp h

  pub next_close : opening b st.at ≡ false → tag_next b st ≡ record { at = st.at + 2; depth = st.depth - 1; count = st.count }
  unfolding tag_next
  next_close h = simp h

  pub tag_passed : tag_fault any most b st ≡ 0 → Opened ⊎ Closed
  unfolding tag_fault misnested
  tag_passed =
      go (leb (length b) st.at && ltb 0 st.count) (ltb (length b) (st.at + 2)) (opening b st.at) (closing b st.at)
      (ltb (length b) (st.at + 4)) (nameless_at any b st.at) (root_closed st) (eqb st.depth 0) (leb most st.count)
      refl refl refl refl refl refl refl refl
    where
      go : (e m o c w z r d f : Bool) → ltb (length b) (st.at + 2) ≡ m → opening b st.at ≡ o → closing b st.at ≡ c
          → ltb (length b) (st.at + 4) ≡ w → nameless_at any b st.at ≡ z → root_closed st ≡ r → eqb st.depth 0 ≡ d → leb most st.count ≡ f
          → pick e 12 (first_fault m (not (o || c)) (o && w) (o && z) (pick o r d) (o && f)) ≡ 0 → Opened ⊎ Closed
      go true m o c w z r d f hm ho hc hw hz hr hd hf h = absurd (omega arith)
      go false true o c w z r d f hm ho hc hw hz hr hd hf h = absurd (omega arith)
      go false false false false w z r d f hm ho hc hw hz hr hd hf h = absurd (omega arith)
      go false false true c true z r d f hm ho hc hw hz hr hd hf h = absurd (omega arith)
      go false false true c false true r d f hm ho hc hw hz hr hd hf h = absurd (omega arith)
      go false false true c false false true d f hm ho hc hw hz hr hd hf h = absurd (omega arith)
      go false false true c false false false d true hm ho hc hw hz hr hd hf h = absurd (omega arith)
      go false false true c false false false d false hm ho hc hw hz hr hd hf h =
          inl (record { opens_here = ho; body = ltb-false _ _ hw; named = hz; nested = hr; few = leb-false _ _ hf; is = next_open ho })
      go false false false true w z r true f hm ho hc hw hz hr hd hf h = absurd (omega arith)
      go false false false true w z r false f hm ho hc hw hz hr hd hf h =
          let k = eqb-false st.depth 0 hd in
          inr (record { opens_not = ho; closes_here = hc; mark = ltb-false _ _ hm; some_open = omega (arith, k); is = next_close ho })

  -- which of the two it is: f is its refusal, t whether its mark opens
  module _ {f : ℕ} {t : Bool} (told : f ≡ tag_fault any most b st) (none : f ≡ 0) (mark : t ≡ opening b st.at) where
    pub opened_of : t ≡ true → Opened
    opened_of o = elim (tag_passed (sym told ∙ none)) [ inl x ↦ x | inr y ↦ absurd (apart (sym y.opens_not ∙ sym mark ∙ o)) ]
      where
        apart : false ≡ true → ⊥
        apart q = let z : ◌≡◌ {A = ℕ} 0 1 = cc in omega arith

    pub closed_of_law : t ≡ false → Closed
    closed_of_law o = elim (tag_passed (sym told ∙ none)) [ inl x ↦ absurd (apart (sym o ∙ mark ∙ x.opens_here)) | inr y ↦ y ]
      where
        apart : false ≡ true → ⊥
        apart q = let z : ◌≡◌ {A = ℕ} 0 1 = cc in omega arith

  -- the record after it begins further on, within the bytes
  pub tag_moved : tag_fault any most b st ≡ 0 → (st.at + 2 ≤ (tag_next b st).at) × ((tag_next b st).at ≤ length b)
  tag_moved h = elim (tag_passed h) [ inl o ↦ opened_on o | inr c ↦ closed_on c ]
    where
      opened_on : Opened → (st.at + 2 ≤ (tag_next b st).at) × ((tag_next b st).at ≤ length b)
      opened_on o = let at_is = ap (λ (s : Scan). s.at) o.is in (omega (arith, at_is), omega (arith, at_is, o.body))

      closed_on : Closed → (st.at + 2 ≤ (tag_next b st).at) × ((tag_next b st).at ≤ length b)
      closed_on c = let at_is = ap (λ (s : Scan). s.at) c.is in (omega (arith, at_is), omega (arith, at_is, c.mark))
