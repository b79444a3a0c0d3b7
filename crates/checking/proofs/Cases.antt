-- Which case of the written rule holds under which facts.
--   close_…        rules 3 and 4
--   nameless_…, root_…   the two tests
--   step_…         the whole step
--   accepted_…     the end
--   range_…        the ranges of a saved state; fresh_ranges
--   entry_ends     where an entry ends
use Prim.Native.Nat.{ℕ, zero, suc, ◌+◌, ◌-◌, ◌*◌, ◌≤◌, ◌<◌}
use native.Mathlib.Nat.{not-suc-le-zero, mul-suc}
use native.Mathlib.Omega.{arith}
use mathlib.Core.Path.{◌≡◌, refl, ap, ◌∙◌}
use mathlib.Core.Bool.{Bool, true, false, ◌&&◌, and-false, false≢true}
use lib.Dec.{ltb, leb}
use borrow.Author.Tests.{lt-ltb, le-ltb, le-leb, lt-leb, eq-eqb, ne_eqb, ltb-true, leb-true}
use Rattle.turns.specs.Turn.{moved, refused}
use Rattle.trees.specs.Signature.{Entries}
use Rattle.checking.specs.declared.CheckState.{CheckState}
use Rattle.checking.specs.Rule.{close_of, closed_of, open_of, step_of, nameless, second_root, accepted, Ranges, in_range, fresh}

-- closing
module _ (e : Entries) (st : CheckState) where
  pub close_none : st.top.0 ≡ 0 → close_of e st ≡ refused 4 st.next.0
  unfolding close_of
  close_none h = simp (eq-eqb _ _ h)

  pub close_full : (st.top.0 ≡ 0 → ⊥) → st.closed.0 ≡ st.next.0 - 1 → close_of e st ≡ refused 9 0
  unfolding close_of
  close_full h g = simp (ne_eqb _ _ h, eq-eqb _ _ g)

  module _ (some_open : st.top.0 ≡ 0 → ⊥) (room : st.closed.0 ≡ st.next.0 - 1 → ⊥) where
    pub close_post : (e.post st.top.0 ≡ st.closed.0 + 1 → ⊥) → close_of e st ≡ refused 5 st.top.0
    unfolding close_of
    close_post h = simp (ne_eqb _ _ some_open, ne_eqb _ _ room, ne_eqb _ _ h)

    module _ (p : e.post st.top.0 ≡ st.closed.0 + 1) where
      pub close_ff : (e.ff st.top.0 ≡ st.next.0 → ⊥) → close_of e st ≡ refused 6 st.top.0
      unfolding close_of
      close_ff h = simp (ne_eqb _ _ some_open, ne_eqb _ _ room, eq-eqb _ _ p, ne_eqb _ _ h)

      pub close_fa : e.ff st.top.0 ≡ st.next.0 → st.top.0 ≤ e.fa st.top.0 → close_of e st ≡ refused 4 st.top.0
      unfolding close_of
      close_fa f h = simp (ne_eqb _ _ some_open, ne_eqb _ _ room, eq-eqb _ _ p, eq-eqb _ _ f, le-ltb _ _ h)

      pub close_moved : e.ff st.top.0 ≡ st.next.0 → e.fa st.top.0 < st.top.0
          → close_of e st ≡ moved (closed_of e st)
      unfolding close_of
      close_moved f h = simp (ne_eqb _ _ some_open, ne_eqb _ _ room, eq-eqb _ _ p, eq-eqb _ _ f, lt-ltb _ _ h)

-- the two tests
module _ (any : Bool) (e : Entries) (i : ℕ) where
  pub nameless_any : any ≡ true → nameless any e i ≡ false
  unfolding nameless
  nameless_any h = simp h

  pub nameless_zero : any ≡ false → e.name i ≡ 0 → nameless any e i ≡ true
  unfolding nameless
  nameless_zero h z = simp (h, eq-eqb _ _ z)

  pub nameless_other : (e.name i ≡ 0 → ⊥) → nameless any e i ≡ false
  unfolding nameless
  nameless_other h = simp (ne_eqb _ _ h, and-false)

module _ (i f : ℕ) where
  pub root_first : i ≤ 1 → second_root i f ≡ false
  unfolding second_root
  root_first h = simp (le-ltb _ _ h)

  pub root_second : 1 < i → f ≡ 0 → second_root i f ≡ true
  unfolding second_root
  root_second h z = simp (lt-ltb _ _ h, eq-eqb _ _ z)

  pub root_below : (f ≡ 0 → ⊥) → second_root i f ≡ false
  unfolding second_root
  root_below h = simp (ne_eqb _ _ h, and-false)

-- a step
module _ (any : Bool) (n : ℕ) (e : Entries) (st : CheckState) where
  pub step_past : n < st.next.0 → step_of any n e st ≡ close_of e st
  unfolding step_of
  step_past h = simp (lt-leb _ _ h)

  module _ (h : st.next.0 ≤ n) where
    pub step_name : nameless any e st.next.0 ≡ true → step_of any n e st ≡ refused 3 st.next.0
    unfolding step_of
    step_name z = simp (le-leb _ _ h, z)

    module _ (z : nameless any e st.next.0 ≡ false) where
      pub step_high : st.next.0 ≤ e.fa st.next.0 → step_of any n e st ≡ refused 4 st.next.0
      unfolding step_of
      step_high f = simp (le-leb _ _ h, z, le-leb _ _ f)

      module _ (f : e.fa st.next.0 < st.next.0) where
        pub step_second_root : second_root st.next.0 (e.fa st.next.0) ≡ true → step_of any n e st ≡ refused 4 st.next.0
        unfolding step_of
        step_second_root r = simp (le-leb _ _ h, z, lt-leb _ _ f, r)

        module _ (r : second_root st.next.0 (e.fa st.next.0) ≡ false) where
          pub step_open : e.fa st.next.0 ≡ st.top.0
              → step_of any n e st ≡ moved (open_of st)
          unfolding step_of
          step_open q = simp (le-leb _ _ h, z, lt-leb _ _ f, r, eq-eqb _ _ q)

          pub step_close : (e.fa st.next.0 ≡ st.top.0 → ⊥) → step_of any n e st ≡ close_of e st
          unfolding step_of
          step_close q = simp (le-leb _ _ h, z, lt-leb _ _ f, r, ne_eqb _ _ q)

-- the end
module _ (n : ℕ) (st : CheckState) where
  pub accepted_yes : st.next.0 ≡ n + 1 → st.top.0 ≡ 0 → accepted n st ≡ true
  unfolding accepted
  accepted_yes h t = simp (eq-eqb _ _ h, eq-eqb _ _ t)

  pub accepted_next : (st.next.0 ≡ n + 1 → ⊥) → accepted n st ≡ false
  unfolding accepted
  accepted_next h = simp (ne_eqb _ _ h)

  pub accepted_top : (st.top.0 ≡ 0 → ⊥) → accepted n st ≡ false
  unfolding accepted
  accepted_top h = simp (ne_eqb _ _ h, and-false)

-- the ranges
module _ (n : ℕ) (st : CheckState) where
  pub range_yes : Ranges n st → in_range n st ≡ true
  unfolding in_range
  range_yes r = simp (le-leb _ _ r.some, le-leb _ _ r.last, lt-ltb _ _ r.top, lt-ltb _ _ r.closed)

  pub range_inverse : in_range n st ≡ true → Ranges n st
  unfolding in_range
  range_inverse = go (leb 1 st.next.0) (leb st.next.0 (n + 1)) (ltb st.top.0 st.next.0) (ltb st.closed.0 st.next.0) refl refl refl refl
    where
      go : (a b c d : Bool) → leb 1 st.next.0 ≡ a → leb st.next.0 (n + 1) ≡ b → ltb st.top.0 st.next.0 ≡ c → ltb st.closed.0 st.next.0 ≡ d
          → (a && b && c && d) ≡ true → Ranges n st
      go true true true true ha hb hc hd h =
          record { some = leb-true _ _ ha; last = leb-true _ _ hb; top = ltb-true _ _ hc; closed = ltb-true _ _ hd }
      go false b c d ha hb hc hd h = absurd (false≢true h)
      go true false c d ha hb hc hd h = absurd (false≢true h)
      go true true false d ha hb hc hd h = absurd (false≢true h)
      go true true true false ha hb hc hd h = absurd (false≢true h)

-- the fresh state is within its ranges
pub fresh_ranges : (n : ℕ) → Ranges n fresh
fresh_ranges n = record { some = omega arith; last = omega arith; top = omega arith; closed = omega arith }

-- ---- entries

-- entry i ends where its w numbers do
pub entry_ends : (w i : ℕ) → 1 ≤ i → w * i ≡ w * (i - 1) + w
entry_ends w zero h = absurd (not-suc-le-zero h)
entry_ends w (suc i) h = mul-suc w i ∙ ap (λ (x : ℕ). w * x + w) (omega arith)
