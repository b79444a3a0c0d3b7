-- Signature records: which refusal a record has under which facts, and what a record without one is.
--   records_…         the end of the records
--   record_…          the refusals of a record, in their order
--   record_passed     what a record without refusal is
use Prim.Native.Nat.{ℕ, ◌+◌, ◌/◌, ◌≤◌, ◌<◌}
use mathlib.Core.Path.{◌≡◌, refl, ap}
use mathlib.Core.Bool.{Bool, true, false, not}
use mathlib.Core.List.{List}
use native.Mathlib.Omega.{arith}
use lib.ListN.{length}
use lib.Dec.{ltb, leb, eqb}
use borrow.Author.Tests.{ltb-false, leb-false, eqb-false, lt-ltb, le-ltb, le-leb, lt-leb, eq-eqb, ne_eqb}
use Rattle.bytes_read.specs.Bytes.{number_at, marked}
use Rattle.bytes_read.specs.Scans.{Scan, first_fault}
use Rattle.records.specs.Records.{record_at, record_next, record_fault, records_end, write_fault, nameless_from}
use Rattle.trees.specs.Signature.{width}
use Rattle.terms.specs.Kinds.{most}
use Rattle.terms.specs.Length.{length_fault}
use Rattle.terms.specs.declared.Kind.{Kind}

-- one record more
pub record_after : (n : ℕ) → record_at (n + 1) ≡ record_next (record_at n)
record_after n = ap (λ (p : ℕ). record { at = p; depth = 0; count = n + 1 }) (omega arith)

module _ (b : List ℕ) (st : Scan) where
  pub records_end_law : st.at ≡ length b → 0 < st.count → records_end b st ≡ true
  unfolding records_end
  records_end_law h k = simp (eq-eqb _ _ h, lt-ltb _ _ k)

  pub records_more : (st.at ≡ length b → ⊥) → records_end b st ≡ false
  unfolding records_end
  records_more h = simp (ne_eqb _ _ h)

  pub record_cut : length b < st.at + 2 → record_fault b st ≡ 1
  unfolding record_fault
  record_cut h = simp (lt-ltb _ _ h)

  module _ (mark : st.at + 2 ≤ length b) where
    pub record_unknown : marked b st.at 83 69 ≡ false → record_fault b st ≡ 2
    unfolding record_fault
    record_unknown h = simp (le-ltb _ _ mark, h)

    module _ (known : marked b st.at 83 69 ≡ true) where
      pub record_body : length b < st.at + 10 → record_fault b st ≡ 1
      unfolding record_fault
      record_body h = simp (le-ltb _ _ mark, known, lt-ltb _ _ h)

      module _ (whole : st.at + 10 ≤ length b) where
        pub record_nameless : number_at b (st.at + 2) ≡ 0 → record_fault b st ≡ 3
        unfolding record_fault
        record_nameless h = simp (le-ltb _ _ mark, known, le-ltb _ _ whole, eq-eqb _ _ h)

        module _ (named : number_at b (st.at + 2) ≡ 0 → ⊥) where
          pub record_over : 4096 ≤ st.count → record_fault b st ≡ 7
          unfolding record_fault
          record_over h = simp (le-ltb _ _ mark, known, le-ltb _ _ whole, ne_eqb _ _ named, le-leb _ _ h)

          pub record_fine : st.count < 4096 → record_fault b st ≡ 0
          unfolding record_fault
          record_fine h = simp (le-ltb _ _ mark, known, le-ltb _ _ whole, ne_eqb _ _ named, lt-leb _ _ h)

  -- a record without refusal
  pub record Passed : Type 0 where
    pub known : marked b st.at 83 69 ≡ true
    pub whole : st.at + 10 ≤ length b
    pub named : number_at b (st.at + 2) ≡ 0 → ⊥
    pub room : st.count < 4096

  pub record_passed : record_fault b st ≡ 0 → Passed
  unfolding record_fault
  record_passed =
      go (ltb (length b) (st.at + 2)) (marked b st.at 83 69) (ltb (length b) (st.at + 10)) (eqb (number_at b (st.at + 2)) 0)
      (leb 4096 st.count) refl refl refl refl
    where
      go : (m k w z o : Bool) → marked b st.at 83 69 ≡ k → ltb (length b) (st.at + 10) ≡ w → eqb (number_at b (st.at + 2)) 0 ≡ z
          → leb 4096 st.count ≡ o → first_fault m (not k) w z false o ≡ 0 → Passed
      go true k w z o hk hw hz ho h = absurd (omega arith)
      go false false w z o hk hw hz ho h = absurd (omega arith)
      go false true true z o hk hw hz ho h = absurd (omega arith)
      go false true false true o hk hw hz ho h = absurd (omega arith)
      go false true false false true hk hw hz ho h = absurd (omega arith)
      go false true false false false hk hw hz ho h =
          record { known = hk; whole = ltb-false _ _ hw; named = eqb-false _ _ hz; room = leb-false _ _ ho }

-- ---- a signature to be written

module _ (s : List ℕ) where
  module _ (fine : length_fault (most Kind.Data) width (length s) ≡ 0) where
    pub write_fine : nameless_from s 0 (length s / 4) ≡ false → write_fault s ≡ 0
    unfolding write_fault
    write_fine h = simp (eq-eqb _ _ fine, h)
