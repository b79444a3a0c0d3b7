-- Which numbers the readers of records and tag lists and the writer of records can refuse the contents with: what is judged before room.
--   record_refusals, records_numbers   of signature records
--   write_refusals, write_numbers      of a signature that is written as records
--   tag_refusals any, tags_numbers     of a tag list: 3 only where name 0 is not allowed
--   never_ten                         so no tag list is refused as a room that is too small
use Rattle.std.specs.Prelude.{ℕ, ◌+◌, ◌≡◌, refl, ◌⊎◌, Bool, true, false, not, ◌&&◌, ◌||◌, List, [], ◌∷◌, length, eqb, leb, ltb}
use Rattle.std.proofs.Common.{ap, ◌∙◌, inl, inr}
use Rattle.turns.specs.Pick.{pick}
use Rattle.trees.specs.Signature.{width, entries}
use Rattle.terms.specs.declared.Kind.{Kind}
use Rattle.terms.specs.Kinds.{most}
use Rattle.terms.specs.Length.{length_fault}
use Rattle.checked.specs.Refusals.{is_in, OneOf, one_not, one_among, length_numbers}
use Rattle.bytes_read.specs.Bytes.{number_at, marked}
use Rattle.bytes_read.specs.Scans.{Scan, begin, first_fault, halt_number}
use Rattle.bytes_read.proofs.Scanning.{Ended, Faulty, scan_comes}
use Rattle.records.specs.Records.{record_fault, record_next, records_end, records_scan, nameless_from, write_fault}
use Rattle.tag_scan.specs.TagLists.{opening, closing, nameless_at, misnested, tag_fault, tag_next, tree_end, tree_scan}
use Rattle.tag_scan.proofs.Judging.{tag_passes}
use Rattle.retold.specs.RecordsThere.{record_passes}

-- ---- signature records

-- cut (1), an unknown mark (2), name 0 (3), too many (7)
abbrev pub record_refusals : List ℕ
record_refusals = 1 ∷ 2 ∷ 3 ∷ 7 ∷ []

record_number : (b : List ℕ) (st : Scan) → OneOf (0 ∷ record_refusals) (record_fault b st)
unfolding record_fault
record_number b st =
    by (ltb (length b) (st.at + 2)) (not (marked b st.at 83 69)) (ltb (length b) (st.at + 10)) (eqb (number_at b (st.at + 2)) 0)
    (leb (most Kind.Data) st.count)
  where
    by : (m u w z o : Bool) → OneOf (0 ∷ record_refusals) (first_fault m u w z false o)
    by true u w z o = refl
    by false true w z o = refl
    by false false true z o = refl
    by false false false true o = refl
    by false false false false true = refl
    by false false false false false = refl

pub records_numbers : (b : List ℕ) → OneOf (0 ∷ record_refusals) (halt_number (records_scan b).halt)
records_numbers b = go (scan_comes (records_end b) (record_fault b) record_next (length b) (record_passes b) (begin 0))
  where
    go : Ended (records_end b) (record_fault b) record_next (length b) (record_passes b) (begin 0)
        ⊎ Faulty (records_end b) (record_fault b) record_next (length b) (record_passes b) (begin 0)
        → OneOf (0 ∷ record_refusals) (halt_number (records_scan b).halt)
    go (inl e) = ap (is_in (0 ∷ record_refusals)) e.number_is
    go (inr e) = ap (is_in (0 ∷ record_refusals)) e.number_is ∙ record_number b (records_scan b).state

-- ---- a signature that is written

-- its length (1, 7) and name 0 (3)
abbrev pub write_refusals : List ℕ
write_refusals = 1 ∷ 3 ∷ 7 ∷ []

pub write_numbers : (s : List ℕ) → OneOf (0 ∷ write_refusals) (write_fault s)
unfolding write_fault
write_numbers s = by (eqb (length_fault (most Kind.Data) width (length s)) 0) (nameless_from s 0 (entries s))
  where
    by : (e n : Bool) → OneOf (0 ∷ write_refusals) (pick e (pick n 3 0) (length_fault (most Kind.Data) width (length s)))
    by true true = refl
    by true false = refl
    by false n =
        one_among (0 ∷ 1 ∷ 7 ∷ []) (0 ∷ write_refusals) refl (length_fault (most Kind.Data) width (length s))
        (length_numbers (most Kind.Data) width (length s))

-- ---- tag lists

-- as records, and nesting (12); name 0 is refused where not any name is allowed
abbrev pub tag_refusals : Bool → List ℕ
tag_refusals true = 1 ∷ 2 ∷ 7 ∷ 12 ∷ []
tag_refusals false = 1 ∷ 2 ∷ 3 ∷ 7 ∷ 12 ∷ []

tag_number : (any : Bool) (most : ℕ) (b : List ℕ) (st : Scan) → OneOf (0 ∷ tag_refusals any) (tag_fault any most b st)
unfolding tag_fault nameless_at
tag_number true most b st =
    by (leb (length b) st.at && ltb 0 st.count) (ltb (length b) (st.at + 2)) (not (opening b st.at || closing b st.at))
    (opening b st.at && ltb (length b) (st.at + 4)) (opening b st.at) (misnested b st) (opening b st.at && leb most st.count)
  where
    by : (e m u w z n o : Bool) → OneOf (0 ∷ tag_refusals true) (pick e 12 (first_fault m u w (z && false) n o))
    by true m u w z n o = refl
    by false true u w z n o = refl
    by false false true w z n o = refl
    by false false false true z n o = refl
    by false false false false true true o = refl
    by false false false false true false true = refl
    by false false false false true false false = refl
    by false false false false false true o = refl
    by false false false false false false true = refl
    by false false false false false false false = refl
tag_number false most b st =
    by (leb (length b) st.at && ltb 0 st.count) (ltb (length b) (st.at + 2)) (not (opening b st.at || closing b st.at))
    (opening b st.at && ltb (length b) (st.at + 4)) (opening b st.at && eqb (number_at b (st.at + 2)) 0) (misnested b st)
    (opening b st.at && leb most st.count)
  where
    by : (e m u w z n o : Bool) → OneOf (0 ∷ tag_refusals false) (pick e 12 (first_fault m u w z n o))
    by true m u w z n o = refl
    by false true u w z n o = refl
    by false false true w z n o = refl
    by false false false true z n o = refl
    by false false false false true n o = refl
    by false false false false false true o = refl
    by false false false false false false true = refl
    by false false false false false false false = refl

module _ (all any : Bool) (most : ℕ) (b : List ℕ) (p : ℕ) where
  pub tags_numbers : OneOf (0 ∷ tag_refusals any) (halt_number (tree_scan all any most b p).halt)
  tags_numbers = go (scan_comes (tree_end all b) (tag_fault any most b) (tag_next b) (length b) (tag_passes all any most b) (begin p))
    where
      go : Ended (tree_end all b) (tag_fault any most b) (tag_next b) (length b) (tag_passes all any most b) (begin p)
          ⊎ Faulty (tree_end all b) (tag_fault any most b) (tag_next b) (length b) (tag_passes all any most b) (begin p)
          → OneOf (0 ∷ tag_refusals any) (halt_number (tree_scan all any most b p).halt)
      go (inl e) = ap (is_in (0 ∷ tag_refusals any)) e.number_is
      go (inr e) = ap (is_in (0 ∷ tag_refusals any)) e.number_is ∙ tag_number any most b (tree_scan all any most b p).state

  pub never_ten : halt_number (tree_scan all any most b p).halt ≡ 10 → ⊥
  never_ten = one_not (0 ∷ tag_refusals any) (halt_number (tree_scan all any most b p).halt) 10 tags_numbers (lacks any)
    where
      lacks : (a : Bool) → is_in (0 ∷ tag_refusals a) 10 ≡ false
      lacks true = refl
      lacks false = refl
