-- Every input is a question with its lines, or it is refused with one line.
--   fault_small        the number that a tag list is refused with is at most 12
--   Refused b          b is no question, and all that is printed is `refused` and a number from 1 to 12
--   listing_cases      every input is the one or the other
use Rattle.std.specs.Prelude.{ℕ, zero, suc, ◌+◌, ◌≤◌, ◌<◌, ◌≡◌, ◌⊎◌, Bool, true, false, not, ◌&&◌, ◌||◌, List, length, ltb, leb}
use Rattle.std.proofs.Math.Path.{refl}
use Rattle.std.proofs.Common.{inl, inr, arith}
use Rattle.std.proofs.Math.Decide.{dec_le, ℕ_discrete}
use borrow.Author.Tests.{eq-eqb, ne_eqb, lt-ltb, le-ltb}
use Rattle.turns.specs.Pick.{pick}
use Rattle.terms.specs.declared.Kind.{Kind}
use Rattle.terms.specs.Kinds.{any_name, most}
use Rattle.bytes_read.specs.Scans.{Scan, first_fault, begin, halt_number}
use Rattle.bytes_read.proofs.Scanning.{Ended, Faulty, scan_comes}
use Rattle.tag_scan.specs.TagLists.{opening, closing, nameless_at, misnested, tag_fault, tag_next, tree_end, tree_scan}
use Rattle.tag_scan.proofs.Judging.{tag_passes}
use Rattle.retold.specs.Taken.{Bytes}
use Rattle.lines.specs.Lines.{refused_line}
use Rattle.lines.specs.Listing.{most_bytes, data_fault, rest_of, twig_fault, after_data, listing}
use Rattle.listing_told.specs.Ground.{Question}
use Rattle.listing_told.specs.Told.{More, All, listing_told}

-- ---- the numbers

first_small : (a b c d e f : Bool) → first_fault a b c d e f ≤ 12
first_small true b c d e f = omega arith
first_small false true c d e f = omega arith
first_small false false true d e f = omega arith
first_small false false false true e f = omega arith
first_small false false false false true f = omega arith
first_small false false false false false true = omega arith
first_small false false false false false false = omega arith

tag_small : (any : Bool) (most : ℕ) (b : List ℕ) (st : Scan) → tag_fault any most b st ≤ 12
unfolding tag_fault
tag_small any most b st =
    go (leb (length b) st.at && ltb 0 st.count)
    (first_small (ltb (length b) (st.at + 2)) (not (opening b st.at || closing b st.at))
    (opening b st.at && ltb (length b) (st.at + 4))
    (opening b st.at && nameless_at any b st.at)
    (misnested b st) (opening b st.at && leb most st.count))
  where
    go : (t : Bool) {n : ℕ} → n ≤ 12 → pick t 12 n ≤ 12
    go true h = omega arith
    go false h = h

pub fault_small : (whole any : Bool) (most : ℕ) (b : List ℕ) → halt_number (tree_scan whole any most b 0).halt ≤ 12
fault_small whole any most b = by (scan_comes (tree_end whole b) (tag_fault any most b) (tag_next b) (length b) (tag_passes whole any most b) (begin 0))
  where
    by : Ended (tree_end whole b) (tag_fault any most b) (tag_next b) (length b) (tag_passes whole any most b) (begin 0)
        ⊎ Faulty (tree_end whole b) (tag_fault any most b) (tag_next b) (length b) (tag_passes whole any most b) (begin 0)
        → halt_number (tree_scan whole any most b 0).halt ≤ 12
    by (inl x) = omega (arith, x.number_is)
    by (inr x) = omega (arith, x.number_is, tag_small any most b (tree_scan whole any most b 0).state)

some_of : (k : ℕ) → (k ≡ 0 → ⊥) → 1 ≤ k
some_of zero n = absurd (n refl)
some_of (suc k) n = omega arith

-- ---- the lines

module _ (b : List ℕ) where
  long_refused : most_bytes < length b → listing b ≡ refused_line 7
  unfolding listing
  long_refused h = rw (lt-ltb most_bytes (length b) h) refl

  data_refused : length b ≤ most_bytes → (data_fault b ≡ 0 → ⊥) → listing b ≡ refused_line (data_fault b)
  unfolding listing
  data_refused h n = rw (le-ltb most_bytes (length b) h, ne_eqb (data_fault b) 0 n) refl

  twig_refused : length b ≤ most_bytes → data_fault b ≡ 0 → (twig_fault (rest_of b) ≡ 0 → ⊥) → listing b ≡ refused_line (twig_fault (rest_of b))
  unfolding listing after_data
  twig_refused h z n = rw (le-ltb most_bytes (length b) h, eq-eqb (data_fault b) 0 z, ne_eqb (twig_fault (rest_of b)) 0 n) refl

  -- "A refusal prints `refused` and the number only."
  pub record Refused : Type 0 where
    pub unasked : Question b → ⊥
    pub number : ℕ
    pub some : 1 ≤ number
    pub known : number ≤ 12
    pub lines : listing b ≡ refused_line number

  -- all refusals come before the first line: the lines are those of a question, or a refusal is the only line
  pub listing_cases : Bytes b → (Question b × (More b ⊎ All b)) ⊎ Refused
  listing_cases h = by (dec_le (length b) most_bytes)
    where
      twig : length b ≤ most_bytes → data_fault b ≡ 0 → Dec (twig_fault (rest_of b) ≡ 0) → (Question b × (More b ⊎ All b)) ⊎ Refused
      twig l d (yes z) = let q : Question b = record { bytes = h; short = l; data_fine = d; twig_fine = z } in inl (q, listing_told b q)
      twig l d (no n) =
          inr (record {
            unasked = λ q. n q.twig_fine;
            number = twig_fault (rest_of b);
            some = some_of (twig_fault (rest_of b)) n;
            known = fault_small true (any_name Kind.Twig) (most Kind.Twig) (rest_of b);
            lines = twig_refused l d n;
          })

      data_list : length b ≤ most_bytes → Dec (data_fault b ≡ 0) → (Question b × (More b ⊎ All b)) ⊎ Refused
      data_list l (yes z) = twig l z (ℕ_discrete (twig_fault (rest_of b)) 0)
      data_list l (no n) =
          inr (record {
            unasked = λ q. n q.data_fine;
            number = data_fault b;
            some = some_of (data_fault b) n;
            known = fault_small false (any_name Kind.Data) (most Kind.Data) b;
            lines = data_refused l n;
          })

      by : Dec (length b ≤ most_bytes) → (Question b × (More b ⊎ All b)) ⊎ Refused
      by (yes l) = data_list l (ℕ_discrete (data_fault b) 0)
      by (no l) =
          inr (record {
            unasked = λ q. l q.short;
            number = 7;
            some = omega arith;
            known = omega arith;
            lines = long_refused (omega arith);
          })
