-- The text of the listing program has room: 819,200 bytes are enough for every input.
--   most_text           what no text is longer than
--   listing_most       no text has more than 800,025 bytes
--   listing_fits       no text is longer than the room
--   Whole b            the whole text stands at the front of the room, and nothing else is written
--   listing_whole      so it does, over the promise of the call, where the room has that many bytes
use Rattle.std.specs.Prelude.{ℕ, suc, ◌+◌, ◌-◌, ◌*◌, ◌≤◌, ◌≡◌, ◌⊎◌, List, ◌++◌, length, take, drop, get_or}
use Rattle.std.proofs.Common.{ap, ◌∙◌, subst, inl, inr, arith, length-append}
use Rattle.std.proofs.Math.Seq.{take-length}
use Rattle.trees.specs.Signature.{entries_of, width, entries}
use Rattle.walks.specs.Every.{Every, every_of}
use Rattle.terms.specs.declared.Kind.{Kind}
use Rattle.checked.specs.Wholly.{accepted_tree}
use Rattle.twig_turns.specs.Grounds.{Accepted}
use Rattle.retold.specs.Taken.{Bytes}
use Rattle.listed.specs.Loose.{LooseAnswer}
use Rattle.listed.specs.Exactly.{all_loose, all_of}
use Rattle.digits.specs.Page.{Page, Prints}
use Rattle.digits.proofs.Pages.{printed_front}
use Rattle.lines.specs.Lines.{nodes_line, end_line, more_line, refused_line}
use Rattle.lines.specs.Question.{most_answers}
use Rattle.lines.specs.Listing.{text_room, data_of, rest_of, twig_of, listing}
use Rattle.listing_told.specs.Ground.{Question, question_accepted}
use Rattle.listing_told.specs.Walked.{answer_lines}
use Rattle.listing_told.specs.Told.{More, All, listing_told}
use Rattle.listing_told.specs.Cases.{Refused, listing_cases}
use Rattle.listing_told.specs.Widths.{Narrow, nodes_width, end_width, more_width, refused_width, answers_width}

-- 14 for `nodes 4096 16`, 800,000 for the answers, 11 for `more 10000`
abbrev pub most_text : ℕ
most_text = 800025

-- ---- refused input

refused_most : (number : ℕ) → number ≤ 12 → length (refused_line number) ≤ most_text
refused_most number h = omega (arith, refused_width number (omega arith))

module _ (b : List ℕ) where
  abbrev s : List ℕ
  s = data_of b

  abbrev tw : List ℕ
  tw = twig_of (rest_of b)

  -- ---- a question

  module _ (q : Question b) where
    accepted : Accepted s tw
    accepted = question_accepted b q

    data_small : entries s ≤ 4096
    data_small = (accepted_tree Kind.Data s accepted.data_tree).small

    twig_small : entries tw ≤ 16
    twig_small = (accepted_tree Kind.Twig tw accepted.twig).small

    answer_narrow : (z : List ℕ) → LooseAnswer (entries s) (entries tw) (entries_of width s) (entries_of width tw) z → Narrow z
    answer_narrow z a = record {
      few = omega (arith, a.nodes, twig_small);
      small = λ i k.
          let e : suc i - 1 ≡ i = omega arith in
          let r : get_or z i 0 ≤ entries s
          = subst (λ (j : ℕ). get_or z j 0 ≤ entries s) e (a.each (suc i) (omega arith) (omega (arith, a.nodes))).high in
          omega (arith, data_small);
    }

    narrow : Every Narrow (all_loose s tw)
    narrow = every_of (all_loose s tw) (λ z m. answer_narrow z ((all_of s tw accepted).sound z m))

    -- the first line, the first k answers and the last line
    lines_most : (k : ℕ) (last : List ℕ) → 80 * k + length last ≤ 800011
        → length (nodes_line (entries s) (entries tw) ++ (answer_lines (take k (all_loose s tw)) ++ last)) ≤ most_text
    lines_most k last h =
        let n = nodes_width (entries s) (entries tw) (omega (arith, data_small)) (omega (arith, twig_small)) in
        sum (nodes_line (entries s) (entries tw)) (answer_lines (take k (all_loose s tw))) n (answers_width k (all_loose s tw) narrow)
      where
        sum : (x y : List ℕ) → length x ≤ 14 → length y ≤ 80 * k → length (x ++ (y ++ last)) ≤ most_text
        sum x y i j = omega (arith, length-append x (y ++ last), length-append y last)

    question_most : length (listing b) ≤ most_text
    question_most = by (listing_told b q)
      where
        by : More b ⊎ All b → length (listing b) ≤ most_text
        by (inl x) = rw x.lines (lines_most most_answers more_line (omega (arith, more_width)))
        by (inr x) =
            let k = length (all_loose s tw) in
            let e = end_width k x.steps x.few (omega (arith, x.within)) in
            let l = lines_most k (end_line k x.steps) (omega (arith, x.few, e)) in
            rw x.lines (rw (take-length (all_loose s tw)) at l)

  -- ---- every input

  -- `nodes` and the two sizes, 10,000 answers of sixteen ranks of four digits, and `more 10000` are that many bytes
  pub listing_most : Bytes b → length (listing b) ≤ most_text
  listing_most h = by (listing_cases b h)
    where
      by : (Question b × (More b ⊎ All b)) ⊎ Refused b → length (listing b) ≤ most_text
      by (inl x) = question_most x.0
      by (inr x) = rw x.lines (refused_most x.number x.known)

  -- so every text has room
  pub listing_fits : Bytes b → length (listing b) ≤ text_room
  listing_fits h = omega (arith, listing_most h)

  -- ---- over the promise of the call

  -- the answer is the text's length; the text stands at the front of the room, which is as it was beyond
  pub record Whole (room : List ℕ) (next : ℕ) (left : List ℕ) : Type 0 where
    pub next_is : next ≡ length (listing b)
    pub left_is : left ≡ listing b ++ drop (length (listing b)) room

  -- no text is cut in a room of 819,200 bytes
  pub listing_whole : Bytes b → (room : List ℕ) (next : ℕ) (left : List ℕ) → text_room ≤ length room → Prints (listing b) 0 room next left
      → Whole room next left
  listing_whole h room next left l p =
      let f = listing_fits h in
      let e = p ∙ printed_front (listing b) room (omega arith) in
      record { next_is = ap (λ (x : Page). x.place) e; left_is = ap (λ (x : Page). x.bytes) e }
