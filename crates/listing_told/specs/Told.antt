-- What the listing program prints, on input that is not refused: the first 10,000 loose answers, in order, and how it ended.
--   More b, All b     what is printed where there are 10,000 answers or more, and where there are fewer
--   listing_told      it is one of these two
use Rattle.std.specs.Prelude.{ℕ, ◌+◌, ◌*◌, ◌≤◌, ◌<◌, ◌≡◌, ◌⊎◌, List, ◌++◌, length, take, replicate}
use Rattle.std.proofs.Math.Path.{refl}
use Rattle.std.proofs.Common.{ap, ◌∙◌, sym, inl, inr, arith, length-append}
use Rattle.std.proofs.Math.Seq.{take-append_seam}
use borrow.Author.Tests.{eq-eqb, le-ltb}
use Rattle.trees.specs.Signature.{entries}
use Rattle.terms.specs.declared.Stop.{Stop}
use Rattle.twig_turns.specs.Grounds.{Accepted}
use Rattle.walking.specs.Walking.{fresh}
use Rattle.listed.specs.Questions.{Prepared, WalkTurns, start}
use Rattle.listed.specs.Exactly.{all_loose, Listed, loose_exactly}
use Rattle.lines.specs.Lines.{nodes_line, end_line, more_line}
use Rattle.lines.specs.Question.{walk_budget, most_answers, table_of, lines_from, question_lines}
use Rattle.lines.specs.Listing.{most_bytes, data_fault, data_of, rest_of, twig_fault, twig_of, after_data, listing}
use Rattle.listing_told.specs.Ground.{Question, question_accepted, table_prepared}
use Rattle.listing_told.specs.Walked.{answer_lines, answers, Lines, Stopped, Ended, walk_lines}
use Rattle.terms.specs.declared.Turn.{Turn}
use Rattle.walking.specs.declared.Walk.{Walk}

module _ (b : List ℕ) where
  abbrev s : List ℕ
  s = data_of b

  abbrev tw : List ℕ
  tw = twig_of (rest_of b)

  abbrev table : List ℕ
  table = table_of s tw (replicate 8192 0)

  -- "Once the 10,000th answer is printed it prints `more 10000` as its last line and stops"
  pub record More : Type 0 where
    pub many : most_answers ≤ length (all_loose s tw)
    pub lines : listing b ≡ nodes_line (entries s) (entries tw) ++ (answer_lines (take most_answers (all_loose s tw)) ++ more_line)

  -- "each loose answer as ranks in twig preorder, then `end`, the number of answers and the walk steps": those of public turns from the fresh
  -- walk over a prepared table to the end, which is one number, however turns are cut (`end_steps_once` of `listed/Exactly`)
  pub record All : Type 0 where
    pub few : length (all_loose s tw) < most_answers
    pub prepared : Prepared s tw table
    pub budgets : ℕ
    pub steps : ℕ
    pub last : Turn Walk
    pub turns : WalkTurns s tw table fresh budgets steps last
    pub ended : last.stop ≡ Stop.End
    -- a turn for each answer and one to the end, each within its budget
    pub within : steps ≤ most_answers * walk_budget
    pub lines : listing b ≡ nodes_line (entries s) (entries tw) ++ (answer_lines (all_loose s tw) ++ end_line (length (all_loose s tw)) steps)

  module _ (q : Question b) where
    accepted : Accepted s tw
    accepted = question_accepted b q

    prepared_here : Prepared s tw table
    prepared_here = table_prepared s tw accepted

    text : listing b ≡ nodes_line (entries s) (entries tw) ++ lines_from s tw table most_answers 0 0 fresh
    unfolding listing after_data question_lines
    text = rw (le-ltb most_bytes (length b) q.short, eq-eqb (data_fault b) 0 q.data_fine, eq-eqb (twig_fault (rest_of b)) 0 q.twig_fine) refl

    -- on accepted input the lines are the first 10,000 answers of the ascending list of all loose answers, and the steps are the walk's
    pub listing_told : More ⊎ All
    listing_told = by x.came
      where
        x : Lines s tw table most_answers 0 0 fresh
        x = walk_lines s tw table accepted prepared_here 9999 0 0 fresh start

        e : Listed s tw table x.turns
        e = loose_exactly s tw accepted table prepared_here x.turns

        by : Stopped s tw table most_answers 0 0 fresh x.turns ⊎ Ended s tw table most_answers 0 0 fresh x.turns → More ⊎ All
        by (inl y) =
            let t = answers s tw table x.turns in
            let n : length t ≡ most_answers = y.many in
            let l : length (t ++ e.rest) ≡ length t + length e.rest = length-append t e.rest in
            let f : take most_answers (all_loose s tw) ≡ t
            = ap (take most_answers) (sym e.front) ∙ ap (λ (k : ℕ). take k (t ++ e.rest)) (sym n) ∙ take-append_seam t e.rest in
            inl (record {
              many = omega (arith, ap length e.front, l, n);
              lines = text ∙ ap (λ (v : List ℕ). nodes_line (entries s) (entries tw) ++ v)
                  (y.lines ∙ ap (λ (v : List (List ℕ)). answer_lines v ++ more_line) (sym f));
            })
        by (inr y) =
            let t = answers s tw table x.turns in
            let w : t ≡ all_loose s tw = e.whole y.stop in
            let k = ap length w in
            inr (record {
              few = omega (arith, k, y.few);
              prepared = prepared_here;
              budgets = x.budgets;
              steps = x.took;
              last = x.last;
              turns = x.turns;
              ended = y.stop;
              within = x.within;
              lines = text ∙ ap (λ (v : List ℕ). nodes_line (entries s) (entries tw) ++ v)
                  (y.lines
                  ∙ ap (λ (v : List (List ℕ)). answer_lines v ++ end_line (0 + length v) (0 + x.took)) w
                  ∙ ap (λ (v : ℕ). answer_lines (all_loose s tw) ++ end_line v (0 + x.took)) (omega arith)
                  ∙ ap (λ (v : ℕ). answer_lines (all_loose s tw) ++ end_line (length (all_loose s tw)) v) (omega arith));
            })
