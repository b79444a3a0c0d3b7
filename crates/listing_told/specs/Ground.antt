-- Input that is not refused is a question: its two trees are accepted, and the table is prepared.
--   Question b        b is bytes, not too long, and neither of its lists is refused
--   question_accepted  the whole check accepts both signatures
--   table_prepared    start call and one turn of preparing come to the end
use Rattle.std.specs.Prelude.{ℕ, ◌+◌, ◌*◌, ◌≤◌, ◌<◌, ◌≡◌, ◌⊎◌, Bool, true, false, List, length, drop, replicate, Ok}
use Rattle.std.proofs.Math.Path.{refl}
use Rattle.std.proofs.Common.{sym, subst, inl, inr, arith, get_or-drop, ne_eqb, le-leb}
use Rattle.turns.specs.Turn.{Turned}
use Rattle.turns.specs.Chains.{one}
use Rattle.trees.specs.Signature.{entries}
use Rattle.terms.specs.declared.Kind.{Kind}
use Rattle.terms.specs.declared.Stop.{Stop}
use Rattle.terms.specs.Kinds.{any_name, most}
use Rattle.checked.specs.Yields.{Yields}
use Rattle.checked.specs.Wholly.{accepted_tree, yields_accepted}
use Rattle.bytes_read.specs.Scans.{halt_number}
use Rattle.tag_scan.specs.TagLists.{tree_scan, numbers_in}
use Rattle.retold.specs.Taken.{Bytes}
use Rattle.retold.specs.Sound.{scan_sound}
use Rattle.twig_turns.specs.Given.{table_width}
use Rattle.twig_turns.specs.Grounds.{Accepted, accepted_grounds}
use Rattle.preparing.specs.Preparing.{Preparing}
use Rattle.preparing.specs.PrepTurn.{cleared, start_fault, StartPromise, prep_at, underway, prep_turn_of}
use Rattle.listed.specs.Questions.{Prepared}
use Rattle.listed.specs.Prepared.{Done, Short, prepare_ends}
use Rattle.listed.specs.Cases.{prep_back, prep_handed}
use Rattle.lines.specs.Question.{prep_budget, table_of}
use Rattle.lines.specs.Listing.{most_bytes, data_scan, data_fault, data_of, rest_of, twig_fault, twig_of}

-- ---- the two trees

-- the input is bytes, not too long, and neither list is refused
pub record Question (b : List ℕ) : Type 0 where
  pub bytes : Bytes b
  pub short : length b ≤ most_bytes
  pub data_fine : data_fault b ≡ 0
  pub twig_fine : twig_fault (rest_of b) ≡ 0

-- what a scan that refused nothing has read is the signature of a tree
scan_yields : (all : Bool) (k : Kind) (b : List ℕ) → Bytes b → halt_number (tree_scan all (any_name k) (most k) b 0).halt ≡ 0
    → Yields k (numbers_in b 0 (tree_scan all (any_name k) (most k) b 0).state.count)
scan_yields all k b h z =
    let r = scan_sound all (any_name k) (most k) b h 0 z in record { tree = r.tree; grown = r.grown; is = r.numbers }

pub rest_bytes : (b : List ℕ) (k : ℕ) → Bytes b → Bytes (drop k b)
rest_bytes b k h i = subst (λ (x : ℕ). x < 256) (sym (get_or-drop k b i 0)) (h (k + i))

pub question_accepted : (b : List ℕ) → Question b → Accepted (data_of b) (twig_of (rest_of b))
question_accepted b q = record {
  data_tree = yields_accepted Kind.Data (data_of b) (scan_yields false Kind.Data b q.bytes q.data_fine);
  twig = yields_accepted Kind.Twig (twig_of (rest_of b))
      (scan_yields true Kind.Twig (rest_of b) (rest_bytes b (data_scan b).state.at q.bytes) q.twig_fine);
}

-- ---- the table

start_fine : (n room : ℕ) → 1 ≤ n → n ≤ 4096 → 2 * n ≤ room → start_fault n room ≡ 0
unfolding start_fault
start_fine n room h l r = rw (ne_eqb n 0 (λ z. omega arith), le-leb n 4096 l, le-leb (2 * n) room r) refl

module _ (s tw : List ℕ) (accepted : Accepted s tw) where
  abbrev lent : List ℕ
  lent = replicate 8192 0

  fine : start_fault (entries s) 8192 ≡ 0
  fine =
      let t = accepted_tree Kind.Data s accepted.data_tree in
      start_fine (entries s) 8192 (accepted_grounds s tw accepted).tree.some (omega (arith, t.small))
      (omega (arith, t.small))

  abbrev begun : List ℕ
  begun = cleared (table_width * entries s) lent

  start : StartPromise (entries s) lent (Ok (prep_at (entries s))) begun
  start = record { answer = rw fine refl; leaves = rw fine refl }

  abbrev turn : Turned Preparing
  turn = prep_turn_of s tw prep_budget (underway (entries s) begun)

  ended : (prep_back turn).turn.stop ≡ Stop.End
  ended = by (prepare_ends s tw accepted lent begun (prep_at (entries s)) start (one {b = prep_budget} (prep_handed turn)))
    where
      by : Done s tw prep_budget turn.steps (prep_back turn) ⊎ Short s tw prep_budget turn.steps (prep_back turn)
          → (prep_back turn).turn.stop ≡ Stop.End
      by (inl x) = x.stop
      by (inr x) = absurd (omega (arith, x.fewer, (accepted_tree Kind.Data s accepted.data_tree).small))

  table_is : turn.state.table ≡ table_of s tw lent
  unfolding table_of
  table_is = rw fine refl

  pub table_prepared : Prepared s tw (table_of s tw lent)
  table_prepared = subst (Prepared s tw) table_is (record {
    lent = lent;
    cleared = begun;
    state = prep_at (entries s);
    start = start;
    budgets = prep_budget;
    steps = turn.steps;
    last = (prep_back turn).turn;
    turns = one {b = prep_budget} (prep_handed turn);
    ended = ended;
  })
