-- Each theorem of the check that has a premise, used once on a starred case: so no premise is empty.
use Rattle.std.specs.Prelude.{ℕ, suc, ◌+◌, ◌<◌, ◌≡◌, refl, List, [], ◌∷◌, false, Ok, Err}
use Rattle.std.proofs.Common.{arith}
use Rattle.turns.specs.Turn.{run, Steps}
use Rattle.turns.specs.Chains.{one, more}
use Rattle.trees.specs.Tree.{none, elem, Tree, Allowed}
use Rattle.trees.specs.Signature.{cell, entries_of, width}
use Rattle.terms.specs.declared.Kind.{Kind}
use Rattle.checking.specs.declared.CheckState.{CheckState}
use Rattle.terms.specs.declared.Stop.{Stop}
use Rattle.checking.specs.Rule.{fresh, Ranges, step_of, close_of, accepted, nameless, second_root, in_range}
use Rattle.checking.specs.Turn.{TurnPromise, turn_of, turn_within}
use Rattle.terms.specs.Length.{length_fault}
use Rattle.checking.specs.Whole.{WholePromise}
use Rattle.checking.proofs.Cases.{fresh_ranges}
use Rattle.checked.specs.Yields.{Words, Yields, Turns}
use Rattle.checked.specs.Chained.{Fits}
use Rattle.checked.specs.Wholly.{handed, handed_is, accepted_exactly, check_two_n, whole_exactly, accepted_tree, AcceptedTree, tree_unique}
use Rattle.checked.specs.Public.{one_result, one_verdict, cut_anywhere, cut_kept, count_unique, stops_before_the_fault, BeforeFault, refused_early, chain_verdict, handed_back_in_range, step_as_written}
use Rattle.checked.specs.ShutOut.{small, small_words}
use Rattle.checked.specs.Menus.{ten, wrong_post}
use Rattle.terms.specs.declared.Turn.{Turn}
use Rattle.terms.specs.Stops.{Verdict}

-- ---- a tree yields Ten

pub allowed : (a : ℕ) → a < 65535 → Allowed false (suc a)
allowed a h = record { code = omega arith; some = λ z. omega arith }

-- Ten as a tree of names
abbrev pub ten_tree : Tree
ten_tree = record {
  name = 1;
  below =
      elem 2 (elem 3 (elem 4 none (elem 5 none none)) (elem 7 none none))
      (elem 6 (elem 8 (elem 9 none (elem 10 none none)) none) none);
}

abbrev pub ten_yields : Yields Kind.Data ten
ten_yields = record {
  tree = ten_tree;
  grown = record {
    named = (
      allowed 0 (omega arith),
      (
        allowed 1 (omega arith),
        (allowed 2 (omega arith), (allowed 3 (omega arith), tt, (allowed 4 (omega arith), tt, tt)), (allowed 6 (omega arith), tt, tt)),
        (allowed 5 (omega arith), (allowed 7 (omega arith), (allowed 8 (omega arith), tt, (allowed 9 (omega arith), tt, tt)), tt), tt),
      ),
      tt,
    );
    small = omega arith;
  };
  is = refl;
}

pub ten_words : Words ten
unfolding small
ten_words = small_words ten refl

-- ---- a chain of two public turns on Ten

-- the first turn: 3 steps from the fresh state
abbrev pub first : Turn CheckState
first = handed (turn_of Kind.Data ten 3 fresh)

-- the second turn: from the state that the first handed back, with more than enough to spend
abbrev pub last : Turn CheckState
last = handed (turn_of Kind.Data ten 8190 (turn_of Kind.Data ten 3 fresh).state)

chain : Turns Kind.Data ten fresh (3 + 8190) (first.steps + last.steps) last
chain = more (handed_is (turn_of Kind.Data ten 3 fresh)) (one (handed_is (turn_of Kind.Data ten 8190 (turn_of Kind.Data ten 3 fresh).state)))

pub ten_accepted : last.stop ≡ Stop.End
ten_accepted = (accepted_exactly Kind.Data ten ten_words chain).complete (omega arith) ten_yields

pub ten_twenty : first.steps + last.steps ≡ 20
ten_twenty = check_two_n Kind.Data ten chain ten_accepted

-- ---- cut anywhere, on Ten

first_spent : first.stop ≡ Stop.Budget
unfolding turn_within length_fault in_range run step_of close_of nameless second_root accepted cell
first_spent = refl

pub ten_cut : handed (turn_of Kind.Data ten (3 + 8190) fresh) ≡ record { state = last.state; steps = 3 + last.steps; stop = last.stop }
ten_cut =
    cut_anywhere Kind.Data ten 3 8190 fresh first last (handed (turn_of Kind.Data ten (3 + 8190) fresh))
    (handed_is (turn_of Kind.Data ten 3 fresh)) first_spent
    (handed_is (turn_of Kind.Data ten 8190 (turn_of Kind.Data ten 3 fresh).state)) (handed_is (turn_of Kind.Data ten (3 + 8190) fresh))

-- a turn that came to the end is not changed by a larger budget
ended : (handed (turn_of Kind.Data ten 20 fresh)).stop ≡ Stop.Budget → ⊥
unfolding turn_within length_fault in_range run step_of close_of nameless second_root accepted cell
ended e = let z : ◌≡◌ {A = ℕ} 0 1 = cc in omega arith

pub ten_kept : handed (turn_of Kind.Data ten (20 + 5) fresh) ≡ handed (turn_of Kind.Data ten 20 fresh)
ten_kept =
    cut_kept Kind.Data ten 20 5 fresh (handed (turn_of Kind.Data ten 20 fresh)) (handed (turn_of Kind.Data ten (20 + 5) fresh))
    (handed_is (turn_of Kind.Data ten 20 fresh)) ended (handed_is (turn_of Kind.Data ten (20 + 5) fresh))

-- what is handed back is counted, in range, and the only result
pub ten_steps : Steps CheckState (accepted 10) (step_of false 10 (entries_of width ten)) first.steps fresh first.state
ten_steps = step_as_written Kind.Data ten 3 fresh first (handed_is (turn_of Kind.Data ten 3 fresh))

pub ten_range : Ranges 10 first.state
ten_range = handed_back_in_range Kind.Data ten 3 fresh first (handed_is (turn_of Kind.Data ten 3 fresh)) (fresh_ranges 10)

-- no other count than 3 leads there
pub ten_count : {k : ℕ} → Steps CheckState (accepted 10) (step_of false 10 (entries_of width ten)) k fresh first.state → k ≡ first.steps
ten_count m = count_unique Kind.Data ten m ten_steps

-- whatever keeps the promise of this turn is what ours hands back
pub ten_one : (r : Turn CheckState) → TurnPromise Kind.Data ten 3 fresh r → r ≡ first
ten_one r p = one_result Kind.Data ten 3 fresh r first p (handed_is (turn_of Kind.Data ten 3 fresh))

-- ---- a fault, on 5,1,3,0; 5,2,3,1

-- "Entries 5,1,3,0; 5,2,3,1", checked in one turn
abbrev pub faulty : Turn CheckState
faulty = handed (turn_of Kind.Data wrong_post 9 fresh)

post_refused : faulty.stop ≡ Stop.Refused (record { number = 5; entry = record { 0 = 2 } })
unfolding turn_within length_fault in_range run step_of close_of nameless second_root accepted cell
post_refused = refl

pub wrong_fits : Fits Kind.Data wrong_post
unfolding length_fault
wrong_fits = refl

pub wrong_early : faulty.steps < 4
wrong_early =
    refused_early Kind.Data wrong_post wrong_fits (one (handed_is (turn_of Kind.Data wrong_post 9 fresh))) (record { number = 5; entry = record { 0 = 2 } })
    post_refused

pub wrong_verdict : WholePromise Kind.Data wrong_post (Err (record { number = 5; entry = record { 0 = 2 } }))
wrong_verdict =
    chain_verdict Kind.Data wrong_post wrong_fits (one (handed_is (turn_of Kind.Data wrong_post 9 fresh))) (record { number = 5; entry = record { 0 = 2 } })
    post_refused

pub wrong_before :
    BeforeFault Kind.Data wrong_post 9 fresh faulty (handed_is (turn_of Kind.Data wrong_post 9 fresh)) (record { number = 5; entry = record { 0 = 2 } })
wrong_before =
    stops_before_the_fault Kind.Data wrong_post 9 fresh faulty (handed_is (turn_of Kind.Data wrong_post 9 fresh)) wrong_fits (fresh_ranges 2)
    (record { number = 5; entry = record { 0 = 2 } }) post_refused

-- ---- the whole check, on Ten

ten_whole : WholePromise Kind.Data ten (Ok tt)
unfolding turn_within length_fault in_range run step_of close_of nameless second_root accepted cell
ten_whole = refl

pub ten_tree_law : AcceptedTree Kind.Data ten
ten_tree_law = accepted_tree Kind.Data ten ten_whole

pub ten_exactly : Yields Kind.Data ten
ten_exactly = (whole_exactly Kind.Data ten ten_words (Ok tt) ten_whole).sound refl

pub ten_unique : ten_exactly.tree ≡ ten_yields.tree
ten_unique = tree_unique Kind.Data ten ten_exactly ten_yields

-- whatever keeps the whole check's promise accepts Ten
pub ten_verdict : (v : Verdict) → WholePromise Kind.Data ten v → v ≡ Ok tt
ten_verdict v p = one_verdict Kind.Data ten v (Ok tt) p ten_whole

-- ---- a twig of one node with name 0, which no data tree may have

-- "Code 0 stands for any name, in a twig or a name test only."
abbrev pub any_node : List ℕ
any_node = 0 ∷ 1 ∷ 2 ∷ 0 ∷ []

pub any_yields : Yields Kind.Twig any_node
any_yields = record {
  tree = record { name = 0; below = none };
  grown = record { named = (record { code = omega arith; some = tt }, tt, tt); small = omega arith };
  is = refl;
}

any_words : Words any_node
unfolding small
any_words = small_words any_node refl

pub any_accepted : (handed (turn_of Kind.Twig any_node 2 fresh)).stop ≡ Stop.End
any_accepted =
    (accepted_exactly Kind.Twig any_node any_words (one (handed_is (turn_of Kind.Twig any_node 2 fresh)))).complete (omega arith) any_yields

pub any_refused : (handed (turn_of Kind.Data any_node 2 fresh)).stop ≡ Stop.Refused (record { number = 3; entry = record { 0 = 1 } })
unfolding turn_within length_fault in_range run step_of close_of nameless second_root accepted cell
any_refused = refl
