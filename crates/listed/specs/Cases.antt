-- Three trees with a twig each, prepared: no premise of the theorems is empty, and the wrong programs are tried on them.
-- They are those of `checked/specs/Menus`: Five with the twig 1(1); the four entries with 2(3,4), which has no answer; Ten with 8(9,10), which has one.
--   prep_back, walk_back   what the code hands back for a turn of the rule
--   prep_handed, walk_handed   that is what the promise asks
--   five_accepted, four_accepted, ten_accepted   each signature and twig is accepted
--   back                 what a turn of preparing hands back, by its numbers
--   lent_for, cleared_for  the table that is lent, and what the start call leaves of it
--   five_table, four_table, ten_table   what preparing leaves
--   five_start, five_turns   the start call for Five, and two turns
--   five_prepared_law, four_prepared, ten_prepared   each is prepared: Five in two turns, the others in one
use Rattle.std.specs.Prelude.{ℕ, ◌+◌, ◌*◌, refl, List, [], ◌∷◌, replicate, Ok}
use Rattle.turns.specs.Turn.{Turned, run}
use Rattle.turns.specs.Chains.{one, more}
use Rattle.trees.specs.Signature.{cell}
use Rattle.trees.specs.Names.{passes}
use Rattle.terms.specs.declared.Stop.{Stop}
use Rattle.checking.specs.Rule as check
use Rattle.checking.specs.Turn.{turn_within}
use Rattle.terms.specs.Length.{length_fault}
use Rattle.checked.specs.Apart.{stop_of, told_stop}
use Rattle.checked.specs.Menus.{ten, five, tarts, fork, pair}
use Rattle.walking.specs.declared.Walk.{Walk}
use Rattle.preparing.specs.Masks.{every, has_bit, mask, put}
use Rattle.twig_turns.specs.Given.{given_of, ready_for, begun_for}
use Rattle.twig_turns.specs.Grounds.{Accepted}
use Rattle.preparing.specs.Preparing.{Preparing, children_in, stands, can_of, bad_parent, written, joined, step_table, prep_step}
use Rattle.preparing.specs.PrepTurn.{cleared, start_fault, StartPromise, prep_at, PrepHanded}
use Rattle.listed.specs.Questions.{PrepBack, PrepTurns, Prepared}
use Rattle.terms.specs.declared.Turn.{Turn}
use Rattle.terms.specs.Stops.{Handed}

-- ---- what the code hands back

-- what the code hands back and leaves for a turn of preparing by the rule
abbrev pub prep_back : Turned Preparing → PrepBack
prep_back t = record { turn = record { state = prep_at t.state.next; steps = t.steps; stop = stop_of t.halt }; left = t.state.table }

pub prep_handed : (t : Turned Preparing) → PrepHanded (prep_back t).turn (prep_back t).left t
prep_handed t = record { state = refl; steps = refl; stop = told_stop t.halt; leaves = refl }

-- what the code hands back for a turn of the walk by the rule
abbrev pub walk_back : Turned Walk → Turn Walk
walk_back t = record { state = t.state; steps = t.steps; stop = stop_of t.halt }

pub walk_handed : (t : Turned Walk) → Handed (walk_back t) t
walk_handed t = record { state = refl; steps = refl; stop = told_stop t.halt }

-- ---- accepted

pub five_accepted : Accepted five pair
unfolding turn_within length_fault check.in_range run check.step_of check.close_of check.nameless check.second_root check.accepted cell
five_accepted = record { data_tree = refl; twig = refl }

pub four_accepted : Accepted tarts (fork 2 3 4)
unfolding turn_within length_fault check.in_range run check.step_of check.close_of check.nameless check.second_root check.accepted cell
four_accepted = record { data_tree = refl; twig = refl }

pub ten_accepted : Accepted ten (fork 8 9 10)
unfolding turn_within length_fault check.in_range run check.step_of check.close_of check.nameless check.second_root check.accepted cell
ten_accepted = record { data_tree = refl; twig = refl }

-- ---- prepared

-- what a turn of preparing hands back: the next entry, the steps, the stop and the table
abbrev pub back : ℕ → ℕ → Stop → List ℕ → PrepBack
back t k stop table = record { turn = record { state = prep_at t; steps = k; stop = stop }; left = table }

-- the tables that preparing leaves, the number beyond 2×n as it was lent
abbrev pub five_table : List ℕ
five_table = 3 ∷ 3 ∷ 2 ∷ 0 ∷ 3 ∷ 2 ∷ 2 ∷ 0 ∷ 2 ∷ 0 ∷ 7 ∷ []

-- what preparing leaves for the four entries and the twig 2(3,4)
abbrev pub four_table : List ℕ
four_table = 0 ∷ 6 ∷ 0 ∷ 2 ∷ 2 ∷ 0 ∷ 4 ∷ 0 ∷ 7 ∷ []

-- what preparing leaves for Ten and the twig 8(9,10)
abbrev pub ten_table : List ℕ
ten_table = 0 ∷ 7 ∷ 0 ∷ 0 ∷ 0 ∷ 0 ∷ 0 ∷ 0 ∷ 0 ∷ 0 ∷ 0 ∷ 0 ∷ 0 ∷ 7 ∷ 1 ∷ 6 ∷ 2 ∷ 0 ∷ 4 ∷ 0 ∷ 7 ∷ []

-- a lent table need not be empty, and may be longer than 2×n
abbrev pub lent_for : ℕ → List ℕ
lent_for n = replicate (2 * n + 1) 7

-- the same table, as the start call for n leaves it
abbrev pub cleared_for : ℕ → List ℕ
cleared_for n = cleared (2 * n) (lent_for n)

pub five_start : StartPromise 5 (lent_for 5) (Ok (prep_at 5)) (cleared_for 5)
unfolding start_fault cleared
five_start = record { answer = refl; leaves = refl }

-- two turns, of 2 steps and of at most 9
pub five_turns : PrepTurns five pair (record { state = prep_at 5; table = cleared_for 5 }) 11 5 (back 0 3 Stop.End five_table)
unfolding begun_for ready_for given_of turn_within length_fault check.in_range run check.step_of check.close_of check.nameless check.second_root
    check.accepted cell
    every has_bit mask put passes children_in stands can_of bad_parent written joined step_table prep_step cleared
five_turns =
    more {b = 2} {r = back 3 2 Stop.Budget (0 ∷ 0 ∷ 0 ∷ 0 ∷ 0 ∷ 2 ∷ 2 ∷ 0 ∷ 2 ∷ 0 ∷ 7 ∷ [])}
    (record { state = refl; steps = refl; stop = refl; leaves = refl })
    (one {b = 9} (record { state = refl; steps = refl; stop = refl; leaves = refl }))

pub five_prepared_law : Prepared five pair five_table
five_prepared_law = record {
  lent = lent_for 5;
  cleared = cleared_for 5;
  state = prep_at 5;
  start = five_start;
  budgets = 11;
  steps = 5;
  last = (back 0 3 Stop.End five_table).turn;
  turns = five_turns;
  ended = refl;
}

pub four_prepared : Prepared tarts (fork 2 3 4) four_table
unfolding start_fault begun_for ready_for given_of turn_within length_fault check.in_range run check.step_of check.close_of check.nameless check.second_root
    check.accepted cell every has_bit mask put passes children_in stands can_of bad_parent written joined step_table prep_step cleared
four_prepared = record {
  lent = lent_for 4;
  cleared = cleared_for 4;
  state = prep_at 4;
  start = record { answer = refl; leaves = refl };
  budgets = 4;
  steps = 4;
  last = (back 0 4 Stop.End four_table).turn;
  turns = one {b = 4} (record { state = refl; steps = refl; stop = refl; leaves = refl });
  ended = refl;
}

pub ten_prepared : Prepared ten (fork 8 9 10) ten_table
unfolding start_fault begun_for ready_for given_of turn_within length_fault check.in_range run check.step_of check.close_of check.nameless check.second_root
    check.accepted cell every has_bit mask put passes children_in stands can_of bad_parent written joined step_table prep_step cleared
ten_prepared = record {
  lent = lent_for 10;
  cleared = cleared_for 10;
  state = prep_at 10;
  start = record { answer = refl; leaves = refl };
  budgets = 99;
  steps = 10;
  last = (back 0 10 Stop.End ten_table).turn;
  turns = one {b = 99} (record { state = refl; steps = refl; stop = refl; leaves = refl });
  ended = refl;
}
