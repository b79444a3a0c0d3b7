-- Each theorem of preparing and of walking that has a premise, used once on a case of document 01: so no premise is empty.
--   five_bits, five_bit      after preparing Five for 1(1) no entry has a bit above 2, so entry 1 none of a third node
--   five_ends, five_short    preparing Five comes to the end with 11 steps to spend, and with 2 it spends both
--   four_steps, four_once    2(3,4) on the four entries: any chain to the end takes 5 steps, and so does one of two turns
--   prepare_cut, prepare_kept   a turn of preparing Five of 2 + 9 steps is one of 2 and then one of 9; one of 5 + 4 steps is that of 5
--   prepare_range, prepare_fault   its state stays in range; on two roots it is refused before the step of entry 2, whose fa is 0
--   walk_cut, walk_kept      a turn of 2 + 99 steps on the four entries is one of 2 and then one of 99; one of 5 + 4 steps is that of 5
--   walk_range, walk_fault   its walk stays in range; where ff of entry 2 is 2 it is refused before the step that would need the block below
--   five_prepared, five_last, roots_prepared, four_walked, four_last, short_walked   those turns
--   four_zeros, second_only, eleven   the tables lent for the two faults, and their refusal
use Rattle.std.specs.Prelude.{ℕ, ◌+◌, ◌≤◌, ◌≡◌, refl, true, false, List, [], ◌∷◌, ◌⊎◌}
use Rattle.std.proofs.Common.{inl, inr, arith}
use Rattle.turns.specs.Turn.{Turned, run}
use Rattle.turns.specs.Chains.{one, more}
use Rattle.turns.specs.Laws as Laws
use Rattle.trees.specs.Signature.{cell, entries_of, width}
use Rattle.trees.specs.Names.{passes}
use Rattle.terms.specs.declared.Stop.{Stop}
use Rattle.terms.specs.declared.Refusal.{Refusal}
use Rattle.terms.specs.Length.{length_fault}
use Rattle.checking.specs.Rule as check
use Rattle.checking.specs.Turn.{turn_within}
use Rattle.checked.specs.Menus.{five, tarts, fork, pair, two_roots, wrong_ff}
use Rattle.twig_turns.specs.Given.{given_of, ready_for, begun_for}
use Rattle.preparing.specs.Masks.{can, every, has_bit, mask, put}
use Rattle.preparing.specs.Preparing.{Preparing, prepared, children_in, stands, can_of, bad_parent, written, joined, step_table, prep_step}
use Rattle.preparing.specs.PrepTurn.{cleared, prep_at, underway, prep_turn_of}
use Rattle.walk_ranges.specs.Ranges.{image, place, image_fits, phase_fits}
use Rattle.walking.specs.declared.Walk.{Walk}
use Rattle.walking.specs.Walking.{fresh, ended, in_range, end_of, bad_end, back as go_back, found, walk_on, step_of}
use Rattle.walking.specs.WalkTurn.{walk_fits, walk_turn_of}
use Rattle.walking.proofs.WalkRanges.{range_facts}
use Rattle.loose_turns.specs.Prepared as Prepared
use Rattle.loose_turns.specs.Walked as Walked
use Rattle.listed.specs.Questions.{NoBitsAbove, WalkTurns}
use Rattle.listed.specs.Prepared.{Done, Short, prepare_bits, prepare_ends}
use Rattle.listed.specs.Exactly.{end_steps_once}
use Rattle.listed.specs.Cases.{prep_back, prep_handed, walk_back, walk_handed, back, five_accepted, four_accepted, five_table, four_table}
use Rattle.listed.specs.Cases.{lent_for, cleared_for, five_start, five_turns, four_prepared}
use Rattle.listed.specs.Worked.{four_chain}
use Rattle.terms.specs.declared.Turn.{Turn}

-- ---- what preparing leaves, and when it ends

-- "the bit of q is 1 exactly if q is at most m": the twig 1(1) has two nodes
pub five_bits : NoBitsAbove five pair five_table
five_bits = prepare_bits five pair five_accepted (lent_for 5) (cleared_for 5) (prep_at 5) five_start five_turns refl

-- the bit of a third node is 0 at entry 1
pub five_bit : has_bit (can five_table 1) 3 ≡ false
five_bit = five_bits 3 1 (omega arith) (omega arith) (omega arith)

-- two turns that may spend 11 steps: not fewer than 5
pub five_ends : Done five pair 11 5 (back 0 3 Stop.End five_table)
five_ends = by (prepare_ends five pair five_accepted (lent_for 5) (cleared_for 5) (prep_at 5) five_start five_turns)
  where
    by : Done five pair 11 5 (back 0 3 Stop.End five_table) ⊎ Short five pair 11 5 (back 0 3 Stop.End five_table)
        → Done five pair 11 5 (back 0 3 Stop.End five_table)
    by (inl x) = x
    by (inr x) = absurd (omega (arith, x.fewer))

-- a turn of preparing Five with b steps to spend, from what the start call left
abbrev pub five_prepared : ℕ → Turned Preparing
five_prepared b = prep_turn_of five pair b (underway 5 (cleared_for 5))

-- one turn that may spend 2 steps: not 5 or more
pub five_short : Short five pair 2 (five_prepared 2).steps (prep_back (five_prepared 2))
five_short =
    by (prepare_ends five pair five_accepted (lent_for 5) (cleared_for 5) (prep_at 5) five_start (one {b = 2} (prep_handed (five_prepared 2))))
  where
    by : Done five pair 2 (five_prepared 2).steps (prep_back (five_prepared 2)) ⊎ Short five pair 2 (five_prepared 2).steps (prep_back (five_prepared 2))
        → Short five pair 2 (five_prepared 2).steps (prep_back (five_prepared 2))
    by (inl x) = absurd (omega (arith, x.enough))
    by (inr x) = x

-- ---- one number of steps to the end

-- any chain of turns to the end has taken the 5 steps of the single turn
pub four_steps : {C L : ℕ} {u : Turn Walk} → WalkTurns tarts (fork 2 3 4) four_table fresh C L u → u.stop ≡ Stop.End → 5 ≡ L
four_steps c e = end_steps_once tarts (fork 2 3 4) four_accepted four_table four_prepared four_chain c refl e

-- a turn of the walk of 2(3,4) on the four entries
abbrev pub four_walked : ℕ → Walk → Turned Walk
four_walked b w = walk_turn_of tarts (fork 2 3 4) four_table b w

-- what a second turn comes to, after one of two steps
abbrev pub four_last : Turned Walk
four_last = four_walked 99 (four_walked 2 fresh).state

-- that second turn comes to the end
four_ended : (walk_back four_last).stop ≡ Stop.End
unfolding begun_for ready_for given_of turn_within length_fault check.in_range run check.step_of check.close_of check.nameless check.second_root
    check.accepted cell
    every has_bit image place image_fits phase_fits in_range end_of bad_end go_back found walk_on step_of
four_ended = refl

-- two turns, of 2 steps and of at most 99, take as many in all
pub four_once : 5 ≡ (four_walked 2 fresh).steps + four_last.steps
four_once = four_steps (more {b = 2} (walk_handed (four_walked 2 fresh)) (one {b = 99} (walk_handed four_last))) four_ended

-- ---- turns of preparing: cut, kept, in range, before a fault

-- what a second turn of preparing Five comes to, after one of two steps
abbrev pub five_last : Turned Preparing
five_last = prep_turn_of five pair 9 (five_prepared 2).state

-- the first turn is stopped by its budget
five_spent : (prep_back (five_prepared 2)).turn.stop ≡ Stop.Budget
unfolding begun_for ready_for given_of turn_within length_fault check.in_range run check.step_of check.close_of check.nameless check.second_root
    check.accepted cell
    every has_bit mask put passes children_in stands can_of bad_parent written joined step_table prep_step cleared
five_spent = refl

-- stopped by its budget after 2 steps, and then one of 9
pub prepare_cut : Prepared.turned_of (prep_back (five_prepared (2 + 9))).turn (prep_back (five_prepared (2 + 9))).left
    ≡ Laws.after Preparing prepared (Prepared.step five pair) 2 (Prepared.turned_of (prep_back five_last).turn (prep_back five_last).left)
prepare_cut =
    Prepared.cut_anywhere five pair 2 9 (cleared_for 5) (prep_at 5) (prep_back (five_prepared 2)).turn (prep_back (five_prepared (2 + 9))).turn
    (prep_back (five_prepared 2)).left (prep_back (five_prepared (2 + 9))).left (prep_handed (five_prepared 2)) (prep_handed (five_prepared (2 + 9)))
    (prep_back five_last).turn (prep_back five_last).left five_spent (prep_handed five_last)

-- a turn of 5 steps is stopped by something else
five_whole : (prep_back (five_prepared 5)).turn.stop ≡ Stop.Budget → ⊥
unfolding begun_for ready_for given_of turn_within length_fault check.in_range run check.step_of check.close_of check.nameless check.second_root
    check.accepted cell
    every has_bit mask put passes children_in stands can_of bad_parent written joined step_table prep_step cleared
five_whole e = let z : ◌≡◌ {A = ℕ} 0 1 = cc in omega arith

-- come to the end with 5 steps, a turn is not changed by a larger budget
pub prepare_kept : Prepared.turned_of (prep_back (five_prepared (5 + 4))).turn (prep_back (five_prepared (5 + 4))).left
    ≡ Prepared.turned_of (prep_back (five_prepared 5)).turn (prep_back (five_prepared 5)).left
prepare_kept =
    Prepared.cut_kept five pair 5 4 (cleared_for 5) (prep_at 5) (prep_back (five_prepared 5)).turn (prep_back (five_prepared (5 + 4))).turn
    (prep_back (five_prepared 5)).left (prep_back (five_prepared (5 + 4))).left (prep_handed (five_prepared 5)) (prep_handed (five_prepared (5 + 4)))
    five_whole

-- 5 is at most n, and so is the next entry that the turn of 2 steps hands back
pub prepare_range : (five_prepared 2).state.next ≤ 5
prepare_range =
    Prepared.handed_back_in_range five pair (cleared_for 5) 2 (prep_at 5) (prep_back (five_prepared 2)).turn (prep_back (five_prepared 2)).left
    (prep_handed (five_prepared 2)) (omega arith)

-- "an fa outside 1 to t−1 gives 11 before that step writes"
abbrev pub eleven : Refusal
eleven = record { number = 11; entry = record { 0 = 0 } }

-- room for two entries
abbrev pub four_zeros : List ℕ
four_zeros = 0 ∷ 0 ∷ 0 ∷ 0 ∷ []

-- "Entries 5,2,3,0; 5,1,3,0", prepared for 1(1): fa of entry 2 is 0
abbrev pub roots_prepared : Turned Preparing
roots_prepared = prep_turn_of two_roots pair 9 (underway 2 four_zeros)

-- the twig and the length are accepted
roots_given : (given_of two_roots pair).reason ≡ 1
unfolding given_of turn_within length_fault check.in_range run check.step_of check.close_of check.nameless check.second_root check.accepted cell
roots_given = refl

-- the turn is refused with 11
roots_refused : (prep_back roots_prepared).turn.stop ≡ Stop.Refused eleven
unfolding begun_for ready_for given_of turn_within length_fault check.in_range run check.step_of check.close_of check.nameless check.second_root
    check.accepted cell
    bad_parent prep_step
roots_refused = refl

-- the turn stands before the step of entry 2
pub prepare_fault : Laws.AtFault Preparing prepared (Prepared.step two_roots pair) 9 (underway 2 four_zeros)
    (Prepared.turned_of (prep_back roots_prepared).turn (prep_back roots_prepared).left) 11 0
prepare_fault =
    Prepared.stops_before_the_fault two_roots pair four_zeros 9 (prep_at 2) (prep_back roots_prepared).turn (prep_back roots_prepared).left
    (prep_handed roots_prepared) (record { given = roots_given; in_range = omega arith; room = omega arith }) eleven roots_refused

-- ---- turns of the walk: cut, kept, in range, before a fault

-- the first turn is stopped by its budget
four_spent : (walk_back (four_walked 2 fresh)).stop ≡ Stop.Budget
unfolding begun_for ready_for given_of turn_within length_fault check.in_range run check.step_of check.close_of check.nameless check.second_root
    check.accepted cell
    every has_bit image place image_fits phase_fits in_range end_of bad_end go_back found walk_on step_of
four_spent = refl

-- stopped by its budget after 2 steps, and then one of 99
pub walk_cut : Walked.turned_of (walk_back (four_walked (2 + 99) fresh))
    ≡ Laws.after Walk ended (Walked.step tarts (fork 2 3 4) four_table) 2 (Walked.turned_of (walk_back four_last))
walk_cut =
    Walked.cut_anywhere tarts (fork 2 3 4) four_table 2 99 fresh refl (walk_back (four_walked 2 fresh)) (walk_back (four_walked (2 + 99) fresh))
    (walk_handed (four_walked 2 fresh)) (walk_handed (four_walked (2 + 99) fresh)) (walk_back four_last) four_spent (walk_handed four_last)

-- a turn of 5 steps is stopped by something else
four_whole : (walk_back (four_walked 5 fresh)).stop ≡ Stop.Budget → ⊥
unfolding begun_for ready_for given_of turn_within length_fault check.in_range run check.step_of check.close_of check.nameless check.second_root
    check.accepted cell
    every has_bit image place image_fits phase_fits in_range end_of bad_end go_back found walk_on step_of
four_whole e = let z : ◌≡◌ {A = ℕ} 0 1 = cc in omega arith

-- come to the end with 5 steps, a turn is not changed by a larger budget
pub walk_kept : walk_back (four_walked (5 + 4) fresh) ≡ walk_back (four_walked 5 fresh)
walk_kept =
    Walked.cut_kept tarts (fork 2 3 4) four_table 5 4 fresh refl (walk_back (four_walked 5 fresh)) (walk_back (four_walked (5 + 4) fresh))
    (walk_handed (four_walked 5 fresh)) (walk_handed (four_walked (5 + 4) fresh)) four_whole

-- the fresh walk is in range
four_fresh_law : walk_fits tarts (fork 2 3 4) fresh ≡ true
unfolding in_range phase_fits image_fits every image cell
four_fresh_law = refl

-- so is the one that the turn of 2 steps hands back
pub walk_range : walk_fits tarts (fork 2 3 4) (four_walked 2 fresh).state ≡ true
walk_range =
    Walked.handed_back_in_range tarts (fork 2 3 4) four_table 2 fresh refl (walk_back (four_walked 2 fresh)) (walk_handed (four_walked 2 fresh))
    four_fresh_law

-- a table that lets node 1 stand at entry 2 only
abbrev pub second_only : List ℕ
second_only = 0 ∷ 0 ∷ 1 ∷ 0 ∷ []

-- "Entries 5,2,3,0; 5,1,2,1" and the twig 1(1): ff of entry 2, the image of node 1, is 2
abbrev pub short_walked : Turned Walk
short_walked = walk_turn_of wrong_ff pair second_only 9 fresh

-- the twig and the length are accepted
short_given : (given_of wrong_ff pair).reason ≡ 1
unfolding given_of turn_within length_fault check.in_range run check.step_of check.close_of check.nameless check.second_root check.accepted cell
short_given = refl

-- the fresh walk is in range
short_fresh : walk_fits wrong_ff pair fresh ≡ true
unfolding in_range phase_fits image_fits every image cell
short_fresh = refl

-- the turn is refused with 11
short_refused : (walk_back short_walked).stop ≡ Stop.Refused eleven
unfolding begun_for ready_for given_of turn_within length_fault check.in_range run check.step_of check.close_of check.nameless check.second_root
    check.accepted cell
    every has_bit image place image_fits phase_fits in_range end_of bad_end go_back found walk_on step_of
short_refused = refl

-- node 1 stands at entry 2, and the turn stands before the first step of node 2
pub walk_fault : Laws.AtFault Walk ended (Walked.step wrong_ff pair second_only) 9 fresh (Walked.turned_of (walk_back short_walked)) 11 0
walk_fault =
    Walked.stops_before_the_fault wrong_ff pair second_only 9 fresh refl (walk_back short_walked) (walk_handed short_walked)
    (record { given = short_given; in_range = range_facts 2 2 (entries_of width pair) fresh refl (omega arith) short_fresh; room = omega arith })
    eleven short_refused
