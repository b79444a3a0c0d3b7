-- Each theorem used once, on the cases of document 01: no premise is empty.
--   five_right, five_fits_law, five_not   preparing Five for 1(1) took 5 steps; the root fits at entry 1 and not at entry 2
--   five_chain, five_told     seven turns tell the six answers of 1(1) on Five, in 14 steps
--   six_answers, five_listed, five_computed   those are all loose answers, by loose_exactly and by computing the list
--   five_map                  the first of them is the list of a map from the elements of 1(1) to those of Five
--   five_start_chain, five_from_start, five_next_chain, five_from_answer   the limit, from the start and from an answer
--   ten_chain, ten_told, ten_listed   8(9,10) on Ten has just the answer 8 9 10
--   four_chain, four_listed   2(3,4) on the four entries has none
--   star_count                1(1,1,1) on Five has 72
use Rattle.std.specs.Prelude.{ℕ, ◌+◌, ◌≡◌, refl, false, length, replicate}
use Rattle.std.proofs.Common.{◌∙◌, sym, subst, arith}
use mathlib.Core.List.{List, [], ◌∷◌, flat_map, Memᴰ}
use Rattle.turns.specs.Turn.{run}
use Rattle.turns.specs.Chains.{one, more}
use Rattle.trees.specs.Tree.{Tree}
use Rattle.trees.specs.Signature.{cell, entries_of, width}
use Rattle.trees.specs.Names.{passes}
use Rattle.walks.specs.Walking.{answers_from, passing, passing_of}
use Rattle.walks.specs.Room.{image_of}
use Rattle.walks.specs.Chained.{told}
use Rattle.walks.specs.Maps.{Lists}
use Rattle.terms.specs.declared.Kind.{Kind}
use Rattle.terms.specs.declared.Stop.{Stop}
use Rattle.checking.specs.Rule as check
use Rattle.checking.specs.Turn.{turn_within}
use Rattle.terms.specs.Length.{length_fault}
use Rattle.walk_ranges.specs.declared.Phase.{Phase}
use Rattle.preparing.specs.Masks.{every, has_bit, can}
use Rattle.twig_turns.specs.Given.{given_of, ready_for, begun_for}
use Rattle.preparing.specs.PrepTurn.{prep_at}
use Rattle.walk_ranges.specs.Ranges.{image, place, image_fits, phase_fits}
use Rattle.walking.specs.Walking.{at, fresh, in_range, end_of, bad_end, back, found, walk_on, step_of}
use Rattle.walking.specs.WalkTurn.{walk_turn_of}
use Rattle.listed.specs.Loose.{PartFits}
use Rattle.listed.specs.Questions.{TableSays, WalkTurns, tell_of, start, handed}
use Rattle.listed.specs.Prepared.{prepare_n}
use Rattle.listed.specs.Choosing.{loose_answers, parent_of}
use Rattle.listed.specs.Exactly.{all_loose, Within, loose_exactly, walk_within_law}
use Rattle.listed.specs.OnTrees.{Loosely, loose_maps}
use Rattle.checked.specs.Wholly.{accepted_tree}
use Rattle.checked.specs.Menus.{ten, five, tarts, fork, ones, pair}
use Rattle.listed.specs.Cases.{walk_handed, five_accepted, four_accepted, ten_accepted}
use Rattle.listed.specs.Cases.{five_table, four_table, ten_table, lent_for, cleared_for}
use Rattle.listed.specs.Cases.{five_start, five_turns, five_prepared_law, four_prepared, ten_prepared}
use Rattle.terms.specs.declared.Turn.{Turn}
use Rattle.walking.specs.declared.Walk.{Walk}

-- ---- preparing

pub five_right : (◌≡◌ {A = ℕ} 5 5) × TableSays five pair five_table
five_right = prepare_n five pair five_accepted (lent_for 5) (cleared_for 5) (prep_at 5) five_start five_turns refl

-- the twig 1(1) fits with its root at entry 1, and not with its root at entry 2, which has nothing below it
pub five_fits_law : PartFits 5 (entries_of width five) (entries_of width pair) 1 1
unfolding has_bit cell
five_fits_law = (five_right.1 1 1 (omega arith) (omega arith) (omega arith) (omega arith)).0 refl

no_bit : has_bit (can five_table 2) 1 ≡ false
unfolding has_bit cell
no_bit = refl

pub five_not : PartFits 5 (entries_of width five) (entries_of width pair) 1 2 → ⊥
five_not p =
    let h = (five_right.1 1 2 (omega arith) (omega arith) (omega arith) (omega arith)).1 p in
    let q = sym no_bit ∙ h in let z : ◌≡◌ {A = ℕ} 0 1 = cc in omega arith

-- ---- walking

-- a walk that has ended on a tree of n entries, after k steps of its last turn
abbrev over : ℕ → ℕ → Turn Walk
over n k = record { state = at (replicate 16 0) 1 (n + 1) Phase.Ended; steps = k; stop = Stop.End }

pub five_chain : WalkTurns five pair five_table fresh 63 14 (over 5 4)
unfolding begun_for ready_for given_of turn_within length_fault check.in_range run check.step_of check.close_of check.nameless check.second_root
    check.accepted cell
    every has_bit image place image_fits phase_fits in_range end_of bad_end back found walk_on step_of
five_chain =
    more {b = 9} (walk_handed _) (more {b = 9} (walk_handed _) (more {b = 9} (walk_handed _) (more {b = 9} (walk_handed _)
    (more {b = 9} (walk_handed _) (more {b = 9} (walk_handed _) (one {b = 9} (walk_handed _)))))))

-- "1 2, 1 3, 1 4, 1 5, 3 4, 3 5, end 6 14"
abbrev pub six_answers : List (List ℕ)
six_answers = (1 ∷ 2 ∷ []) ∷ (1 ∷ 3 ∷ []) ∷ (1 ∷ 4 ∷ []) ∷ (1 ∷ 5 ∷ []) ∷ (3 ∷ 4 ∷ []) ∷ (3 ∷ 5 ∷ []) ∷ []

pub five_told : told (tell_of 2) five_chain ≡ six_answers
unfolding told five_chain begun_for ready_for given_of turn_within length_fault check.in_range run check.step_of check.close_of check.nameless
    check.second_root
    check.accepted cell every has_bit image place image_fits phase_fits in_range end_of bad_end back found walk_on step_of
five_told = refl

-- all loose answers, by loose_exactly
pub five_listed : all_loose five pair ≡ six_answers
five_listed = sym ((loose_exactly five pair five_accepted five_table five_prepared_law five_chain).whole refl) ∙ five_told

-- the same by computing the list
pub five_computed : all_loose five pair ≡ six_answers
unfolding loose_answers answers_from passing passing_of flat_map parent_of image_of passes cell
five_computed = refl

-- the two trees, which the accepted signatures have
abbrev pub five_tree : Tree
five_tree = (accepted_tree Kind.Data five five_accepted.data_tree).tree

abbrev pub pair_tree : Tree
pair_tree = (accepted_tree Kind.Twig pair five_accepted.twig).tree

pub five_map : Lists five_tree pair_tree (Loosely five_tree pair_tree) (1 ∷ 2 ∷ [])
five_map =
    (loose_maps five pair five_accepted (1 ∷ 2 ∷ [])).0
    (subst (λ (l : List (List ℕ)). Memᴰ (1 ∷ 2 ∷ []) l) (sym five_listed) (Memᴰ.head refl))

-- ---- the limit: 2×m×n+1 = 21 steps from the start, and from an answer

-- at the first answer, after k steps of a turn
abbrev first_answer : ℕ → Turn Walk
first_answer k = record { state = at (1 ∷ 2 ∷ replicate 14 0) 2 2 Phase.Answer; steps = k; stop = Stop.Answer }

-- two turns from the start to the first answer, and two from there to the second
pub five_start_chain : WalkTurns five pair five_table fresh 22 2 (first_answer 1)
unfolding begun_for ready_for given_of turn_within length_fault check.in_range run check.step_of check.close_of check.nameless check.second_root
    check.accepted cell
    every has_bit image place image_fits phase_fits in_range end_of bad_end back found walk_on step_of
five_start_chain = more {b = 1} (walk_handed _) (one {b = 21} (walk_handed _))

pub five_from_start : Within five pair 22 2 (first_answer 1)
unfolding five_start_chain
five_from_start = walk_within_law five pair five_accepted five_table five_prepared_law start five_start_chain (refl, tt)

pub five_next_chain : WalkTurns five pair five_table (first_answer 1).state 21 1
    (record { state = at (1 ∷ 3 ∷ replicate 14 0) 2 3 Phase.Answer; steps = 1; stop = Stop.Answer })
unfolding begun_for ready_for given_of turn_within length_fault check.in_range run check.step_of check.close_of check.nameless check.second_root
    check.accepted cell
    every has_bit image place image_fits phase_fits in_range end_of bad_end back found walk_on step_of
five_next_chain = more {b = 0} (walk_handed _) (one {b = 21} (walk_handed _))

pub five_from_answer : Within five pair 21 1 (record
    { state = at (1 ∷ 3 ∷ replicate 14 0) 2 3 Phase.Answer; steps = 1; stop = Stop.Answer })
unfolding five_next_chain
five_from_answer = walk_within_law five pair five_accepted five_table five_prepared_law (handed five_start_chain) five_next_chain (refl, tt)

-- ---- the starred cases

-- "Twig 8(9,10) on Ten": one answer
pub ten_chain : WalkTurns ten (fork 8 9 10) ten_table fresh 198 17 (over 10 6)
unfolding begun_for ready_for given_of turn_within length_fault check.in_range run check.step_of check.close_of check.nameless check.second_root
    check.accepted cell
    every has_bit image place image_fits phase_fits in_range end_of bad_end back found walk_on step_of
ten_chain = more {b = 99} (walk_handed _) (one {b = 99} (walk_handed _))

pub ten_told : told (tell_of 3) ten_chain ≡ (8 ∷ 9 ∷ 10 ∷ []) ∷ []
unfolding told ten_chain begun_for ready_for given_of turn_within length_fault check.in_range run check.step_of check.close_of check.nameless
    check.second_root check.accepted cell
    every has_bit image place image_fits phase_fits in_range end_of bad_end back found walk_on step_of
ten_told = refl

pub ten_listed : all_loose ten (fork 8 9 10) ≡ (8 ∷ 9 ∷ 10 ∷ []) ∷ []
ten_listed = sym ((loose_exactly ten (fork 8 9 10) ten_accepted ten_table ten_prepared ten_chain).whole refl) ∙ ten_told

-- entries 1,4,5,0; 2,2,4,1; 3,1,4,2; 4,3,5,1 and the twig 2(3,4): none
pub four_chain : WalkTurns tarts (fork 2 3 4) four_table fresh 99 5 (over 4 5)
unfolding begun_for ready_for given_of turn_within length_fault check.in_range run check.step_of check.close_of check.nameless check.second_root
    check.accepted cell
    every has_bit image place image_fits phase_fits in_range end_of bad_end back found walk_on step_of
four_chain = one {b = 99} (walk_handed _)

pub four_listed : all_loose tarts (fork 2 3 4) ≡ []
unfolding told begun_for ready_for given_of turn_within length_fault check.in_range run check.step_of check.close_of check.nameless check.second_root
    check.accepted cell
    every has_bit image place image_fits phase_fits in_range end_of bad_end back found walk_on step_of
four_listed = sym ((loose_exactly tarts (fork 2 3 4) four_accepted four_table four_prepared
    (one {b = 99} (walk_handed (walk_turn_of tarts (fork 2 3 4) four_table 99 fresh)))).whole refl)

-- "1(1,1,1): … 72 loose"
pub star_count : length (all_loose five ones) ≡ 72
unfolding loose_answers answers_from passing passing_of flat_map parent_of image_of passes cell
star_count = refl
