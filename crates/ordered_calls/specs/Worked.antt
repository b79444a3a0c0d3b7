-- Each theorem of the chain of calls used once, on the twig 8(9,10) and Ten: no premise is empty.
--   ten_begun, ten_front      one call has given 8 9 10, which is the front of all ordered answers
--   ten_calls, ten_complete   two calls, of which the second gives none: 8 9 10 is the only one
--   ten_map                   and it is the list of a map from the twig's elements to those of Ten
use Rattle.std.specs.Prelude.{ℕ, ◌≡◌, refl, Ok}
use Rattle.std.proofs.Common.{sym, subst, arith}
use mathlib.Core.List.{List, [], ◌∷◌, flat_map, Memᴰ}
use Rattle.turns.specs.Turn.{run}
use Rattle.trees.specs.Tree.{Tree}
use Rattle.trees.specs.Names.{passes}
use Rattle.trees.specs.Signature.{cell, entries_of, width, entries}
use Rattle.terms.specs.declared.Kind.{Kind}
use Rattle.checking.specs.Rule.{step_of, close_of, accepted, nameless, second_root, in_range}
use Rattle.checking.specs.Turn.{turn_within}
use Rattle.terms.specs.Length.{length_fault}
use Rattle.terms.specs.Room.{room_for}
use Rattle.checked.specs.Menus.{ten, fork}
use Rattle.checked.specs.Wholly.{accepted_tree}
use Rattle.walks.specs.Maps.{Lists}
use Rattle.ordering.specs.Next.{ranks, tuples, placed_test, later_test, answer_test, smaller_test, first_of, next_answer}
use Rattle.ordering.specs.Listing.{kept, answers_of}
use Rattle.ordered_given.specs.Judged.{all_up_to, tuple_fits, judged_of}
use Rattle.ordered.specs.Promise.{ordered_of}
use Rattle.ordered_calls.specs.Calls.{Called, Calls, end, then, Begun, stopped, went, Complete, Front, calls_list, calls_front}
use Rattle.ordered_calls.specs.OnTrees.{Ordered, ordered_maps}
use Rattle.ordered_calls.specs.ShutOut.{zeros, found, three, fork_accepted, ten_accepted}

-- the first call, from zeros on
first_call : Called ten (fork 8 9 10) zeros (Ok 3) found
unfolding run turn_within length_fault in_range step_of close_of nameless second_root accepted cell passes room_for
    ranks tuples placed_test later_test answer_test smaller_test first_of next_answer flat_map all_up_to tuple_fits judged_of ordered_of
first_call = record { room = three; enough = omega arith; promise = record { told = refl; left = refl } }

-- the second call, from that answer on
last_call : Called ten (fork 8 9 10) found (Ok 0) three
unfolding run turn_within length_fault in_range step_of close_of nameless second_root accepted cell passes room_for
    ranks tuples placed_test later_test answer_test smaller_test first_of next_answer flat_map all_up_to tuple_fits judged_of ordered_of
last_call = record { room = three; enough = omega arith; promise = record { told = refl; left = refl } }

pub ten_begun : Begun ten (fork 8 9 10) zeros (found ∷ [])
ten_begun = went first_call refl stopped

pub ten_front : Front ten (fork 8 9 10) (found ∷ [])
ten_front = calls_front ten (fork 8 9 10) fork_accepted ten_accepted (found ∷ []) ten_begun

pub ten_calls : Calls ten (fork 8 9 10) zeros (found ∷ [])
ten_calls = then first_call refl (end last_call)

pub ten_complete : Complete ten (fork 8 9 10) (found ∷ [])
ten_complete = calls_list ten (fork 8 9 10) fork_accepted ten_accepted (found ∷ []) ten_calls

-- ---- as a map

ten_all : answers_of (entries ten) (entries_of width ten) (entries (fork 8 9 10)) (entries_of width (fork 8 9 10)) ≡ found ∷ []
unfolding kept tuples ranks flat_map answer_test later_test placed_test passes cell
ten_all = refl

-- the two trees, which the accepted signatures have
abbrev pub ten_tree : Tree
ten_tree = (accepted_tree Kind.Data ten ten_accepted).tree

abbrev pub fork_tree : Tree
fork_tree = (accepted_tree Kind.Twig (fork 8 9 10) fork_accepted).tree

pub ten_map : Lists ten_tree fork_tree (Ordered ten_tree fork_tree) found
ten_map =
    (ordered_maps ten (fork 8 9 10) fork_accepted ten_accepted found).0
    (subst (λ (l : List (List ℕ)). Memᴰ found l) (sym ten_all) (Memᴰ.head refl))
