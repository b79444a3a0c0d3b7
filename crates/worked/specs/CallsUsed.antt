-- Each theorem of the axis, block and ordered calls that has a premise, used once on a starred case: so no premise is empty.
--   because                        a refusal with its number and entry
--   ten_works, ten_answers         axis_works_exactly, both ways: the children of 2 in Ten
--   faulty_number, axis_number, room_number   refused_number: two roots; an axis of 11; a room of nothing
--   two_words, faulty_promise, axis_promise, room_promise   what those three calls were given and answered
--   ten_contexts                   contexts_are_elements: 2 and 7 are elements of Ten
--   ten_block_placed, ten_block_refused   block_and_place: the block of 2 in Ten; the rank 0
--   axis_unwritten                 refused_writes_nothing: an axis of 11
--   twig_first                     fault_twig: a twig with a wrong post, though the signature has two roots and the tuple is of no number
--   data_next                      fault_data: a signature of two roots, though the tuple is of no number
--   tuple_last                     fault_tuple: a number over 10 on Ten, though the room is of one number
--   ordered_unwritten              writes_nothing: no answer comes after 8 9 10
--   ten_end                        calls_end: the calls with the twig 8(9,10) on Ten give 8 9 10 and end
use Rattle.std.specs.Prelude.{ℕ, ◌≡◌, refl, true, false, take, drop, Ok, Err}
use Rattle.std.proofs.Common.{subst}
use mathlib.Core.List.{List, [], ◌∷◌, map, flat_map}
use Rattle.turns.specs.Turn.{run}
use Rattle.trees.specs.Tree.{whole, size}
use Rattle.trees.specs.Nodes.{Node}
use Rattle.trees.specs.Ranks.{pre}
use Rattle.trees.specs.Names.{passes}
use Rattle.trees.specs.Signature.{cell, entries_of, width, entries}
use Rattle.terms.specs.declared.Kind.{Kind}
use Rattle.terms.specs.declared.Refusal.{Refusal}
use Rattle.terms.specs.Length.{length_fault}
use Rattle.terms.specs.Room.{room_for}
use Rattle.terms.specs.Stops.{refused_as, answered, Written}
use Rattle.checking.specs.Rule.{step_of, close_of, accepted, nameless, second_root, in_range}
use Rattle.checking.specs.Turn.{turn_within}
use Rattle.checking.specs.Whole.{WholePromise}
use Rattle.checked.specs.Yields.{Words}
use Rattle.checked.specs.Menus.{ten, single, two_roots, wrong_post, fork}
use Rattle.checked.specs.ShutOut.{small, small_words}
use Rattle.xpath.specs.Select.{up_to, some, rises, within}
use Rattle.xpath.specs.Axes.{met, parent_of, ancestor_or_self, whole_before, sibling_before, on_axis, chosen, pth, kept}
use Rattle.xpath.specs.OnNodes.{InOrder}
use Rattle.blocks.specs.Checked.{after_check, is_rank}
use Rattle.blocks.specs.Block.{place_within, PlacePromise, BlockPromise}
use Rattle.marks.specs.Axis.{arguments_fine, axis_within, axis_answer, AxisPromise}
use Rattle.axes_told.specs.OneResult.{refused_writes_nothing}
use Rattle.axes_told.specs.Exactly.{Works, Refusing, axis_works_exactly, refused_number, contexts_are_elements}
use Rattle.axes_told.specs.Pinned.{BlockAndPlace, block_and_place}
use Rattle.ordering.specs.Next.{ranks, tuples, placed_test, later_test, answer_test, smaller_test, first_of, next_answer}
use Rattle.ordering.specs.Listing as Listing
use Rattle.ordered_given.specs.Judged.{all_up_to, tuple_fits, judged_of}
use Rattle.ordered.specs.Promise.{ordered_of, OrderedPromise}
use Rattle.ordered_calls.specs.Exactly.{Accepts, fault_twig, fault_data, fault_tuple, writes_nothing}
use Rattle.ordered_calls.specs.Calls.{Calls, calls_end}
use Rattle.ordered_calls.specs.ShutOut.{zeros, found, three, fork_accepted, ten_accepted}
use Rattle.worked.specs.Instances.{ten_tree, ten_words}

-- a refusal with its number and entry
abbrev pub because : ℕ → ℕ → Refusal
because number entry = record { number = number; entry = record { 0 = entry } }

-- ---- the axis call works

-- the children of 2 in Ten are 3 and 6
child_promise : AxisPromise ten (2 ∷ []) 1 0 0 (99 ∷ 99 ∷ []) (Ok 2) (3 ∷ 6 ∷ [])
unfolding run turn_within length_fault in_range step_of close_of nameless second_root accepted cell
    up_to some rises within met parent_of ancestor_or_self whole_before sibling_before on_axis passes chosen pth kept after_check arguments_fine room_for axis_within
child_promise = record { told = refl; left = refl }

-- the call answered, so the list, the contexts, the axis and the room are as asked
pub ten_works : Works ten (2 ∷ []) 1 0 0 (99 ∷ 99 ∷ [])
ten_works = (axis_works_exactly ten ten_words (2 ∷ []) 1 0 0 (99 ∷ 99 ∷ []) (Ok 2) (3 ∷ 6 ∷ []) child_promise).sound 2 refl

-- they are as asked, so whatever keeps the promise answers
pub ten_answers : (r : Written) (after : List ℕ) → AxisPromise ten (2 ∷ []) 1 0 0 (99 ∷ 99 ∷ []) r after → (k : ℕ) × (r ≡ Ok k)
ten_answers r after h = (axis_works_exactly ten ten_words (2 ∷ []) 1 0 0 (99 ∷ 99 ∷ []) r after h).complete ten_works

-- ---- the axis call refuses

-- eight numbers of 16 bits
pub two_words : Words two_roots
unfolding small
two_words = small_words two_roots refl

-- the entries of two roots
pub faulty_promise : AxisPromise two_roots (1 ∷ []) 0 0 0 [] (Err (because 4 2)) []
unfolding run turn_within length_fault in_range step_of close_of nameless second_root accepted cell after_check
faulty_promise = record { told = refl; left = refl }

-- an axis of 11
pub axis_promise : AxisPromise ten (2 ∷ []) 11 0 0 (99 ∷ []) (Err (because 8 0)) (axis_answer ten (2 ∷ []) 11 0 0 (99 ∷ [])).room
unfolding run turn_within length_fault in_range step_of close_of nameless second_root accepted cell after_check arguments_fine axis_within
axis_promise = record { told = refl; left = refl }

-- the two children of 2, and a room of nothing
pub room_promise : AxisPromise ten (2 ∷ []) 1 0 0 [] (Err (because 10 0)) []
unfolding run turn_within length_fault in_range step_of close_of nameless second_root accepted cell
    up_to some rises within met parent_of ancestor_or_self whole_before sibling_before on_axis passes chosen pth kept after_check arguments_fine room_for axis_within
room_promise = record { told = refl; left = refl }

-- the check's number and entry
pub faulty_number : Refusing two_roots two_words (1 ∷ []) 0 0 0 [] (Err (because 4 2)) [] faulty_promise (because 4 2)
faulty_number = refused_number two_roots two_words (1 ∷ []) 0 0 0 [] (Err (because 4 2)) [] faulty_promise (because 4 2) refl

-- 8 and no entry
pub axis_number :
    Refusing ten ten_words (2 ∷ []) 11 0 0 (99 ∷ []) (Err (because 8 0)) (axis_answer ten (2 ∷ []) 11 0 0 (99 ∷ [])).room axis_promise (because 8 0)
axis_number =
    refused_number ten ten_words (2 ∷ []) 11 0 0 (99 ∷ []) (Err (because 8 0)) (axis_answer ten (2 ∷ []) 11 0 0 (99 ∷ [])).room axis_promise
    (because 8 0) refl

-- 10 and no entry
pub room_number : Refusing ten ten_words (2 ∷ []) 1 0 0 [] (Err (because 10 0)) [] room_promise (because 10 0)
room_number = refused_number ten ten_words (2 ∷ []) 1 0 0 [] (Err (because 10 0)) [] room_promise (because 10 0) refl

-- the refused call leaves the room as it was
pub axis_unwritten : (axis_answer ten (2 ∷ []) 11 0 0 (99 ∷ [])).room ≡ 99 ∷ []
axis_unwritten =
    refused_writes_nothing ten (2 ∷ []) 11 0 0 (99 ∷ []) (because 8 0) (axis_answer ten (2 ∷ []) 11 0 0 (99 ∷ [])).room axis_promise

-- ---- contexts

-- 2 and 7 lie within Ten's ten elements
contexts_within : within (size (whole ten_tree)) (2 ∷ 7 ∷ []) ≡ true
unfolding within
contexts_within = refl

-- and ascend
contexts_rise : rises (2 ∷ 7 ∷ []) ≡ true
unfolding rises
contexts_rise = refl

-- so they are elements in document order
pub ten_contexts : (xs : List (Node (whole ten_tree))) × InOrder xs × (map pre xs ≡ 2 ∷ 7 ∷ [])
ten_contexts = contexts_are_elements (whole ten_tree) (2 ∷ 7 ∷ []) contexts_within contexts_rise

-- ---- block and block_place

-- 2 and the four elements below it are 20 numbers, after the first 4
place_promise : PlacePromise ten 2 (Ok (4, 20))
unfolding run turn_within length_fault in_range step_of close_of nameless second_root accepted cell after_check is_rank place_within
place_promise = refl

-- block hands back those numbers
block_promise : BlockPromise ten 2 (take 20 (drop 4 ten))
unfolding run turn_within length_fault in_range step_of close_of nameless second_root accepted cell after_check is_rank place_within
block_promise = refl

-- so block is not empty, and is the part at the place that block_place tells
pub ten_block_placed : BlockAndPlace ten (Ok (4, 20)) (take 20 (drop 4 ten))
ten_block_placed = block_and_place ten 2 (Ok (4, 20)) (take 20 (drop 4 ten)) place_promise block_promise

-- the rank 0 is of no element
nowhere_promise : PlacePromise ten 0 (Err (because 8 0))
unfolding run turn_within length_fault in_range step_of close_of nameless second_root accepted cell after_check is_rank place_within
nowhere_promise = refl

-- and block hands back nothing for it
nothing_promise : BlockPromise ten 0 []
unfolding run turn_within length_fault in_range step_of close_of nameless second_root accepted cell after_check is_rank place_within
nothing_promise = refl

-- so block is empty, and block_place refuses
pub ten_block_refused : BlockAndPlace ten (Err (because 8 0)) []
ten_block_refused = block_and_place ten 0 (Err (because 8 0)) [] nowhere_promise nothing_promise

-- ---- the ordered call, its refusals in their order

-- a twig with a wrong post
twig_refused : WholePromise Kind.Twig wrong_post (Err (because 5 2))
unfolding run turn_within length_fault in_range step_of close_of nameless second_root accepted cell
twig_refused = refl

-- a signature of two roots
data_refused : WholePromise Kind.Data two_roots (Err (because 4 2))
unfolding run turn_within length_fault in_range step_of close_of nameless second_root accepted cell
data_refused = refl

-- a twig of one node
single_accepted : Accepts Kind.Twig single
unfolding run turn_within length_fault in_range step_of close_of nameless second_root accepted cell
single_accepted = refl

-- 11 is over Ten's 10
over_unfit : tuple_fits (entries ten) (entries (fork 8 9 10)) (0 ∷ 0 ∷ 11 ∷ []) ≡ false
unfolding tuple_fits all_up_to
over_unfit = refl

-- what the call says of the faulty twig
twig_promise : OrderedPromise two_roots wrong_post [] three (Err (because 5 2)) (ordered_of two_roots wrong_post [] three).room
unfolding run turn_within length_fault in_range step_of close_of nameless second_root accepted cell judged_of ordered_of
twig_promise = record { told = refl; left = refl }

-- what it says of the faulty signature
data_promise : OrderedPromise two_roots single [] three (Err (because 4 2)) (ordered_of two_roots single [] three).room
unfolding run turn_within length_fault in_range step_of close_of nameless second_root accepted cell judged_of ordered_of
data_promise = record { told = refl; left = refl }

-- what it says of a number over 10
tuple_promise : OrderedPromise ten (fork 8 9 10) (0 ∷ 0 ∷ 11 ∷ []) (7 ∷ []) (Err (because 8 0)) (ordered_of ten (fork 8 9 10) (0 ∷ 0 ∷ 11 ∷ []) (7 ∷ [])).room
unfolding run turn_within length_fault in_range step_of close_of nameless second_root accepted cell all_up_to tuple_fits judged_of ordered_of
tuple_promise = record { told = refl; left = refl }

-- the twig's fault comes before the signature's and the tuple's
pub twig_first : (answered (Err (because 5 2)) ≡ refused_as 5 2) × ((ordered_of two_roots wrong_post [] three).room ≡ three)
twig_first =
    fault_twig two_roots wrong_post [] three (Err (because 5 2)) (ordered_of two_roots wrong_post [] three).room twig_promise (because 5 2) twig_refused

-- the signature's fault comes before the tuple's
pub data_next : (answered (Err (because 4 2)) ≡ refused_as 4 2) × ((ordered_of two_roots single [] three).room ≡ three)
data_next =
    fault_data two_roots single [] three (Err (because 4 2)) (ordered_of two_roots single [] three).room data_promise (because 4 2) single_accepted
    data_refused

-- the tuple's fault comes before the room's
pub tuple_last : (answered (Err (because 8 0)) ≡ refused_as 8 0) × ((ordered_of ten (fork 8 9 10) (0 ∷ 0 ∷ 11 ∷ []) (7 ∷ [])).room ≡ 7 ∷ [])
tuple_last =
    fault_tuple ten (fork 8 9 10) (0 ∷ 0 ∷ 11 ∷ []) (7 ∷ []) (Err (because 8 0)) (ordered_of ten (fork 8 9 10) (0 ∷ 0 ∷ 11 ∷ []) (7 ∷ [])).room
    tuple_promise fork_accepted ten_accepted over_unfit

-- ---- the ordered call, where it writes nothing, and where the calls end

-- no answer comes after 8 9 10
none_promise : OrderedPromise ten (fork 8 9 10) found three (Ok 0) (ordered_of ten (fork 8 9 10) found three).room
unfolding run turn_within length_fault in_range step_of close_of nameless second_root accepted cell passes room_for
    ranks tuples placed_test later_test answer_test smaller_test first_of next_answer flat_map all_up_to tuple_fits judged_of ordered_of
none_promise = record { told = refl; left = refl }

-- so the room stays as it was
pub ordered_unwritten : (ordered_of ten (fork 8 9 10) found three).room ≡ three
ordered_unwritten = writes_nothing ten (fork 8 9 10) found three (Ok 0) (ordered_of ten (fork 8 9 10) found three).room none_promise refl

-- 8 9 10 is the one ordered answer
ten_all : Listing.answers_of (entries ten) (entries_of width ten) (entries (fork 8 9 10)) (entries_of width (fork 8 9 10)) ≡ found ∷ []
unfolding Listing.kept tuples ranks flat_map answer_test later_test placed_test passes cell
ten_all = refl

-- so there is a chain of calls from zeros on that gives it and ends
pub ten_end : Calls ten (fork 8 9 10) zeros (found ∷ [])
ten_end = subst (λ (l : List (List ℕ)). Calls ten (fork 8 9 10) zeros l) ten_all (calls_end ten (fork 8 9 10) fork_accepted ten_accepted)
