-- Document 01's starred cases: one computed statement over one list.
use Rattle.std.specs.Prelude.{◌≡◌, refl}
use mathlib.Core.List.{List, ◌++◌, map, flat_map}
use Rattle.turns.specs.Turn.{run}
use Rattle.trees.specs.Names.{passes}
use Rattle.checking.specs.Rule.{step_of, close_of, accepted, nameless, second_root, in_range}
use Rattle.checking.specs.Turn.{turn_within}
use Rattle.terms.specs.Length.{length_fault}
use Rattle.trees.specs.Signature.{cell}
use Rattle.worked.specs.Case.{Case}
use Rattle.xpath.specs.Select.{up_to, some, rises, within}
use Rattle.xpath.specs.Axes.{met, parent_of, ancestor_or_self, whole_before, sibling_before, on_axis, chosen, pth, kept}
use Rattle.blocks.specs.Checked.{after_check}
use Rattle.terms.specs.Room.{room_for, left_by}
use Rattle.marks.specs.Axis.{arguments_fine, axis_within}
use Rattle.trees.specs.Tags.{tags_of, opened, closed, rows_of, one_tree, tree_of}
use Rattle.bytes_read.specs.Bytes.{marked}
use Rattle.bytes_read.specs.Scans.{step_by}
use Rattle.records.specs.Records.{record_fault, records_end, numbers_from, bytes_from, nameless_from, write_fault}
use Rattle.tag_scan.specs.TagLists.{tag_bytes, closed_with, nameless_at, misnested, tag_fault, tag_next, tree_end, tags_from}
use Rattle.tag_writing.specs.TagsBack.{row_from, back_left}
use Rattle.worked.specs.Check as Check
use Rattle.worked.specs.Axes as Axes
use Rattle.worked.specs.Records as Records
use Rattle.preparing.specs.Masks.{every, has_bit, mask, put}
use Rattle.twig_turns.specs.Given.{given_of, ready_for, begun_for}
use Rattle.preparing.specs.Preparing.{children_in, stands, can_of, bad_parent, written, joined, step_table, prep_step}
use Rattle.preparing.specs.PrepTurn.{cleared, start_fault}
use Rattle.walk_ranges.specs.Ranges.{image, place, image_fits, phase_fits}
use Rattle.walking.specs.Walking.{end_of, bad_end, back, found, walk_on}
use Rattle.walking.specs.Walking.{in_range as walk_range, step_of as walk_step}
use Rattle.ordering.specs.Next.{ranks, tuples, placed_test, later_test, answer_test, smaller_test, first_of, next_answer}
use Rattle.ordered_given.specs.Judged.{all_up_to, tuple_fits, judged_of}
use Rattle.ordered.specs.Promise.{ordered_of}
use Rattle.worked.specs.Ordered as Ordered
use Rattle.worked.specs.Loose as Loose
use Rattle.worked.specs.Loose.{walked, counted}

-- every starred case
abbrev pub cases : List Case
cases = Check.cases ++ Axes.cases ++ Records.cases ++ Loose.cases ++ Ordered.cases

pub starred : map (λ (c : Case). c.got) cases ≡ map (λ (c : Case). c.wanted) cases
unfolding run turn_within length_fault in_range step_of close_of nameless second_root accepted cell
    up_to some rises within met parent_of ancestor_or_self whole_before sibling_before on_axis passes chosen pth kept after_check arguments_fine room_for axis_within
    tags_of opened closed rows_of one_tree tree_of marked step_by left_by record_fault records_end numbers_from bytes_from nameless_from write_fault
    tag_bytes closed_with nameless_at misnested tag_fault tag_next tree_end tags_from row_from back_left
    every has_bit mask put given_of ready_for begun_for children_in stands can_of bad_parent written joined step_table prep_step cleared start_fault
    image place image_fits phase_fits end_of bad_end back found walk_on walk_range walk_step walked counted
    ranks tuples placed_test later_test answer_test smaller_test first_of next_answer flat_map all_up_to tuple_fits judged_of ordered_of
starred = refl
