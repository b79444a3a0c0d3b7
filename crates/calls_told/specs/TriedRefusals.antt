-- Each law of the numbers returned, used once on a tree of document 01: no premise is empty.
--   read_numbers, write_numbers, tags_numbers, back_numbers, check_numbers_law, level_numbers, place_numbers, axis_numbers   a number that is never returned
--   ordered_numbers, fits_numbers, start_numbers, prepare_numbers_law, walk_numbers_law   the same
--   read_ten, write_ten, tags_ten, back_ten, axis_ten, ordered_ten, fits_ten   a room that is too short by one
--   start_ten, prepare_ten, walk_ten   a table that is too short by one
use Rattle.std.specs.Prelude.{ℕ, ◌≡◌, refl, true, length, replicate}
use mathlib.Core.List.{List, [], ◌∷◌, flat_map}
use Rattle.std.proofs.Common.{arith}
use Rattle.turns.specs.Turn.{run}
use Rattle.trees.specs.Names.{passes}
use Rattle.trees.specs.Signature.{cell, entries_of, width, entries}
use Rattle.trees.specs.Tags.{tags_of, opened, closed, rows_of, one_tree, tree_of}
use Rattle.terms.specs.declared.Kind.{Kind}
use Rattle.checking.specs.Rule as check
use Rattle.checking.specs.Turn.{turn_within}
use Rattle.terms.specs.Length.{length_fault}
use Rattle.checking.specs.Whole.{whole_of}
use Rattle.checked.specs.Menus.{ten, five, single, two_roots, wrong_post, wrong_ff, tarts, fork, pair}
use Rattle.checked.specs.Refusals.{one_not}
use Rattle.xpath.specs.Axes.{on_axis, chosen, kept}
use Rattle.xpath.specs.Select.{up_to, some, rises, within}
use Rattle.bytes_read.specs.Bytes.{marked}
use Rattle.bytes_read.specs.Scans.{step_by, halt_number}
use Rattle.records.specs.Records.{record_fault, records_end, records_scan, numbers_from, bytes_from, nameless_from, write_fault}
use Rattle.tag_scan.specs.TagLists.{tag_bytes, closed_with, nameless_at, misnested, tag_fault, tag_next, tree_end, tree_scan, tags_from, numbers_in}
use Rattle.tag_writing.specs.TagsBack.{row_from, back_bytes}
use Rattle.marks.specs.Axis.{arguments_fine, answer_in}
use Rattle.ordering.specs.Next.{ranks, tuples, placed_test, later_test, answer_test, smaller_test, first_of, next_answer}
use Rattle.ordered_given.specs.Judged.{all_up_to, tuple_fits}
use Rattle.twig_turns.specs.Given.{given_of}
use Rattle.preparing.specs.Masks.{every}
use Rattle.walk_ranges.specs.Ranges.{image, image_fits, phase_fits}
use Rattle.fits_rows.specs.declared.Stage.{Stage}
use Rattle.fits_rows.specs.Fitting as rule
use Rattle.fits_rows.specs.Fitting.{place_fits}
use Rattle.fits.specs.FitTurn.{fit_fits}
use Rattle.walking.specs.Walking.{fresh, in_range}
use Rattle.walking.specs.WalkTurn.{walk_fits}
use Rattle.telling.specs.Walk.{walk_of, walk_numbers}
use Rattle.record_calls.specs.Records.{ReadNumbers, WriteNumbers, TagsNumbers, BackNumbers}
use Rattle.signature_calls.specs.Check.{CheckTurnPromise}
use Rattle.signature_calls.specs.Axes.{LevelNumbers, PlaceNumbers, AxisNumbers}
use Rattle.twig_calls.specs.Fits.{FitsTurnPromise}
use Rattle.twig_calls.specs.Ordered.{OrderedNumbers}
use Rattle.twig_calls.specs.Prepare.{StartNumbers, PrepareTurnPromise}
use Rattle.twig_calls.specs.Walk.{WalkTurnPromise}
use Rattle.calls_told.specs.Refusals as told
use Rattle.calls_told.specs.Refusals.{tags_give, back_gives, check_gives, rank_gives, answer_gives, turn_gives}
use Rattle.calls_told.specs.Tens as tens

-- the record and the tag list of the one entry 7,1,2,0
abbrev record_bytes : List ℕ
record_bytes = 83 ∷ 69 ∷ 7 ∷ 0 ∷ 1 ∷ 0 ∷ 2 ∷ 0 ∷ 0 ∷ 0 ∷ []

abbrev seven_tags : List ℕ
seven_tags = 79 ∷ 80 ∷ 7 ∷ 0 ∷ 67 ∷ 76 ∷ []

-- ---- numbers that are never returned

module _ (room : List ℕ) (r : ℕ) (after out : List ℕ) where
  pub read_numbers : ReadNumbers record_bytes room r after out → r ≡ 12 → ⊥
  read_numbers p = one_not (0 ∷ 1 ∷ 2 ∷ 3 ∷ 7 ∷ 10 ∷ []) r 12 (told.read_numbers room r after out record_bytes p) refl

  pub write_numbers : WriteNumbers wrong_post room r after out → r ≡ 5 → ⊥
  write_numbers p = one_not (0 ∷ 1 ∷ 3 ∷ 7 ∷ 10 ∷ []) r 5 (told.write_numbers room r after out wrong_post p) refl

  -- as a twig: name 0 is no fault of one
  pub tags_numbers : TagsNumbers 1 seven_tags room r after out → r ≡ 3 → ⊥
  tags_numbers p = one_not (tags_give Kind.Twig) r 3 (told.tags_numbers room r after out 1 seven_tags p) refl

  pub back_numbers : BackNumbers 0 two_roots room r after out → r ≡ 9 → ⊥
  back_numbers p = one_not (back_gives Kind.Data) r 9 (told.back_numbers room r after out 0 two_roots p) refl

  pub axis_numbers : AxisNumbers ten (6 ∷ []) 8 0 0 room r after out → r ≡ 9 → ⊥
  axis_numbers p = one_not answer_gives r 9 (told.axis_numbers ten (6 ∷ []) 8 0 0 room r after out p) refl

  pub ordered_numbers : OrderedNumbers tarts (fork 2 3 4) (replicate 3 0) room r after out → r ≡ 9 → ⊥
  ordered_numbers p = one_not answer_gives r 9 (told.ordered_numbers tarts (fork 2 3 4) (replicate 3 0) room r after out p) refl

  pub start_numbers : StartNumbers 5 room r after out → r ≡ 9 → ⊥
  start_numbers p = one_not (0 ∷ 1 ∷ 7 ∷ 10 ∷ []) r 9 (told.start_numbers 5 room r after out p) refl

pub check_numbers_law : (b r : ℕ) (left out : List ℕ) → CheckTurnPromise 0 wrong_ff b (1 ∷ 0 ∷ 0 ∷ []) r left out → r ≡ 8 → ⊥
check_numbers_law b r left out p = one_not (check_gives Kind.Data) r 8 (told.check_numbers_law 0 wrong_ff b (1 ∷ 0 ∷ 0 ∷ []) r left out p) refl

pub level_numbers : (r : ℕ) (out : List ℕ) → LevelNumbers wrong_post 1 r out → r ≡ 9 → ⊥
level_numbers r out p = one_not rank_gives r 9 (told.level_numbers wrong_post 1 r out p) refl

pub place_numbers : (r : ℕ) (out : List ℕ) → PlaceNumbers wrong_ff 1 r out → r ≡ 9 → ⊥
place_numbers r out p = one_not rank_gives r 9 (told.place_numbers wrong_ff 1 r out p) refl

module _ (table l : List ℕ) (b r : ℕ) (state out : List ℕ) where
  pub fits_numbers : (after : List ℕ) → FitsTurnPromise five pair table l b r after state out → r ≡ 3 → ⊥
  fits_numbers after p = one_not turn_gives r 3 (told.fits_numbers five pair table l b r after state out p) refl

  pub prepare_numbers_law : (after : List ℕ) → PrepareTurnPromise five pair table l b r after state out → r ≡ 3 → ⊥
  prepare_numbers_law after p = one_not turn_gives r 3 (told.prepare_numbers_law five pair table l b r after state out p) refl

  pub walk_numbers_law : WalkTurnPromise five pair table l b r state out → r ≡ 3 → ⊥
  walk_numbers_law p = one_not turn_gives r 3 (told.walk_numbers_law five pair table l b r state out p) refl

-- ---- too short by one: the one entry, as signature and as twig

bytes_read : halt_number (records_scan record_bytes).halt ≡ 0
unfolding run step_by record_fault records_end marked
bytes_read = refl

bytes_numbers : length (numbers_from record_bytes 0 (records_scan record_bytes).state.count) ≡ 4
unfolding run step_by record_fault records_end marked numbers_from
bytes_numbers = refl

single_fine : write_fault single ≡ 0
unfolding write_fault length_fault nameless_from
single_fine = refl

single_record_law : length (bytes_from single 0 (entries single)) ≡ 10
unfolding bytes_from
single_record_law = refl

tags_read : halt_number (tree_scan true true 16 seven_tags 0).halt ≡ 0
unfolding run step_by tag_fault tag_next tree_end marked closed_with nameless_at misnested
tags_read = refl

tag_numbers : length (numbers_in seven_tags 0 (tree_scan true true 16 seven_tags 0).state.count) ≡ 4
unfolding run step_by tag_fault tag_next tree_end marked closed_with nameless_at misnested tags_from opened closed rows_of one_tree tree_of
tag_numbers = refl

single_accepted : ((whole_of Kind.Data single).reason ≡ 1) × ((whole_of Kind.Twig single).reason ≡ 1)
unfolding run turn_within length_fault check.in_range check.step_of check.close_of check.nameless check.second_root check.accepted cell
single_accepted = (refl, refl)

single_bytes : length (back_bytes single) ≡ 6
unfolding row_from tags_of tag_bytes cell
single_bytes = refl

module _ (r : ℕ) (after out : List ℕ) where
  pub read_ten : ReadNumbers record_bytes (replicate 3 0) r after out → r ≡ 10
  read_ten p = (tens.read_ten (replicate 3 0) r after out record_bytes p).given bytes_read (omega (arith, bytes_numbers))

  pub write_ten : WriteNumbers single (replicate 9 0) r after out → r ≡ 10
  write_ten p = (tens.write_ten (replicate 9 0) r after out single p).given single_fine (omega (arith, single_record_law))

  pub tags_ten : TagsNumbers 1 seven_tags (replicate 3 0) r after out → r ≡ 10
  tags_ten p = (tens.tags_ten (replicate 3 0) r after out 1 seven_tags p).given tags_read (omega (arith, tag_numbers))

  pub back_ten : BackNumbers 0 single (replicate 5 0) r after out → r ≡ 10
  back_ten p = (tens.back_ten (replicate 5 0) r after out 0 single p).1 (single_accepted.0, omega (arith, single_bytes))

self_fine : arguments_fine 0 (entries single) (1 ∷ []) ≡ true
unfolding arguments_fine within rises
self_fine = refl

self_answer : length (answer_in single (1 ∷ []) 0 0 0) ≡ 1
unfolding up_to some kept chosen on_axis passes
self_answer = refl

zero_fits : tuple_fits (entries single) (entries single) (0 ∷ []) ≡ true
unfolding tuple_fits all_up_to
zero_fits = refl

single_answer : length (next_answer (entries single) (entries_of width single) (entries single) (entries_of width single) (0 ∷ [])) ≡ 1
unfolding next_answer first_of tuples ranks flat_map answer_test later_test placed_test smaller_test passes cell
single_answer = refl

module _ (r : ℕ) (after out : List ℕ) where
  pub axis_ten : AxisNumbers single (1 ∷ []) 0 0 0 [] r after out → r ≡ 10
  axis_ten p = (tens.axis_ten single (1 ∷ []) 0 0 0 [] r after out p).1 (single_accepted.0, self_fine, omega (arith, self_answer))

  pub ordered_ten : OrderedNumbers single single (0 ∷ []) [] r after out → r ≡ 10
  ordered_ten p =
      (tens.ordered_ten single single (0 ∷ []) [] r after out p).1
      (single_accepted.1, single_accepted.0, zero_fits, omega (arith, single_answer))

  pub start_ten : StartNumbers 1 (0 ∷ []) r after out → r ≡ 10
  start_ten p = (tens.start_ten 1 (0 ∷ []) r after out p).1 (omega arith, omega arith, omega arith)

single_given : (given_of single single).reason ≡ 1
unfolding given_of turn_within length_fault check.in_range run check.step_of check.close_of check.nameless check.second_root check.accepted cell
single_given = refl

single_fresh : walk_fits single single (walk_of (walk_numbers fresh)) ≡ true
unfolding in_range phase_fits image_fits every image cell
single_fresh = refl

single_asking : fit_fits single single (rule.at 1 1 Stage.Asking []) ≡ true
unfolding rule.in_range place_fits
single_asking = refl

pub fits_ten : (b r : ℕ) (after state out : List ℕ) → FitsTurnPromise single single [] (1 ∷ 1 ∷ 0 ∷ []) b r after state out → r ≡ 10
fits_ten b r after state out p = (tens.fits_ten single single [] (1 ∷ 1 ∷ 0 ∷ []) b r after state out p).1 (single_given, single_asking, omega arith)

pub prepare_ten : (b r : ℕ) (after state out : List ℕ) → PrepareTurnPromise single single (0 ∷ []) (1 ∷ []) b r after state out → r ≡ 10
prepare_ten b r after state out p = (tens.prepare_ten single single (0 ∷ []) (1 ∷ []) b r after state out p).1 (single_given, refl, omega arith)

pub walk_ten : (b r : ℕ) (state out : List ℕ) → WalkTurnPromise single single (0 ∷ []) (walk_numbers fresh) b r state out → r ≡ 10
walk_ten b r state out p = (tens.walk_ten single single (0 ∷ []) (walk_numbers fresh) b r state out p).1 (single_given, single_fresh, omega arith)
