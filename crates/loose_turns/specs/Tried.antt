-- The laws of every turn, used once each on Five and the twig 1(1) of document 01, so that no premise is empty.
--   five_good          the fresh walk on Five, over any table of ten numbers or more, is one from which turns take steps
--   five_count         whatever count joins the fresh walk and the walk that a turn hands back is the count that the turn returns
--   five_in_range      the walk that a turn hands back is in range
--   five_ready         the state that the start call hands back is one from which turns of preparing take steps
--   five_prep_count    the same of preparing
use Rattle.std.specs.Prelude.{ℕ, ◌≤◌, ◌≡◌, refl, true, List, length}
use Rattle.std.proofs.Common.{arith}
use Rattle.turns.specs.Turn.{Steps, run}
use Rattle.trees.specs.Signature.{cell, entries_of, width}
use Rattle.checking.specs.Rule as check
use Rattle.checking.specs.Turn.{turn_within}
use Rattle.terms.specs.Length.{length_fault}
use Rattle.checked.specs.Menus.{five, pair}
use Rattle.preparing.specs.Masks.{every}
use Rattle.twig_turns.specs.Given.{given_of}
use Rattle.preparing.specs.Preparing.{Preparing, prepared}
use Rattle.preparing.specs.PrepTurn.{PrepPromise, prep_at, preparing}
use Rattle.walking.specs.declared.Walk.{Walk}
use Rattle.walk_ranges.specs.Ranges.{image, image_fits, phase_fits}
use Rattle.walking.specs.Walking.{in_range, fresh, ended}
use Rattle.walking.specs.WalkTurn.{WalkPromise, walk_fits}
use Rattle.walking.proofs.WalkRanges.{range_facts}
use Rattle.loose_turns.specs.Prepared as Prepared
use Rattle.loose_turns.specs.Walked as Walked
use Rattle.terms.specs.declared.Turn.{Turn}
use Rattle.preparing.specs.declared.Prep.{Prep}

five_given : (given_of five pair).reason ≡ 1
unfolding given_of turn_within length_fault check.in_range run check.step_of check.close_of check.nameless check.second_root check.accepted cell
five_given = refl

five_fresh : walk_fits five pair fresh ≡ true
unfolding in_range phase_fits image_fits every image cell
five_fresh = refl

module _ (table : List ℕ) (room : 10 ≤ length table) where
  pub five_good : Walked.Good five pair table fresh
  five_good = record { given = five_given; in_range = range_facts 5 2 (entries_of width pair) fresh refl (omega arith) five_fresh; room = room }

  module _ (b : ℕ) (r : Turn Walk) (p : WalkPromise five pair table b fresh r) where
    pub five_count : (j : ℕ) → Steps Walk ended (Walked.step five pair table) j fresh r.state → r.steps ≡ j
    five_count j m = Walked.count_unique five pair table five_good (Walked.step_as_written five pair table b fresh refl r p) m

    pub five_in_range : walk_fits five pair r.state ≡ true
    five_in_range = Walked.handed_back_in_range five pair table b fresh refl r p five_fresh

  pub five_ready : Prepared.Good five pair (preparing (prep_at 5) table)
  five_ready = record { given = five_given; in_range = omega arith; room = room }

  pub five_prep_count : (b : ℕ) (r : Turn Prep) (left : List ℕ) → PrepPromise five pair table b (prep_at 5) r left
      → (j : ℕ) → Steps Preparing prepared (Prepared.step five pair) j (preparing (prep_at 5) table) (preparing r.state left) → r.steps ≡ j
  five_prep_count b r left p j m = Prepared.count_unique five pair (Prepared.step_as_written five pair table b (prep_at 5) r left p) m
