-- The cases that the theorems are used on: the four entries with 2(3,4), which no ordered answer has, and Ten with 8(9,10), which one has.
--   full k                       a room of k numbers that nobody cleared
--   four_accepted, ten_accepted  both are accepted
--   four_turn, ten_turn          what a turn that may spend b steps comes to
--   four_no, ten_yes             no after twelve steps, yes after twenty-three
--   four_not, ten_fits             no ordered answer on the four entries, and one on Ten
use Rattle.std.specs.Prelude.{ℕ, ◌≡◌, refl, List, replicate}
use Rattle.std.proofs.Common.{arith}
use Rattle.turns.specs.Turn.{run}
use Rattle.turns.specs.Chains.{one}
use Rattle.trees.specs.Signature.{cell}
use Rattle.trees.specs.Names.{passes}
use Rattle.terms.specs.declared.Stop.{Stop}
use Rattle.terms.specs.Length.{length_fault}
use Rattle.checking.specs.Rule as check
use Rattle.checking.specs.Turn.{turn_within}
use Rattle.checked.specs.Menus.{ten, tarts, fork}
use Rattle.twig_turns.specs.Given.{given_of, ready_for, begun_for}
use Rattle.twig_turns.specs.Grounds.{Accepted}
use Rattle.ordering.specs.Twig.{end_of, child_of, next_of, bad_end}
use Rattle.ordering.specs.Table.{index, ends_in, stands_in, one_of}
use Rattle.fits_rows.specs.Fitting.{place_fits, in_range, is_yes, goes_on, fit_step}
use Rattle.fits.specs.FitTurn.{fit_turn_of}
use Rattle.fits_laws.specs.Questions.{FitBack, reading, begins, FitTurns, Fits, FitsNot}
use Rattle.fits_laws.specs.Public.{back_of, back_handed}
use Rattle.fits_laws.specs.Exactly.{fits_exactly}

-- a room that nobody cleared
abbrev pub full : ℕ → List ℕ
full k = replicate k 65535

pub four_accepted : Accepted tarts (fork 2 3 4)
unfolding run turn_within length_fault check.in_range check.step_of check.close_of check.nameless check.second_root check.accepted cell
four_accepted = record { data_tree = refl; twig = refl }

pub ten_accepted : Accepted ten (fork 8 9 10)
unfolding run turn_within length_fault check.in_range check.step_of check.close_of check.nameless check.second_root check.accepted cell
ten_accepted = record { data_tree = refl; twig = refl }

-- a turn of b steps from the fresh state
abbrev pub four_turn : ℕ → FitBack
four_turn b = back_of (fit_turn_of tarts (fork 2 3 4) b (reading (begins tarts (fork 2 3 4) (full 12))))

abbrev pub ten_turn : ℕ → FitBack
ten_turn b = back_of (fit_turn_of ten (fork 8 9 10) b (reading (begins ten (fork 8 9 10) (full 30))))

-- which is a chain of one public turn
pub four_chain : (b : ℕ) → FitTurns tarts (fork 2 3 4) (begins tarts (fork 2 3 4) (full 12)) b (four_turn b).turn.steps (four_turn b)
four_chain b = one (back_handed (fit_turn_of tarts (fork 2 3 4) b (reading (begins tarts (fork 2 3 4) (full 12)))))

pub ten_chain : (b : ℕ) → FitTurns ten (fork 8 9 10) (begins ten (fork 8 9 10) (full 30)) b (ten_turn b).turn.steps (ten_turn b)
ten_chain b = one (back_handed (fit_turn_of ten (fork 8 9 10) b (reading (begins ten (fork 8 9 10) (full 30)))))

-- "2(3,4) on the four entries: no, 12, (1,1,2)"
pub four_no : ((four_turn 12).turn.stop ≡ Stop.End) × ((four_turn 12).turn.steps ≡ 12)
unfolding run turn_within length_fault check.in_range check.step_of check.close_of check.nameless check.second_root check.accepted cell passes given_of ready_for begun_for
    end_of child_of next_of index ends_in stands_in one_of place_fits in_range bad_end is_yes goes_on fit_step
four_no = (refl, refl)

-- "8(9,10) on Ten: yes, 23, (1,8,1)"
pub ten_yes : ((ten_turn 23).turn.stop ≡ Stop.Answer) × ((ten_turn 23).turn.steps ≡ 23)
unfolding run turn_within length_fault check.in_range check.step_of check.close_of check.nameless check.second_root check.accepted cell passes given_of ready_for begun_for
    end_of child_of next_of index ends_in stands_in one_of place_fits in_range bad_end is_yes goes_on fit_step
ten_yes = (refl, refl)

pub four_not : FitsNot tarts (fork 2 3 4)
four_not = (fits_exactly tarts (fork 2 3 4) four_accepted (full 12) (omega arith) (four_chain 12)).no_sound four_no.0

pub ten_fits : Fits ten (fork 8 9 10)
ten_fits = (fits_exactly ten (fork 8 9 10) ten_accepted (full 30) (omega arith) (ten_chain 23)).yes_sound ten_yes.0
