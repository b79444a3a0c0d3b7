-- Each theorem of the ordered question with a premise, used once on a case, so that no premise is empty.
--   four_within, ten_count, ten_entry   steps on the four entries and on Ten, and where the root stands
--   ten_once                            a room of zeros and one of 65535 tell the same
--   ten_map, four_map                   in the trees' words
--   ten_agrees, four_agrees             beside the ordered call
--   ten_cut, ten_kept                   cut after 22 steps, and with more to spend than it takes
--   ten_stays                           yes is told again
--   ten_range, ten_count_one            the state handed back is in range, and one count joins two states
--   four_altered                        over rooms that anybody alters
--   five_fault                          Five with an ff past its end, met by the second step
use Rattle.std.specs.Prelude.{ℕ, ◌+◌, ◌≤◌, ◌≡◌, refl, true, List, [], ◌∷◌, length, replicate, Ok}
use Rattle.std.proofs.Common.{ap, sym, ◌∙◌, arith}
use Rattle.turns.specs.Turn.{Steps, run}
use Rattle.turns.specs.Laws.{after, AtFault}
use Rattle.turns.specs.Chains.{one}
use Rattle.trees.specs.Signature.{cell}
use Rattle.trees.specs.Names.{passes}
use Rattle.walks.specs.Image.{image}
use Rattle.terms.specs.declared.Stop.{Stop}
use Rattle.terms.specs.Length.{length_fault}
use Rattle.checking.specs.Rule as check
use Rattle.checking.specs.Turn.{turn_within}
use Rattle.checked.specs.Menus.{ten, tarts, fork, pair}
use Rattle.twig_turns.specs.Given.{given_of, ready_for, begun_for}
use Rattle.twig_turns.specs.Grounds.{accepted_grounds}
use Rattle.ordering.specs.Twig.{end_of, child_of, next_of, bad_end}
use Rattle.ordering.specs.Table.{index, ends_in, stands_in, one_of}
use Rattle.ordered.specs.Promise.{OrderedPromise}
use Rattle.fits_rows.specs.declared.Stage.{Stage}
use Rattle.fits_rows.specs.Fitting.{Fitting, told, place_fits, in_range, is_yes, goes_on, fit_step}
use Rattle.fits_rows.specs.FittingLaws.{ranged_facts}
use Rattle.fits.specs.declared.Fit.{Fit}
use Rattle.fits.specs.FitTurn.{fit_at, fresh_of, fitting, fit_fits, fit_turn_of, FitPromise}
use Rattle.fits_laws.specs.Questions.{FitBack, reading, begins, FitTurns, Answers}
use Rattle.fits_laws.specs.Public as public
use Rattle.fits_laws.specs.Public.{back_of, back_handed, turned_of, step}
use Rattle.fits_laws.specs.Chained.{Altered, altered_within}
use Rattle.fits_laws.specs.Exactly.{fits_within, fits_count, yes_entry}
use Rattle.fits_laws.specs.Beside.{Mapped, fits_maps, fits_agrees}
use Rattle.fits_laws.specs.Once.{Same, fits_once}
use Rattle.fits_laws.specs.Cases.{full, four_accepted, ten_accepted, ten_turn, four_chain, ten_chain, four_no, ten_yes}
use Rattle.terms.specs.declared.Turn.{Turn}
use Rattle.terms.specs.Stops.{Written}

-- ---- steps, and where the root stands

pub four_within : {B K : ℕ} {r : FitBack} → FitTurns tarts (fork 2 3 4) (begins tarts (fork 2 3 4) (full 12)) B K r → K ≤ 12
four_within c = (fits_within tarts (fork 2 3 4) four_accepted (full 12) (omega arith) c).0

-- the state after 8(9,10) on Ten is (1,8,1)
ten_state : (ten_turn 23).turn.state ≡ fit_at 1 8 Stage.Yes
unfolding run turn_within length_fault check.in_range check.step_of check.close_of check.nameless check.second_root check.accepted cell passes given_of ready_for begun_for
    end_of child_of next_of index ends_in stands_in one_of place_fits in_range bad_end is_yes goes_on fit_step
ten_state = refl

pub ten_count : (ten_turn 23).turn.steps + (ten_turn 23).turn.state.entry.0 ≡ 31
ten_count = (fits_count ten (fork 8 9 10) ten_accepted (full 30) (omega arith) (ten_chain 23)).0 (ap (λ (f : Fit). f.stage) ten_state)

-- no ordered answer has its root later than entry 8
pub ten_entry : (xs : List ℕ) → Answers ten (fork 8 9 10) xs → image xs 1 ≤ (ten_turn 23).turn.state.entry.0
ten_entry xs a = (yes_entry ten (fork 8 9 10) ten_accepted (full 30) (omega arith) (ten_chain 23) ten_yes.0).none_later xs a

-- ---- whatever the room held

-- the same turn in a room of zeros
abbrev ten_zeros : FitBack
ten_zeros = back_of (fit_turn_of ten (fork 8 9 10) 23 (reading (begins ten (fork 8 9 10) (replicate 30 0))))

zeros_yes : ten_zeros.turn.stop ≡ Stop.Answer
unfolding run turn_within length_fault check.in_range check.step_of check.close_of check.nameless check.second_root check.accepted cell passes given_of ready_for begun_for
    end_of child_of next_of index ends_in stands_in one_of place_fits in_range bad_end is_yes goes_on fit_step
zeros_yes = refl

no_budget : {x : Stop} → x ≡ Stop.Answer → x ≡ Stop.Budget → ⊥
no_budget a b = let q = sym a ∙ b in let z : ◌≡◌ {A = ℕ} 0 1 = cc in omega arith

pub ten_once : Same ten (fork 8 9 10) ten_accepted 23 23 (ten_turn 23) ten_zeros
ten_once =
    let e : Same ten (fork 8 9 10) ten_accepted (ten_turn 23).turn.steps ten_zeros.turn.steps (ten_turn 23) ten_zeros
    = fits_once ten (fork 8 9 10) ten_accepted (full 30) (replicate 30 0) (omega arith) (omega arith) (ten_chain 23)
    (one {b = 23} (back_handed (fit_turn_of ten (fork 8 9 10) 23 (reading (begins ten (fork 8 9 10) (replicate 30 0))))))
    (no_budget ten_yes.0) (no_budget zeros_yes) in
    record { steps = refl; state = e.state; stop = e.stop }

-- ---- in the trees' words, and beside the ordered call

pub ten_map : Mapped ten (fork 8 9 10) ten_accepted (full 30) (omega arith) (ten_chain 23)
ten_map = (fits_maps ten (fork 8 9 10) ten_accepted (full 30) (omega arith) (ten_chain 23)).yes_map ten_yes.0

pub four_map : Mapped tarts (fork 2 3 4) four_accepted (full 12) (omega arith) (four_chain 12) → ⊥
four_map = (fits_maps tarts (fork 2 3 4) four_accepted (full 12) (omega arith) (four_chain 12)).no_map four_no.0

pub ten_agrees : (a : Written) (left : List ℕ) → OrderedPromise ten (fork 8 9 10) (replicate 3 0) (full 3) a left → a ≡ Ok 3
ten_agrees a left p =
    (fits_agrees ten (fork 8 9 10) ten_accepted (full 30) (omega arith) (ten_chain 23) (full 3) (omega arith) a left p).yes_gives ten_yes.0

pub four_agrees : (a : Written) (left : List ℕ) → OrderedPromise tarts (fork 2 3 4) (replicate 3 0) (full 3) a left → a ≡ Ok 0
four_agrees a left p =
    (fits_agrees tarts (fork 2 3 4) four_accepted (full 12) (omega arith) (four_chain 12) (full 3) (omega arith) a left p).no_gives four_no.0

-- ---- cut, kept and told again

-- 22 steps of the question on Ten leave it asking at (1,8)
ten_spent : ((ten_turn 22).turn.stop ≡ Stop.Budget) × ((ten_turn 22).turn.state ≡ fit_at 1 8 Stage.Asking)
unfolding run turn_within length_fault check.in_range check.step_of check.close_of check.nameless check.second_root check.accepted cell passes given_of ready_for begun_for
    end_of child_of next_of index ends_in stands_in one_of place_fits in_range bad_end is_yes goes_on fit_step
ten_spent = (refl, refl)

-- whatever turn of one step comes next, with it they are the turn of 23
pub ten_cut : (y : Turn Fit) (last : List ℕ) → FitPromise ten (fork 8 9 10) (ten_turn 22).left 1 (ten_turn 22).turn.state y last
    → turned_of (ten_turn 23).turn (ten_turn 23).left ≡ after Fitting told (step ten (fork 8 9 10)) 22 (turned_of y last)
ten_cut y last q =
    public.cut_anywhere ten (fork 8 9 10) 22 1 (full 30) (fresh_of 3 10) (ten_turn 22).turn (ten_turn 23).turn (ten_turn 22).left (ten_turn 23).left
    (back_handed (fit_turn_of ten (fork 8 9 10) 22 (reading (begins ten (fork 8 9 10) (full 30)))))
    (back_handed (fit_turn_of ten (fork 8 9 10) 23 (reading (begins ten (fork 8 9 10) (full 30))))) y last ten_spent.0 q

-- with more to spend nothing changes
pub ten_kept : (b : ℕ) (r : Turn Fit) (left : List ℕ) → FitPromise ten (fork 8 9 10) (full 30) (23 + b) (fresh_of 3 10) r left
    → turned_of r left ≡ turned_of (ten_turn 23).turn (ten_turn 23).left
ten_kept b r left o =
    public.cut_kept ten (fork 8 9 10) 23 b (full 30) (fresh_of 3 10) (ten_turn 23).turn r (ten_turn 23).left left
    (back_handed (fit_turn_of ten (fork 8 9 10) 23 (reading (begins ten (fork 8 9 10) (full 30))))) o (no_budget ten_yes.0)

ten_good : (l : List ℕ) → 30 ≤ length l → public.Good ten (fork 8 9 10) (fitting (fit_at 1 8 Stage.Yes) l)
ten_good l h = record {
  given = (accepted_grounds ten (fork 8 9 10) ten_accepted).given;
  in_range = record { node_low = omega arith; node_high = omega arith; entry_low = omega arith; entry_high = omega arith; stage_fits_law = refl };
  room = h;
}

-- "a question at yes […] reports the same again for every budget"
pub ten_stays : (b : ℕ) (l : List ℕ) → 30 ≤ length l → (r : Turn Fit) (left : List ℕ) → FitPromise ten (fork 8 9 10) l b (fit_at 1 8 Stage.Yes) r left
    → r.stop ≡ Stop.Answer
ten_stays b l h r left p = (public.told_stays ten (fork 8 9 10) l b (fit_at 1 8 Stage.Yes) r left p (ten_good l h) refl).2

-- ---- ranges and counts

ten_fresh_law : fit_fits ten (fork 8 9 10) (fitting (fresh_of 3 10) (full 30)) ≡ true
unfolding in_range place_fits
ten_fresh_law = refl

module _ (b : ℕ) (r : Turn Fit) (left : List ℕ) (p : FitPromise ten (fork 8 9 10) (full 30) b (fresh_of 3 10) r left) where
  pub ten_range : fit_fits ten (fork 8 9 10) (fitting r.state left) ≡ true
  ten_range = public.handed_back_in_range ten (fork 8 9 10) (full 30) b (fresh_of 3 10) r left p ten_fresh_law

  pub ten_count_one : (j : ℕ) → Steps Fitting told (step ten (fork 8 9 10)) j (fitting (fresh_of 3 10) (full 30)) (fitting r.state left) → r.steps ≡ j
  ten_count_one j m =
      public.count_unique ten (fork 8 9 10) (ranged_facts 10 3 (fitting (fresh_of 3 10) (full 30)) ten_fresh_law)
      (public.step_as_written ten (fork 8 9 10) (full 30) b (fresh_of 3 10) r left p) m

four_fresh_law : fit_fits tarts (fork 2 3 4) (fitting (fresh_of 3 4) []) ≡ true
unfolding in_range place_fits
four_fresh_law = refl

-- twelve numbers are left at first, whoever alters the room
pub four_altered : {B K : ℕ} {r : Turn Fit} → Altered tarts (fork 2 3 4) (fresh_of 3 4) B K r → K ≤ 12
four_altered c = altered_within tarts (fork 2 3 4) c four_fresh_law

-- ---- a fault

-- Five with 7 as the ff of entry 4
abbrev damaged : List ℕ
damaged = 1 ∷ 5 ∷ 6 ∷ 0 ∷ 1 ∷ 1 ∷ 3 ∷ 1 ∷ 1 ∷ 4 ∷ 6 ∷ 1 ∷ 1 ∷ 2 ∷ 7 ∷ 3 ∷ 1 ∷ 3 ∷ 6 ∷ 3 ∷ []

abbrev damaged_turn : FitBack
damaged_turn = back_of (fit_turn_of damaged pair 9 (fitting (fresh_of 2 5) (full 10)))

damaged_refused : damaged_turn.turn.stop ≡ Stop.Refused (record { number = 11; entry = record { 0 = 0 } })
unfolding run turn_within length_fault check.in_range check.step_of check.close_of check.nameless check.second_root check.accepted cell passes given_of ready_for begun_for
    end_of child_of next_of index ends_in stands_in one_of place_fits in_range bad_end is_yes goes_on fit_step
damaged_refused = refl

damaged_good : public.Good damaged pair (fitting (fresh_of 2 5) (full 10))
unfolding run turn_within length_fault check.in_range check.step_of check.close_of check.nameless check.second_root check.accepted cell given_of
damaged_good = record {
  given = refl;
  in_range = record { node_low = omega arith; node_high = omega arith; entry_low = omega arith; entry_high = omega arith; stage_fits_law = refl };
  room = omega arith;
}

-- it stands before the step of entry 4, which the budget would have paid for
pub five_fault : AtFault Fitting told (step damaged pair) 9 (fitting (fresh_of 2 5) (full 10)) (turned_of damaged_turn.turn damaged_turn.left) 11 0
five_fault =
    public.stops_before_the_fault damaged pair (full 10) 9 (fresh_of 2 5) damaged_turn.turn damaged_turn.left
    (back_handed (fit_turn_of damaged pair 9 (fitting (fresh_of 2 5) (full 10)))) damaged_good (record { number = 11; entry = record { 0 = 0 } }) damaged_refused
