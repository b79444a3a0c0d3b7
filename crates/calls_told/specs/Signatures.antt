-- A call for the check, a level, a block or an axis on bare numbers returns 0 exactly if it worked; a turn, exactly if it was not refused.
--   check_zero, level_zero, place_zero, axis_zero   the four calls
--   ten_zero, wrong_zero    the level of entry 8 of Ten is returned with 0, and no level of a signature that is refused
--   block_zero, child_zero  and so are the place of its block, and the children of entry 2
--   ended_zero, fault_zero  twenty steps of the check on Ten return 0, and three on the signature that is refused do not
use Rattle.std.specs.Prelude.{ℕ, ◌≡◌, ◌↔◌, Bool, List, [], ◌∷◌, get_or, replicate}
use Rattle.std.proofs.Math.Path.{refl}
use Rattle.std.proofs.Common.{◌∙◌, arith}
use Rattle.std.proofs.Math.Bool.{true, false}
use Rattle.turns.specs.Pick.{pick}
use Rattle.turns.specs.Turn.{Turned, run}
use Rattle.trees.specs.Signature.{cell, entries_of, width, entries}
use Rattle.trees.specs.Names.{passes}
use Rattle.terms.specs.declared.Kind.{Kind}
use Rattle.checking.specs.declared.CheckState.{CheckState}
use Rattle.checking.specs.Rule.{step_of, close_of, accepted, nameless, second_root, in_range}
use Rattle.checking.specs.Turn.{turn_of, turn_within}
use Rattle.terms.specs.Length.{length_fault}
use Rattle.terms.specs.Stops.{halt_told}
use Rattle.terms.specs.Room.{Left, refused_left, room_for}
use Rattle.checking.specs.Whole.{whole_of}
use Rattle.checked.specs.Menus.{ten, wrong_post}
use Rattle.xpath.specs.Select.{up_to, some, rises, within}
use Rattle.xpath.specs.Axes.{level_of, met, parent_of, ancestor_or_self, whole_before, sibling_before, on_axis, chosen, pth, kept}
use Rattle.blocks.specs.Checked.{after_check, is_rank}
use Rattle.blocks.specs.Level.{Leveled, level_worked, level_refused, level_within, level_answer}
use Rattle.blocks.specs.Block.{Placed, block_place, place_refused, place_within, place_answer}
use Rattle.marks.specs.Axis.{arguments_fine, answer_in, axis_within, axis_answer}
use Rattle.terms.specs.Kinds.{kind_of}
use Rattle.telling.specs.States.{check_state_of}
use Rattle.calls_told.specs.Numbered.{ZeroAnswer, halt_zero, check_numbered, by_check, refused_zero, room_zero, left_returns, turn_returns, stop_first}
use Rattle.signature_calls.specs.Check.{CheckTurnPromise}
use Rattle.signature_calls.specs.Axes.{LevelNumbers, PlaceNumbers, AxisNumbers}

pub check_zero : (k : ℕ) (s : List ℕ) (b : ℕ) (l : List ℕ) (r : ℕ) (left out : List ℕ) → CheckTurnPromise k s b l r left out
    → (r ≡ 0) ↔ (get_or out 0 0 ≡ 3 → ⊥)
check_zero k s b l r left out p =
    turn_returns _ _ r out (halt_zero (turn_of (kind_of k) s b (check_state_of l)).halt (check_numbered (kind_of k) s b (check_state_of l))) p.says

-- ---- level and block

-- the number of a level call's answer is 0 exactly if it worked
abbrev ZeroLevel : Leveled → Type 0
ZeroLevel a = (a.number ≡ 0) ↔ (a.refused ≡ 0)

-- the same of the call for a block's place
abbrev ZeroPlace : Placed → Type 0
ZeroPlace a = (a.number ≡ 0) ↔ (a.refused ≡ 0)

module _ (s : List ℕ) (i : ℕ) where
  level_within_law : ZeroLevel (level_within s i)
  unfolding level_within
  level_within_law = by (is_rank (entries s) i)
    where
      by : (c : Bool) → ZeroLevel (pick c (level_worked (level_of (entries s) (entries_of width s).fa i)) (level_refused 8 0))
      by true = (λ z. refl, λ z. refl)
      by false = refused_zero 8 (omega arith)

  pub level_zero : (r : ℕ) (out : List ℕ) → LevelNumbers s i r out → (r ≡ 0) ↔ ((level_answer s i).refused ≡ 0)
  unfolding after_check
  level_zero r out p =
      rw p.number_is
      (by_check Kind.Data s ZeroLevel (level_within s i) (level_refused (whole_of Kind.Data s).number (whole_of Kind.Data s).entry) level_within_law
      (λ l. refused_zero _ l))

  place_within_law : ZeroPlace (place_within s i)
  unfolding place_within
  place_within_law = by (is_rank (entries s) i)
    where
      by : (c : Bool) → ZeroPlace (pick c (block_place s i) (place_refused 8 0))
      by true = (λ z. refl, λ z. refl)
      by false = refused_zero 8 (omega arith)

  pub place_zero : (r : ℕ) (out : List ℕ) → PlaceNumbers s i r out → (r ≡ 0) ↔ ((place_answer s i).refused ≡ 0)
  unfolding after_check
  place_zero r out p =
      rw p.number_is
      (by_check Kind.Data s ZeroPlace (place_within s i) (place_refused (whole_of Kind.Data s).number (whole_of Kind.Data s).entry) place_within_law
      (λ l. refused_zero _ l))

-- ---- axes

module _ (s contexts : List ℕ) (axis name p : ℕ) (room : List ℕ) where
  axis_within_law : ZeroAnswer (axis_within s contexts axis name p room).answer
  unfolding axis_within
  axis_within_law = by (arguments_fine axis (entries s) contexts)
    where
      by : (c : Bool) → ZeroAnswer (pick c (room_for room (answer_in s contexts axis name p)) (refused_left room 8 0)).answer
      by true = room_zero room (answer_in s contexts axis name p)
      by false = refused_zero 8 (omega arith)

  pub axis_zero : (r : ℕ) (after out : List ℕ) → AxisNumbers s contexts axis name p room r after out
      → (r ≡ 0) ↔ ((axis_answer s contexts axis name p room).answer.refused ≡ 0)
  unfolding after_check
  axis_zero r after out q =
      left_returns (axis_answer s contexts axis name p room) r after out
      (by_check Kind.Data s (λ (x : Left). ZeroAnswer x.answer) (axis_within s contexts axis name p room)
      (refused_left room (whole_of Kind.Data s).number (whole_of Kind.Data s).entry) axis_within_law (λ l. refused_zero _ l)) q

-- ---- used once: on Ten, and on 5,1,3,0; 5,2,3,1, which is refused

ten_works : (level_answer ten 8).refused ≡ 0
unfolding after_check level_within is_rank run turn_within length_fault in_range step_of close_of nameless second_root accepted cell
ten_works = refl

pub ten_zero : (r : ℕ) (out : List ℕ) → LevelNumbers ten 8 r out → r ≡ 0
ten_zero r out p = (level_zero ten 8 r out p).1 ten_works

wrong_refused : (level_answer wrong_post 1).refused ≡ 1
unfolding after_check level_within is_rank run turn_within length_fault in_range step_of close_of nameless second_root accepted cell
wrong_refused = refl

pub wrong_zero : (r : ℕ) (out : List ℕ) → LevelNumbers wrong_post 1 r out → r ≡ 0 → ⊥
wrong_zero r out p z = let q : (level_answer wrong_post 1).refused ≡ 0 = (level_zero wrong_post 1 r out p).0 z in omega (arith, wrong_refused)

block_works : (place_answer ten 8).refused ≡ 0
unfolding after_check place_within is_rank run turn_within length_fault in_range step_of close_of nameless second_root accepted cell
block_works = refl

pub block_zero : (r : ℕ) (out : List ℕ) → PlaceNumbers ten 8 r out → r ≡ 0
block_zero r out p = (place_zero ten 8 r out p).1 block_works

-- "child of 2 is 3, 6", into a room of two numbers
child_works : (axis_answer ten (2 ∷ []) 1 0 0 (replicate 2 0)).answer.refused ≡ 0
unfolding run turn_within length_fault in_range step_of close_of nameless second_root accepted cell passes up_to some rises within met parent_of ancestor_or_self
    whole_before sibling_before on_axis chosen pth kept after_check arguments_fine room_for axis_within
child_works = refl

pub child_zero : (r : ℕ) (after out : List ℕ) → AxisNumbers ten (2 ∷ []) 1 0 0 (replicate 2 0) r after out → r ≡ 0
child_zero r after out p = (axis_zero ten (2 ∷ []) 1 0 0 (replicate 2 0) r after out p).1 child_works

-- a turn of the check from the fresh state, as its numbers are lent
abbrev freshly : List ℕ → ℕ → Turned CheckState
freshly s b = turn_of (kind_of 0) s b (check_state_of (1 ∷ 0 ∷ 0 ∷ []))

-- "Accepted in 20 steps."
ten_ends : (halt_told (freshly ten 20).halt).reason ≡ 1
unfolding run turn_within length_fault in_range step_of close_of nameless second_root accepted cell
ten_ends = refl

pub ended_zero : (r : ℕ) (left out : List ℕ) → CheckTurnPromise 0 ten 20 (1 ∷ 0 ∷ 0 ∷ []) r left out → r ≡ 0
ended_zero r left out p =
    let q : get_or out 0 0 ≡ 1 = stop_first (halt_told (freshly ten 20).halt) (freshly ten 20).steps r out p.says ∙ ten_ends in
    (check_zero 0 ten 20 (1 ∷ 0 ∷ 0 ∷ []) r left out p).1 (λ z. omega arith)

-- "refused 5 at entry 2 after 2"
post_refused : (halt_told (freshly wrong_post 3).halt).reason ≡ 3
unfolding run turn_within length_fault in_range step_of close_of nameless second_root accepted cell
post_refused = refl

pub fault_zero : (r : ℕ) (left out : List ℕ) → CheckTurnPromise 0 wrong_post 3 (1 ∷ 0 ∷ 0 ∷ []) r left out → r ≡ 0 → ⊥
fault_zero r left out p z =
    (check_zero 0 wrong_post 3 (1 ∷ 0 ∷ 0 ∷ []) r left out p).0 z
    (stop_first (halt_told (freshly wrong_post 3).halt) (freshly wrong_post 3).steps r out p.says ∙ post_refused)
