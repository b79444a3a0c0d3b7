-- "10 is given exactly if the result is longer than the room": the axis call.
--   AxisTen            the check accepts, no argument is refused and the answer is longer than the room
--   axis_ten           10 exactly then, in what is answered
--   axis_ten_exactly   the same, over the call's promise
--   single_ten         used once: the one entry 7,1,2,0 is on its own self axis, and a room of nothing is too small for it
use Rattle.std.specs.Prelude.{ℕ, ◌<◌, ◌≡◌, ◌↔◌, Bool, List, [], ◌∷◌, length}
use Rattle.std.proofs.Math.Path.{refl}
use Rattle.std.proofs.Common.{◌∙◌, sym, arith}
use Rattle.std.proofs.Math.Bool.{true, false}
use Rattle.std.proofs.lemmas.Bool.{false≢true}
use Rattle.std.proofs.Math.Dec.{eqb, leb}
use borrow.Author.Tests.{eqb-true, eqb-false, leb-true, leb-false}
use Rattle.turns.specs.Pick.{pick}
use Rattle.turns.specs.Turn.{run}
use Rattle.trees.specs.Names.{passes}
use Rattle.trees.specs.Signature.{cell, entries}
use Rattle.terms.specs.declared.Kind.{Kind}
use Rattle.checking.specs.Rule.{step_of, close_of, accepted, nameless, second_root, in_range}
use Rattle.terms.specs.Room.{refused_left, written_left, room_for}
use Rattle.terms.specs.Stops.{answered, Written}
use Rattle.checking.specs.Turn.{turn_within}
use Rattle.terms.specs.Length.{length_fault}
use Rattle.checking.specs.Whole.{whole_of}
use Rattle.checked.specs.Menus.{single}
use Rattle.checked.specs.Refusals.{whole_not_ten}
use Rattle.xpath.specs.Axes.{on_axis, chosen, kept}
use Rattle.xpath.specs.Select.{up_to, some, rises, within}
use Rattle.blocks.specs.Checked.{after_check}
use Rattle.marks.specs.Axis.{arguments_fine, answer_in, axis_within, axis_answer, AxisPromise}

module _ (s contexts : List ℕ) (axis name p : ℕ) (room : List ℕ) where
  -- the check accepts, no argument is refused, and the answer is longer than the room
  abbrev pub AxisTen : Type 0
  AxisTen = ((whole_of Kind.Data s).reason ≡ 1) × (arguments_fine axis (entries s) contexts ≡ true) × (length room < length (answer_in s contexts axis name p))

  pub axis_ten : ((axis_answer s contexts axis name p room).answer.number ≡ 10) ↔ AxisTen
  unfolding after_check axis_within room_for
  axis_ten =
      by (eqb (whole_of Kind.Data s).reason 1) (arguments_fine axis (entries s) contexts) (leb (length (answer_in s contexts axis name p)) (length room))
      refl refl refl
    where
      by : (a b c : Bool) → eqb (whole_of Kind.Data s).reason 1 ≡ a → arguments_fine axis (entries s) contexts ≡ b
          → leb (length (answer_in s contexts axis name p)) (length room) ≡ c
          → ((pick a (pick b (pick c (written_left room (answer_in s contexts axis name p)) (refused_left room 10 0)) (refused_left room 8 0))
          (refused_left room (whole_of Kind.Data s).number (whole_of Kind.Data s).entry)).answer.number ≡ 10) ↔ AxisTen
      by true true true q f l =
          (λ z. absurd (omega arith), λ z. absurd (omega (arith, leb-true (length (answer_in s contexts axis name p)) (length room) l, z.2)))
      by true true false q f l =
          (λ z. (eqb-true (whole_of Kind.Data s).reason 1 q, f, leb-false (length (answer_in s contexts axis name p)) (length room) l), λ z. refl)
      by true false c q f l = (λ z. absurd (omega arith), λ z. absurd (false≢true (sym f ∙ z.1)))
      by false b c q f l = (λ z. absurd (whole_not_ten Kind.Data s z), λ z. absurd (eqb-false (whole_of Kind.Data s).reason 1 q z.0))

  pub axis_ten_exactly : (r : Written) (after : List ℕ) → AxisPromise s contexts axis name p room r after
      → ((answered r).number ≡ 10) ↔ AxisTen
  axis_ten_exactly r after h = rw h.told axis_ten

-- ---- used once

single_accepted : (whole_of Kind.Data single).reason ≡ 1
unfolding run turn_within length_fault in_range step_of close_of nameless second_root accepted cell
single_accepted = refl

self_fine : arguments_fine 0 (entries single) (1 ∷ []) ≡ true
unfolding arguments_fine within rises
self_fine = refl

self_answer : answer_in single (1 ∷ []) 0 0 0 ≡ 1 ∷ []
unfolding up_to some kept chosen on_axis passes
self_answer = refl

pub single_ten : (r : Written) (after : List ℕ) → AxisPromise single (1 ∷ []) 0 0 0 [] r after → (answered r).number ≡ 10
single_ten r after h = (axis_ten_exactly single (1 ∷ []) 0 0 0 [] r after h).1 (single_accepted, self_fine, rw self_answer (omega arith))
