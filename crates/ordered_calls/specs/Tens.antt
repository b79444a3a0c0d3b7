-- "10 is given exactly if the result is longer than the room": the ordered call.
--   OrderedTen            twig and signature are accepted, the tuple fits and the next answer is longer than the room
--   ordered_ten           10 exactly then, in what is answered
--   ordered_ten_exactly   the same, over the call's promise
--   single_ten            used once: the one entry 7,1,2,0 as signature and as twig has the answer 1, and a room of nothing is too small for it
use Rattle.std.specs.Prelude.{ℕ, ◌<◌, ◌≡◌, ◌↔◌, Bool, length}
use Rattle.std.proofs.Math.Path.{refl}
use Rattle.std.proofs.Common.{◌∙◌, sym, arith}
use Rattle.std.proofs.Math.Bool.{true, false}
use Rattle.std.proofs.lemmas.Bool.{false≢true}
use mathlib.Core.List.{List, [], ◌∷◌, flat_map}
use Rattle.std.proofs.Math.Dec.{eqb, leb}
use borrow.Author.Tests.{eqb-true, eqb-false, leb-true, leb-false}
use Rattle.turns.specs.Pick.{pick}
use Rattle.turns.specs.Turn.{run}
use Rattle.trees.specs.Names.{passes}
use Rattle.trees.specs.Signature.{cell, entries_of, width, entries}
use Rattle.terms.specs.declared.Kind.{Kind}
use Rattle.checking.specs.Rule.{step_of, close_of, accepted, nameless, second_root, in_range}
use Rattle.terms.specs.Room.{refused_left, written_left, room_for}
use Rattle.terms.specs.Stops.{answered, Written}
use Rattle.checking.specs.Turn.{turn_within}
use Rattle.terms.specs.Length.{length_fault}
use Rattle.checking.specs.Whole.{whole_of}
use Rattle.checked.specs.Menus.{single}
use Rattle.checked.specs.Refusals.{whole_not_ten}
use Rattle.ordering.specs.Next.{ranks, tuples, placed_test, later_test, answer_test, smaller_test, first_of, next_answer}
use Rattle.ordered_given.specs.Judged.{all_up_to, tuple_fits}
use Rattle.ordered.specs.Promise.{ordered_of, OrderedPromise}
use Rattle.ordered_calls.specs.Exactly.{ordered_order}

module _ (s w g room : List ℕ) where
  -- the smallest ordered answer greater than the tuple
  abbrev answer : List ℕ
  answer = next_answer (entries s) (entries_of width s) (entries w) (entries_of width w) g

  -- twig and signature are accepted, the tuple fits, and the next answer is longer than the room
  abbrev pub OrderedTen : Type 0
  OrderedTen =
      ((whole_of Kind.Twig w).reason ≡ 1) × ((whole_of Kind.Data s).reason ≡ 1) × (tuple_fits (entries s) (entries w) g ≡ true)
      × (length room < length (next_answer (entries s) (entries_of width s) (entries w) (entries_of width w) g))

  pub ordered_ten : ((ordered_of s w g room).answer.number ≡ 10) ↔ OrderedTen
  unfolding room_for
  ordered_ten =
      rw (ordered_order s w g room)
      (by (eqb (whole_of Kind.Twig w).reason 1) (eqb (whole_of Kind.Data s).reason 1) (tuple_fits (entries s) (entries w) g)
      (leb (length answer) (length room)) refl refl refl refl)
    where
      by : (a b c d : Bool) → eqb (whole_of Kind.Twig w).reason 1 ≡ a → eqb (whole_of Kind.Data s).reason 1 ≡ b
          → tuple_fits (entries s) (entries w) g ≡ c → leb (length answer) (length room) ≡ d
          → ((pick a (pick b (pick c (pick d (written_left room answer) (refused_left room 10 0)) (refused_left room 8 0))
          (refused_left room (whole_of Kind.Data s).number (whole_of Kind.Data s).entry))
          (refused_left room (whole_of Kind.Twig w).number (whole_of Kind.Twig w).entry)).answer.number ≡ 10) ↔ OrderedTen
      by true true true true p q f l =
          (λ z. absurd (omega arith), λ z. absurd (omega (arith, leb-true (length answer) (length room) l, z.3)))
      by true true true false p q f l = (
        λ z. (eqb-true (whole_of Kind.Twig w).reason 1 p, eqb-true (whole_of Kind.Data s).reason 1 q, f, leb-false (length answer) (length room) l),
        λ z. refl,
      )
      by true true false d p q f l = (λ z. absurd (omega arith), λ z. absurd (false≢true (sym f ∙ z.2)))
      by true false c d p q f l = (λ z. absurd (whole_not_ten Kind.Data s z), λ z. absurd (eqb-false (whole_of Kind.Data s).reason 1 q z.1))
      by false b c d p q f l = (λ z. absurd (whole_not_ten Kind.Twig w z), λ z. absurd (eqb-false (whole_of Kind.Twig w).reason 1 p z.0))

  pub ordered_ten_exactly : (r : Written) (after : List ℕ) → OrderedPromise s w g room r after
      → ((answered r).number ≡ 10) ↔ OrderedTen
  ordered_ten_exactly r after h = rw h.told ordered_ten

-- ---- used once

single_accepted : (whole_of Kind.Data single).reason ≡ 1
unfolding run turn_within length_fault in_range step_of close_of nameless second_root accepted cell
single_accepted = refl

single_twig : (whole_of Kind.Twig single).reason ≡ 1
unfolding run turn_within length_fault in_range step_of close_of nameless second_root accepted cell
single_twig = refl

zero_fits : tuple_fits (entries single) (entries single) (0 ∷ []) ≡ true
unfolding tuple_fits all_up_to
zero_fits = refl

single_answer : next_answer (entries single) (entries_of width single) (entries single) (entries_of width single) (0 ∷ []) ≡ 1 ∷ []
unfolding next_answer first_of tuples ranks flat_map answer_test later_test placed_test smaller_test passes cell
single_answer = refl

pub single_ten : (r : Written) (after : List ℕ) → OrderedPromise single single (0 ∷ []) [] r after → (answered r).number ≡ 10
single_ten r after h =
    (ordered_ten_exactly single single (0 ∷ []) [] r after h).1 (single_twig, single_accepted, zero_fits, rw single_answer (omega arith))
