-- Which numbers a turn with a twig can refuse with before its first step, and when its room is too short.
--   turn_refusals      the numbers that turns with a twig refuse with
--   given_numbers     what is judged before the state: the twig and the signature's length
--   begun_numbers     what a turn gives: 0 or one of them
--   RoomTen           the room is shorter than what is needed, and nothing that is judged before it is refused
--   begun_ten         a turn gives 10 exactly then
use Rattle.std.specs.Prelude.{ℕ, ◌<◌, ◌≡◌, ◌↔◌, Bool, List, [], ◌∷◌, length}
use Rattle.std.proofs.Math.Path.{refl}
use Rattle.std.proofs.Common.{◌∙◌, sym, arith}
use Rattle.std.proofs.Math.Bool.{true, false}
use Rattle.std.proofs.lemmas.Bool.{false≢true}
use Rattle.std.proofs.Math.Dec.{eqb, leb}
use borrow.Author.Tests.{eqb-true, eqb-false, leb-true, leb-false}
use Rattle.turns.specs.Pick.{pick}
use Rattle.turns.specs.Turn.{Turned}
use Rattle.trees.specs.Signature.{width}
use Rattle.terms.specs.declared.Kind.{Kind}
use Rattle.terms.specs.Kinds.{most}
use Rattle.terms.specs.Stops.{halt_told}
use Rattle.terms.specs.Length.{length_fault}
use Rattle.checking.specs.Turn.{refused_at}
use Rattle.checking.specs.Whole.{whole_of}
use Rattle.checked.specs.Refusals.{OneOf, one_not, one_among, check_refusals, length_numbers, whole_numbers}
use Rattle.twig_turns.specs.Given.{given_of, refused_for, ready_for, begun_for}

-- twig, signature's length and state are not refused, and the room is shorter than what is needed
abbrev pub RoomTen : ℕ → List ℕ → List ℕ → Bool → ℕ → Type 0
RoomTen need sig twig fits room = ((given_of sig twig).reason ≡ 1) × (fits ≡ true) × (room < need)

-- the check's for the twig, 1 and 7 for the signature too, 9 for the state, 10 for the room, 11 for a step
abbrev pub turn_refusals : List ℕ
turn_refusals = 9 ∷ 10 ∷ 11 ∷ check_refusals Kind.Twig

pub given_numbers : (sig twig : List ℕ) → OneOf (0 ∷ check_refusals Kind.Twig) (given_of sig twig).number
unfolding given_of
given_numbers sig twig =
    by (eqb (whole_of Kind.Twig twig).reason 1) (eqb (length_fault (most Kind.Data) width (length sig)) 0)
  where
    by : (a b : Bool) → OneOf (0 ∷ check_refusals Kind.Twig)
        (pick a (pick b (record { reason = 1; number = 0; entry = 0 }) (record { reason = 3; number = length_fault (most Kind.Data) width (length sig); entry = 0 }))
        (whole_of Kind.Twig twig)).number
    by true true = refl
    by true false =
        one_among (0 ∷ 1 ∷ 7 ∷ []) (0 ∷ check_refusals Kind.Twig) refl (length_fault (most Kind.Data) width (length sig))
        (length_numbers (most Kind.Data) width (length sig))
    by false b = whole_numbers Kind.Twig twig

module _ {S : Type 0} (need : ℕ) (sig twig : List ℕ) (room : ℕ) (st : S) (fits : Bool) (turned : Turned S)
    (steps : OneOf (0 ∷ 11 ∷ []) (halt_told turned.halt).number) where
  pub begun_numbers : OneOf (0 ∷ turn_refusals) (halt_told (begun_for need sig twig room st fits turned).halt).number
  unfolding begun_for ready_for
  begun_numbers = by (eqb (given_of sig twig).reason 1) fits (leb need room)
    where
      by : (a b c : Bool) → OneOf (0 ∷ turn_refusals)
          (halt_told (pick a (pick b (pick c turned (refused_at st 10)) (refused_at st 9)) (refused_for st (given_of sig twig))).halt).number
      by true true true = one_among (0 ∷ 11 ∷ []) (0 ∷ turn_refusals) refl (halt_told turned.halt).number steps
      by true true false = refl
      by true false c = refl
      by false b c =
          one_among (0 ∷ check_refusals Kind.Twig) (0 ∷ turn_refusals) refl (given_of sig twig).number (given_numbers sig twig)

  pub begun_ten : ((halt_told (begun_for need sig twig room st fits turned).halt).number ≡ 10) ↔ RoomTen need sig twig fits room
  unfolding begun_for ready_for
  begun_ten = by (eqb (given_of sig twig).reason 1) fits (leb need room) refl refl refl
    where
      by : (a b c : Bool) → eqb (given_of sig twig).reason 1 ≡ a → fits ≡ b → leb need room ≡ c
          → ((halt_told (pick a (pick b (pick c turned (refused_at st 10)) (refused_at st 9)) (refused_for st (given_of sig twig))).halt).number ≡ 10) ↔ RoomTen need sig twig fits room
      by true true true p q r = (
        λ z. absurd (one_not (0 ∷ 11 ∷ []) (halt_told turned.halt).number 10 steps refl z),
        λ z. absurd (omega (arith, leb-true need room r, z.2)),
      )
      by true true false p q r = (λ z. (eqb-true (given_of sig twig).reason 1 p, q, leb-false need room r), λ z. refl)
      by true false c p q r = (λ z. absurd (omega arith), λ z. absurd (false≢true (sym q ∙ z.1)))
      by false b c p q r = (
        λ z. absurd (one_not (0 ∷ check_refusals Kind.Twig) (given_of sig twig).number 10 (given_numbers sig twig) refl z),
        λ z. absurd (eqb-false (given_of sig twig).reason 1 p z.0),
      )
