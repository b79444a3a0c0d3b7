-- Which numbers the start call of preparing and the turns of preparing and of walking can refuse with, and when the table is too short.
--   start_ten, start_ten_exactly   the start call gives 10 exactly if n is from 1 to 4,096 and the table is shorter than 2×n
--   prepare_numbers_law, walk_numbers_law   what a turn gives: 0 or one of them
--   TableTen                    the table is shorter than 2×n, and nothing that is judged before it is refused
--   prepare_ten, walk_ten       a turn gives 10 exactly then
--   prepare_ten_exactly, walk_ten_exactly   the same, over the turn's promise
--   single_start, single_prepare, single_walk   each used once: a table of one number for one entry
use Rattle.std.specs.Prelude.{ℕ, ◌*◌, ◌≤◌, ◌<◌, ◌≡◌, refl, ◌↔◌, Bool, true, false, List, [], ◌∷◌, eqb, leb, length}
use Rattle.std.proofs.Common.{arith, eqb-true, leb-true, leb-false}
use Rattle.std.proofs.lemmas.Bool.{eqb-false}
use Rattle.turns.specs.Pick.{pick}
use Rattle.turns.specs.Turn.{moved, answered, refused, run}
use Rattle.trees.specs.Signature.{cell, Entries, entries_of, width, entries}
use Rattle.terms.specs.declared.Kind.{Kind}
use Rattle.terms.specs.Kinds.{most}
use Rattle.checking.specs.Rule as check
use Rattle.terms.specs.Stops.{told, halt_told}
use Rattle.checking.specs.Turn.{turn_within}
use Rattle.terms.specs.Length.{length_fault}
use Rattle.checked.specs.Menus.{single}
use Rattle.checked.specs.Refusals.{OneOf, StepIn, turn_numbers}
use Rattle.preparing.specs.declared.Prep.{Prep}
use Rattle.preparing.specs.Masks.{can, has_bit, every}
use Rattle.twig_turns.specs.Refusals.{turn_refusals, RoomTen, begun_numbers, begun_ten}
use Rattle.twig_turns.specs.Given.{table_width, given_of}
use Rattle.preparing.specs.Preparing.{Preparing, prepared, bad_parent, prep_step}
use Rattle.preparing.specs.PrepTurn.{start_fault, start_told, StartPromise, prep_at, preparing, prep_in_range, prep_run, prep_turn_of, PrepPromise, Started}
use Rattle.walk_ranges.specs.Ranges.{image, image_fits, phase_fits}
use Rattle.walking.specs.declared.Walk.{Walk}
use Rattle.walking.specs.Walking.{fresh, in_range, ended, bad_end, end_of, back, found, readied, walk_on, step_of}
use Rattle.walking.specs.WalkTurn.{walk_fits, walk_run, walk_turn_of, WalkPromise}
use Rattle.terms.specs.declared.Turn.{Turn}

-- ---- the start call

pub start_ten : (n room : ℕ) → (start_fault n room ≡ 10) ↔ ((1 ≤ n) × (n ≤ most Kind.Data) × (room < table_width * n))
unfolding start_fault
start_ten n room = by (eqb n 0) (leb n (most Kind.Data)) (leb (table_width * n) room) refl refl refl
  where
    by : (a b c : Bool) → eqb n 0 ≡ a → leb n (most Kind.Data) ≡ b → leb (table_width * n) room ≡ c
        → (◌≡◌ {A = ℕ} (pick a 1 (pick b (pick c 0 10) 7)) 10) ↔ ((1 ≤ n) × (n ≤ most Kind.Data) × (room < table_width * n))
    by true b c p q r = (λ z. absurd (omega arith), λ z. absurd (omega (arith, eqb-true n 0 p, z.0)))
    by false false c p q r = (λ z. absurd (omega arith), λ z. absurd (omega (arith, leb-false n (most Kind.Data) q, z.1)))
    by false true true p q r = (λ z. absurd (omega arith), λ z. absurd (omega (arith, leb-true (table_width * n) room r, z.2)))
    by false true false p q r = (λ z. (omega (arith, eqb-false n 0 p), leb-true n (most Kind.Data) q, leb-false (table_width * n) room r), λ z. refl)

-- "10 is given exactly if [..] a lent table is shorter than 2×n", after 1 for n = 0 and 7 for n over 4,096
pub start_ten_exactly : (n : ℕ) (table : List ℕ) (r : Started) (left : List ℕ) → StartPromise n table r left
    → ((start_told r).number ≡ 10) ↔ ((1 ≤ n) × (n ≤ most Kind.Data) × (length table < table_width * n))
start_ten_exactly n table r left p = rw p.answer (start_ten n (length table))

-- ---- what both kinds of turn judge before their first step

-- twig, signature's length and state are not refused, and "a lent table is shorter than 2×n"
abbrev pub TableTen : List ℕ → List ℕ → Bool → ℕ → Type 0
TableTen sig twig fits room = RoomTen (table_width * entries sig) sig twig fits room

-- ---- preparing

prep_step_law : (e w : Entries) (m : ℕ) (st : Preparing) → StepIn (0 ∷ 11 ∷ []) (prep_step e w m st)
unfolding prep_step
prep_step_law e w m st = by (bad_parent e st.next) _
  where
    by : (c : Bool) (to : Preparing) → StepIn (0 ∷ 11 ∷ []) (pick c (refused 11 0) (moved to))
    by true to = refl
    by false to = tt

module _ (sig twig : List ℕ) where
  prep_steps : (b : ℕ) (st : Preparing) → OneOf (0 ∷ 11 ∷ []) (halt_told (prep_run sig twig b st).halt).number
  prep_steps b st =
      turn_numbers Preparing prepared (prep_step (entries_of width sig) (entries_of width twig) (entries twig)) (0 ∷ 11 ∷ []) refl st
      (λ j to m. prep_step_law (entries_of width sig) (entries_of width twig) (entries twig) to) b

  pub prepare_numbers_law : (b : ℕ) (st : Preparing) → OneOf (0 ∷ turn_refusals) (halt_told (prep_turn_of sig twig b st).halt).number
  prepare_numbers_law b st =
      begun_numbers (table_width * entries sig) sig twig (length st.table) st (prep_in_range (entries sig) st) (prep_run sig twig b st) (prep_steps b st)

  -- "10 is given exactly if [..] a lent table is shorter than 2×n", after the twig, the length and the state
  pub prepare_ten : (b : ℕ) (st : Preparing) → ((halt_told (prep_turn_of sig twig b st).halt).number ≡ 10)
      ↔ TableTen sig twig (prep_in_range (entries sig) st) (length st.table)
  prepare_ten b st = begun_ten (table_width * entries sig) sig twig (length st.table) st (prep_in_range (entries sig) st) (prep_run sig twig b st) (prep_steps b st)

  pub prepare_ten_exactly : (table : List ℕ) (b : ℕ) (st : Prep) (r : Turn Prep) (left : List ℕ) → PrepPromise sig twig table b st r left
      → ((told r.stop).number ≡ 10) ↔ TableTen sig twig (prep_in_range (entries sig) (preparing st table)) (length table)
  prepare_ten_exactly table b st r left p = rw p.stop (prepare_ten b (preparing st table))

-- ---- walking

walk_step_law : (n m : ℕ) (e t : Entries) (bits : ℕ → ℕ) (w : Walk) → StepIn (0 ∷ 11 ∷ []) (step_of n m e t bits w)
unfolding step_of walk_on back found
walk_step_law n m e t bits w =
    let v = readied w in
    by (bad_end n e t w) (leb (end_of n e t v) v.candidate.0) (has_bit (bits v.candidate.0) v.node) (leb v.node 1) (eqb v.node m) _ _ _ _ _
  where
    by : (a b c d f : Bool) (u v x y z : Walk)
        → StepIn (0 ∷ 11 ∷ []) (pick a (refused 11 0) (pick b (pick d (moved u) (moved v)) (pick c (pick f (answered x) (moved y)) (moved z))))
    by true b c d f u v x y z = refl
    by false true c true f u v x y z = tt
    by false true c false f u v x y z = tt
    by false false true d true u v x y z = tt
    by false false true d false u v x y z = tt
    by false false false d f u v x y z = tt

module _ (sig twig table : List ℕ) (b : ℕ) (w : Walk) where
  walk_steps : OneOf (0 ∷ 11 ∷ []) (halt_told (walk_run sig twig table b w).halt).number
  walk_steps =
      turn_numbers Walk ended (step_of (entries sig) (entries twig) (entries_of width sig) (entries_of width twig) (can table)) (0 ∷ 11 ∷ []) refl w
      (λ j to m. walk_step_law (entries sig) (entries twig) (entries_of width sig) (entries_of width twig) (can table) to) b

  pub walk_numbers_law : OneOf (0 ∷ turn_refusals) (halt_told (walk_turn_of sig twig table b w).halt).number
  walk_numbers_law = begun_numbers (table_width * entries sig) sig twig (length table) w (walk_fits sig twig w) (walk_run sig twig table b w) walk_steps

  -- the same of walking
  pub walk_ten : ((halt_told (walk_turn_of sig twig table b w).halt).number ≡ 10) ↔ TableTen sig twig (walk_fits sig twig w) (length table)
  walk_ten = begun_ten (table_width * entries sig) sig twig (length table) w (walk_fits sig twig w) (walk_run sig twig table b w) walk_steps

  pub walk_ten_exactly : (r : Turn Walk) → WalkPromise sig twig table b w r
      → ((told r.stop).number ≡ 10) ↔ TableTen sig twig (walk_fits sig twig w) (length table)
  walk_ten_exactly r p = rw p.stop walk_ten

-- ---- used once: one entry 7,1,2,0 as signature and as twig, with a table of one number

single_given : (given_of single single).reason ≡ 1
unfolding given_of turn_within length_fault check.in_range run check.step_of check.close_of check.nameless check.second_root check.accepted cell
single_given = refl

single_fresh : walk_fits single single fresh ≡ true
unfolding in_range phase_fits image_fits every image cell
single_fresh = refl

pub single_start : (r : Started) (left : List ℕ) → StartPromise 1 (0 ∷ []) r left → (start_told r).number ≡ 10
single_start r left p = (start_ten_exactly 1 (0 ∷ []) r left p).1 (omega arith, omega arith, omega arith)

pub single_prepare : (b : ℕ) (r : Turn Prep) (left : List ℕ) → PrepPromise single single (0 ∷ []) b (prep_at 1) r left → (told r.stop).number ≡ 10
single_prepare b r left p = (prepare_ten_exactly single single (0 ∷ []) b (prep_at 1) r left p).1 (single_given, refl, omega arith)

pub single_walk : (b : ℕ) (r : Turn Walk) → WalkPromise single single (0 ∷ []) b fresh r → (told r.stop).number ≡ 10
single_walk b r p = (walk_ten_exactly single single (0 ∷ []) b fresh r p).1 (single_given, single_fresh, omega arith)
