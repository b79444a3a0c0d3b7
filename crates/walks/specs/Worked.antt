-- One walk worked out: the loose answers of the twig 1(1) on Five, as document 01's listing prints them. No premise of this crate is empty.
--   five             the choices: an entry for the first node has some entry below it, the second lies below the first
--   five_plain       next adds one
--   five_listed      the answers, computed
--   five_chain, five_told   seven turns from the fresh state tell them, and take 14 steps to the end
--   five_bounded     the ranges are bounded, and no range of the second node fails
--   five_within      so 21 steps lead from the fresh state to an answer or to the end
--   five_above, five_none   the least answer greater than 1 5 is 3 4, and there is none greater than 3 5
use Rattle.std.specs.Prelude.{ℕ, zero, suc, ◌≤◌, ◌<◌, ◌≡◌, refl, ◌⊎◌, Bool, true, ltb, length, get_or}
use mathlib.Core.List.{List, [], ◌∷◌, reverse, map, flat_map}
use Rattle.std.proofs.Common.{arith, ltb-true}
use Rattle.turns.specs.Turn.{answer, end, run}
use Rattle.turns.specs.Chains.{one, more}
use Rattle.walks.specs.Walking.{Choices, at_end, fresh, walk_turn, walk_step, try, back_from, set_to, passing, passing_of, answers_from}
use Rattle.walks.specs.Answers.{here, Fits, Good}
use Rattle.walks.specs.Plain.{Plain, plain_rising}
use Rattle.walks.specs.Potential.{Bounded}
use Rattle.walks.specs.Falling.{fresh_way}
use Rattle.walks.specs.Within.{turn_limit}
use Rattle.walks.specs.Chained.{told}
use Rattle.walks.specs.Telling.{tell, WalkTurns}
use Rattle.walks.specs.Seeking.{Least, None}
use Rattle.walks.specs.Starting.{fits_now, first_above, start_above, above_answer, above_none}

-- ff of each entry; past the last one, one more than there are
abbrev ff : ℕ → ℕ
ff x = get_or (6 ∷ 6 ∷ 3 ∷ 6 ∷ 5 ∷ 6 ∷ []) x 6

abbrev five_begin : List ℕ → ℕ
five_begin [] = 1
five_begin (x ∷ xs) = suc x

abbrev five_end : List ℕ → ℕ
five_end [] = 6
five_end (x ∷ xs) = ff x

abbrev five_test : List ℕ → ℕ → Bool
five_test [] c = ltb (suc c) (ff c)
five_test (x ∷ xs) c = true

-- the twig 1(1) on Five: node 1 stands at an entry that has some entry below it, node 2 at any entry below node 1's
abbrev pub five : Choices
five = record { begin = five_begin; next = λ xs c. suc c; end = five_end; test = five_test }

pub five_plain : Plain five
five_plain xs c = refl

pub five_listed : map reverse (answers_from five 2 [])
    ≡ (1 ∷ 2 ∷ []) ∷ (1 ∷ 3 ∷ []) ∷ (1 ∷ 4 ∷ []) ∷ (1 ∷ 5 ∷ []) ∷ (3 ∷ 4 ∷ []) ∷ (3 ∷ 5 ∷ []) ∷ []
unfolding answers_from passing passing_of flat_map
five_listed = refl

pub five_chain : WalkTurns five (fresh five 1) 63 14 (record { state = at_end; steps = 4; halt = end })
unfolding run walk_step try back_from set_to
five_chain =
    more {b = 9} refl (more {b = 9} refl (more {b = 9} refl (more {b = 9} refl (more {b = 9} refl (more {b = 9} refl (one {b = 9} refl))))))

pub five_told : map reverse (told tell five_chain) ≡ map reverse (answers_from five 2 [])
unfolding five_chain told answers_from passing passing_of flat_map
five_told = refl

-- ---- the premise of the limits

high : (xs : List ℕ) → five_end xs ≤ 6
high [] = omega arith
high (zero ∷ xs) = omega arith
high (suc zero ∷ xs) = omega arith
high (suc (suc zero) ∷ xs) = omega arith
high (suc (suc (suc zero)) ∷ xs) = omega arith
high (suc (suc (suc (suc zero))) ∷ xs) = omega arith
high (suc (suc (suc (suc (suc zero)))) ∷ xs) = omega arith
high (suc (suc (suc (suc (suc (suc x))))) ∷ xs) = omega arith

low : (xs : List ℕ) → 1 ≤ five_begin xs
low [] = omega arith
low (x ∷ xs) = omega arith

never_fails : (x : ℕ) (xs : List ℕ) → Good five (x ∷ xs) → suc (length xs) < 2 → (c : ℕ) × Fits five (x ∷ xs) c
never_fails x [] g l = (suc x, record { reached = here; below = ltb-true (suc x) (ff x) g.0.passes; passes = refl })
never_fails x (y ∷ xs) g l = absurd (omega arith)

pub five_bounded : Bounded five 2 5
five_bounded = record { low = λ xs g l. low xs; high = λ xs g l. high xs; never_fails = never_fails }

pub five_within : ((walk_turn five 21 (fresh five 1)).halt ≡ answer) ⊎ ((walk_turn five 21 (fresh five 1)).halt ≡ end)
five_within =
    let w = fresh_way five 2 1 refl in
    let r = plain_rising five five_plain in
    turn_limit five r 2 5 five_bounded 21 (fresh five 1) w (omega arith)

-- ---- the least answer greater than a tuple

pub five_above : Least five (5 ∷ 1 ∷ []) (4 ∷ 3 ∷ [])
unfolding run walk_step try back_from set_to start_above fits_now first_above
five_above = above_answer five five_plain 1 (5 ∷ []) 21 refl

pub five_none : None five (5 ∷ 3 ∷ [])
unfolding run walk_step try back_from set_to start_above fits_now first_above
five_none = above_none five five_plain 3 (5 ∷ []) 21 refl
