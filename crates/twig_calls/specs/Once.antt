-- Two results that a promise of a turn or a start call on bare numbers allows are equal. Of the ordered call it is `one_left` of `telling`.
--   one_fits      the number returned, out, the room and the state
--   one_start     the number returned, out, and the table
--   one_prepare   the number returned, out, the table and the state
--   one_fresh     the number returned, and the state
--   one_walk      the number returned, out, and the state
use Rattle.std.specs.Prelude.{ℕ, ◌≡◌, List}
use Rattle.std.proofs.Common.{◌∙◌, sym}
use Rattle.telling.specs.Once.{one_said}
use Rattle.twig_calls.specs.Fits.{FitsTurnPromise}
use Rattle.twig_calls.specs.Prepare.{StartNumbers, PrepareTurnPromise}
use Rattle.twig_calls.specs.Walk.{WalkFreshPromise, WalkTurnPromise}

pub one_fits : (sig twig room l : List ℕ) (b r q : ℕ) (after later state other o p : List ℕ) → FitsTurnPromise sig twig room l b r after state o
    → FitsTurnPromise sig twig room l b q later other p → ((r ≡ q) × (o ≡ p)) × ((after ≡ later) × (state ≡ other))
one_fits sig twig room l b r q after later state other o p x y =
    (one_said _ _ r q o p x.says y.says, (x.left ∙ sym y.left, x.now_at ∙ sym y.now_at))

pub one_start : (n : ℕ) (table : List ℕ) (r q : ℕ) (after later o p : List ℕ) → StartNumbers n table r after o → StartNumbers n table q later p
    → ((r ≡ q) × (o ≡ p)) × (after ≡ later)
one_start n table r q after later o p x y = (one_said _ _ r q o p x.says y.says, x.left ∙ sym y.left)

pub one_prepare : (sig twig table l : List ℕ) (b r q : ℕ) (after later state other o p : List ℕ) → PrepareTurnPromise sig twig table l b r after state o
    → PrepareTurnPromise sig twig table l b q later other p → ((r ≡ q) × (o ≡ p)) × ((after ≡ later) × (state ≡ other))
one_prepare sig twig table l b r q after later state other o p x y =
    (one_said _ _ r q o p x.says y.says, (x.left ∙ sym y.left, x.now_at ∙ sym y.now_at))

pub one_fresh : (r q : ℕ) (state other : List ℕ) → WalkFreshPromise r state → WalkFreshPromise q other → (r ≡ q) × (state ≡ other)
one_fresh r q state other x y = (x.number ∙ sym y.number, x.numbers ∙ sym y.numbers)

pub one_walk : (sig twig table l : List ℕ) (b r q : ℕ) (state other o p : List ℕ) → WalkTurnPromise sig twig table l b r state o
    → WalkTurnPromise sig twig table l b q other p → ((r ≡ q) × (o ≡ p)) × (state ≡ other)
one_walk sig twig table l b r q state other o p x y = (one_said _ _ r q o p x.says y.says, x.now_at ∙ sym y.now_at)
