-- Two results that the promise of a turn of the check on bare numbers allows are equal. Of level, block and axes it is `one_said` and `one_left` of `telling`.
--   one_check   the number returned, out, and the state
use Rattle.std.specs.Prelude.{ℕ, ◌≡◌, List}
use Rattle.std.proofs.Common.{◌∙◌, sym}
use Rattle.telling.specs.Once.{one_said}
use Rattle.signature_calls.specs.Check.{CheckTurnPromise}

pub one_check : (k : ℕ) (s : List ℕ) (b : ℕ) (l : List ℕ) (r q : ℕ) (left later o p : List ℕ) → CheckTurnPromise k s b l r left o
    → CheckTurnPromise k s b l q later p → ((r ≡ q) × (o ≡ p)) × (left ≡ later)
one_check k s b l r q left later o p x y = (one_said _ _ r q o p x.says y.says, x.state ∙ sym y.state)
