-- Numbers as decimal digits.
--   decimal n       the digits of n, in ASCII, without zeros in front
--   value l         the number that digits tell
use Rattle.std.specs.Prelude.{ℕ, zero, suc, ◌+◌, ◌-◌, ◌*◌, ◌/◌, ◌%◌, List, [], ◌∷◌, ◌++◌, ltb}
use Rattle.turns.specs.Pick.{pick}

-- at most k digits
unfoldable pub digits_in : ℕ → ℕ → List ℕ
digits_in zero n = []
digits_in (suc k) n = pick (ltb n 10) ((48 + n) ∷ []) (digits_in k (n / 10) ++ (48 + n % 10) ∷ [])

-- a number has fewer digits than n + 1
abbrev pub decimal : ℕ → List ℕ
decimal n = digits_in (suc n) n

-- digit after digit, each ten times what stands before it
unfoldable pub value_after : ℕ → List ℕ → ℕ
value_after v [] = v
value_after v (d ∷ l) = value_after (10 * v + (d - 48)) l

-- the number that decimal digits tell
abbrev pub value : List ℕ → ℕ
value l = value_after 0 l
