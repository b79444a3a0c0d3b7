-- Numbers as a line: "1 2" and a line feed.
--   after l      what stands after a number: a space where others follow, else the line feed
--   numbers l    numbers in decimal digits, a space between two, and the line feed after the last one
use Rattle.std.specs.Prelude.{ℕ, List, [], ◌∷◌, ◌++◌}
use Rattle.digits.specs.Decimal.{decimal}

-- what stands after a number: a space where others follow, else the line feed
abbrev pub after : List ℕ → ℕ
after [] = 10
after (x ∷ l) = 32

-- a line of numbers in decimal digits, with a space between two and the line feed after the last one
unfoldable pub numbers : List ℕ → List ℕ
numbers [] = []
numbers (x ∷ l) = decimal x ++ after l ∷ numbers l
