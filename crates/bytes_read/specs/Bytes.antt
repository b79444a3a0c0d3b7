-- Bytes: marks and numbers.
--   number_at b p        the number at place p: "two bytes, low byte first"
--   low v, high v       its two bytes
--   marked b p x y      the two-byte mark at place p is x y
use Rattle.std.specs.Prelude.{ℕ, ◌+◌, ◌*◌, ◌/◌, ◌%◌, Bool, ◌&&◌, List, get_or, eqb}

-- "numbers are two bytes, low byte first"
abbrev pub number_at : List ℕ → ℕ → ℕ
number_at b p = get_or b p 0 + 256 * get_or b (p + 1) 0

-- the low byte of a number, which stands first
abbrev pub low : ℕ → ℕ
low v = v % 256

-- the high byte of a number, which stands second
abbrev pub high : ℕ → ℕ
high v = v / 256

-- "Every record starts with a two-byte mark"
unfoldable pub marked : List ℕ → ℕ → ℕ → ℕ → Bool
marked b p x y = eqb (get_or b p 0) x && eqb (get_or b (p + 1) 0) y
