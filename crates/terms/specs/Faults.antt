-- The faults by document 01's numbers.
--   number_of f      the number of a fault
--   refusal_at f i    the refusal with this fault that names this entry, or none with 0
--   tested r         what a test came to, in numbers: the number of the fault, or 0
--   some_number f     it is never 0
use Rattle.std.specs.Prelude.{ℕ, ◌≡◌, Result, Ok, Err}
use Rattle.std.proofs.Common.{arith}
use Rattle.terms.specs.declared.Fault.{Fault}
use Rattle.terms.specs.declared.Refusal.{Refusal}

-- "1 cut", "2 unknown mark", "3 nameless", "4 not open", "5 wrong post", "6 wrong ff", "7 too many", "8 bad argument", "9 bad state", "10 no room",
-- "11 bad pointer", "12 bad nesting"
abbrev pub number_of : Fault → ℕ
number_of Fault.Cut = 1
number_of Fault.UnknownMark = 2
number_of Fault.Nameless = 3
number_of Fault.NotOpen = 4
number_of Fault.WrongPost = 5
number_of Fault.WrongFf = 6
number_of Fault.TooMany = 7
number_of Fault.BadArgument = 8
number_of Fault.BadState = 9
number_of Fault.NoRoom = 10
number_of Fault.BadPointer = 11
number_of Fault.BadNesting = 12

-- "its number and 0 for every other number; 3 to 6 from the check also name the entry"
abbrev pub refusal_at : Fault → ℕ → Refusal
refusal_at f i = record { number = number_of f; entry = record { 0 = i } }

-- the number of the fault that a test found, or 0
abbrev pub tested : Result Unit Fault → ℕ
tested (Ok _) = 0
tested (Err f) = number_of f

-- every fault has a number
pub some_number : (f : Fault) → number_of f ≡ 0 → ⊥
some_number Fault.Cut h = absurd (omega arith)
some_number Fault.UnknownMark h = absurd (omega arith)
some_number Fault.Nameless h = absurd (omega arith)
some_number Fault.NotOpen h = absurd (omega arith)
some_number Fault.WrongPost h = absurd (omega arith)
some_number Fault.WrongFf h = absurd (omega arith)
some_number Fault.TooMany h = absurd (omega arith)
some_number Fault.BadArgument h = absurd (omega arith)
some_number Fault.BadState h = absurd (omega arith)
some_number Fault.NoRoom h = absurd (omega arith)
some_number Fault.BadPointer h = absurd (omega arith)
some_number Fault.BadNesting h = absurd (omega arith)
