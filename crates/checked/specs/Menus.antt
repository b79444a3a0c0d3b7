-- Document 01's trees, under "Tried at the edges".
--   ten, five        the paper's tree of ten elements, and five elements that are all named 1
--   single, …        the smaller ones; single_record and single_tags are the bytes of the first
--   tarts            the four entries on which only neighbours are compared by a trainee
--   fork, ones, pair   the twigs a(b,c), 1(1,1,1) and 1(1)
use Rattle.std.specs.Prelude.{ℕ, List, [], ◌∷◌}

-- "Ten: names 1 2 3 4 5 7 6 8 9 10"
abbrev pub ten : List ℕ
ten =
    1 ∷ 10 ∷ 11 ∷ 0 ∷ 2 ∷ 5 ∷ 7 ∷ 1 ∷ 3 ∷ 3 ∷ 6 ∷ 2 ∷ 4 ∷ 1 ∷ 5 ∷ 3 ∷ 5 ∷ 2 ∷ 6 ∷ 3
    ∷ 7 ∷ 4 ∷ 7 ∷ 2 ∷ 6 ∷ 9 ∷ 11 ∷ 1 ∷ 8 ∷ 8 ∷ 11 ∷ 7 ∷ 9 ∷ 6 ∷ 10 ∷ 8 ∷ 10 ∷ 7 ∷ 11 ∷ 8 ∷ []

-- "Five, all named 1"
abbrev pub five : List ℕ
five = 1 ∷ 5 ∷ 6 ∷ 0 ∷ 1 ∷ 1 ∷ 3 ∷ 1 ∷ 1 ∷ 4 ∷ 6 ∷ 1 ∷ 1 ∷ 2 ∷ 5 ∷ 3 ∷ 1 ∷ 3 ∷ 6 ∷ 3 ∷ []

-- "One entry 7,1,2,0"
abbrev pub single : List ℕ
single = 7 ∷ 1 ∷ 2 ∷ 0 ∷ []

-- the same entry by "A signature record is `SE` and the four numbers, 10 bytes"
abbrev pub single_record : List ℕ
single_record = 83 ∷ 69 ∷ 7 ∷ 0 ∷ 1 ∷ 0 ∷ 2 ∷ 0 ∷ 0 ∷ 0 ∷ []

-- and its tag list: "`OP` and a name opens an element (4 bytes) and `CL` closes the innermost one (2 bytes)"
abbrev pub single_tags : List ℕ
single_tags = 79 ∷ 80 ∷ 7 ∷ 0 ∷ 67 ∷ 76 ∷ []

-- "Entries 5,2,3,0; 5,1,3,0"
abbrev pub two_roots : List ℕ
two_roots = 5 ∷ 2 ∷ 3 ∷ 0 ∷ 5 ∷ 1 ∷ 3 ∷ 0 ∷ []

-- "Entries 5,1,3,0; 5,2,3,1"
abbrev pub wrong_post : List ℕ
wrong_post = 5 ∷ 1 ∷ 3 ∷ 0 ∷ 5 ∷ 2 ∷ 3 ∷ 1 ∷ []

-- "Entries 5,2,3,0; 5,1,2,1"
abbrev pub wrong_ff : List ℕ
wrong_ff = 5 ∷ 2 ∷ 3 ∷ 0 ∷ 5 ∷ 1 ∷ 2 ∷ 1 ∷ []

-- "Entries 1,4,5,0; 2,2,4,1; 3,1,4,2; 4,3,5,1"
abbrev pub tarts : List ℕ
tarts = 1 ∷ 4 ∷ 5 ∷ 0 ∷ 2 ∷ 2 ∷ 4 ∷ 1 ∷ 3 ∷ 1 ∷ 4 ∷ 2 ∷ 4 ∷ 3 ∷ 5 ∷ 1 ∷ []

-- "Twig 8(9,10)", "Twig 7(9,10)" and "twig 2(3,4)"
abbrev pub fork : ℕ → ℕ → ℕ → List ℕ
fork a b c = a ∷ 3 ∷ 4 ∷ 0 ∷ b ∷ 1 ∷ 3 ∷ 1 ∷ c ∷ 2 ∷ 4 ∷ 1 ∷ []

-- "Twig 1(1,1,1)"
abbrev pub ones : List ℕ
ones = 1 ∷ 4 ∷ 5 ∷ 0 ∷ 1 ∷ 1 ∷ 3 ∷ 1 ∷ 1 ∷ 2 ∷ 4 ∷ 1 ∷ 1 ∷ 3 ∷ 5 ∷ 1 ∷ []

-- "the twig 1(1)"
abbrev pub pair : List ℕ
pair = 1 ∷ 2 ∷ 3 ∷ 0 ∷ 1 ∷ 1 ∷ 3 ∷ 1 ∷ []
