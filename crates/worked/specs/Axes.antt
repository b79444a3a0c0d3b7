-- The starred cases of the axes, on Ten: refused or not, the refusal's number, length and entry, and the lent room at the end, which held 99s.
use Rattle.std.specs.Prelude.{ℕ, List, [], ◌∷◌}
use Rattle.marks.specs.Axis.{axis_answer}
use Rattle.checked.specs.Menus.{ten}
use Rattle.worked.specs.Case.{Case, leaves}

-- an axis of one context of Ten, any name, no position
abbrev pub stepped : ℕ → ℕ → List ℕ → List ℕ → Case
stepped axis c room wanted = record { got = leaves (axis_answer ten (c ∷ []) axis 0 0 room); wanted = wanted }

-- "On Ten: preceding of 6 is 3, 4, 5; following-sibling of 3 is 6; child of 2 is 3, 6; preceding-sibling of 7 is 2; [..]"
abbrev pub cases : List Case
cases =
    stepped 8 6 (99 ∷ 99 ∷ 99 ∷ 99 ∷ []) (0 ∷ 0 ∷ 3 ∷ 0 ∷ 3 ∷ 4 ∷ 5 ∷ 99 ∷ [])
    ∷ stepped 9 3 (99 ∷ []) (0 ∷ 0 ∷ 1 ∷ 0 ∷ 6 ∷ [])
    ∷ stepped 1 2 (99 ∷ 99 ∷ []) (0 ∷ 0 ∷ 2 ∷ 0 ∷ 3 ∷ 6 ∷ [])
    ∷ stepped 10 7 (99 ∷ []) (0 ∷ 0 ∷ 1 ∷ 0 ∷ 2 ∷ [])
    ∷ stepped 7 7 [] (0 ∷ 0 ∷ 0 ∷ 0 ∷ [])
    ∷ []
