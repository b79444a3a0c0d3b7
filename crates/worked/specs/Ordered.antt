-- The starred cases of the ordered call, each as its promise cites it: refused, number, length and entry, then the room that is left.
use Rattle.std.specs.Prelude.{ℕ, List, [], ◌∷◌}
use Rattle.checked.specs.Menus.{ten, five, tarts, fork, ones}
use Rattle.ordered.specs.Promise.{ordered_of}
use Rattle.worked.specs.Case.{Case, leaves}

-- the twig w asked of s for what comes after g, with a lent room
abbrev pub asked : List ℕ → List ℕ → List ℕ → List ℕ → List ℕ → Case
asked s w g room wanted = record { got = leaves (ordered_of s w g room); wanted = wanted }

-- "one ordered answer, 8 9 10"; "none of either kind"; "one ordered answer, 1 2 4 5"; "no answer of either kind"
abbrev pub cases : List Case
cases =
    asked ten (fork 8 9 10) (0 ∷ 0 ∷ 0 ∷ []) (6 ∷ 6 ∷ 6 ∷ 6 ∷ []) (0 ∷ 0 ∷ 3 ∷ 0 ∷ 8 ∷ 9 ∷ 10 ∷ 6 ∷ [])
    ∷ asked ten (fork 8 9 10) (8 ∷ 9 ∷ 10 ∷ []) [] (0 ∷ 0 ∷ 0 ∷ 0 ∷ [])
    ∷ asked ten (fork 7 9 10) (0 ∷ 0 ∷ 0 ∷ []) [] (0 ∷ 0 ∷ 0 ∷ 0 ∷ [])
    ∷ asked five ones (0 ∷ 0 ∷ 0 ∷ 0 ∷ []) (6 ∷ 6 ∷ 6 ∷ 6 ∷ []) (0 ∷ 0 ∷ 4 ∷ 0 ∷ 1 ∷ 2 ∷ 4 ∷ 5 ∷ [])
    ∷ asked five ones (1 ∷ 2 ∷ 4 ∷ 5 ∷ []) [] (0 ∷ 0 ∷ 0 ∷ 0 ∷ [])
    ∷ asked tarts (fork 2 3 4) (0 ∷ 0 ∷ 0 ∷ []) [] (0 ∷ 0 ∷ 0 ∷ 0 ∷ [])
    ∷ []
