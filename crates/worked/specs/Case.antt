-- A starred case: what the definitions that the promises cite come to, and what document 01 says, both as numbers.
use Rattle.std.specs.Prelude.{ℕ, List, ◌∷◌}
use Rattle.terms.specs.Room.{Left}

-- got: the very definition that a call's promise cites, evaluated, with number, entry, steps, length and room; wanted: document 01's numbers
pub record Case : Type 0 where
  pub got : List ℕ
  pub wanted : List ℕ

-- what a call answers and leaves, in numbers: refused or not, the refusal's number, length and entry, and the lent room at the end
abbrev pub leaves : Left → List ℕ
leaves x = x.answer.refused ∷ x.answer.number ∷ x.answer.length ∷ x.answer.entry ∷ x.room
