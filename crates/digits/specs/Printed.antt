-- What a call with a printer promises.
--   Printed text p q   the printer q is p after the text, over the same lent room
use Rattle.std.specs.Prelude.{ℕ, ◌≡◌, List}
use Rattle.digits.specs.declared.Printer.{Printer}
use Rattle.digits.specs.Page.{Prints}

-- the printer q is p after the text, and prints into the same lent room
pub record Printed (text : List ℕ) (p q : Printer) : Type 0 where
  pub same_room : q.room.ghost_name ≡ p.room.ghost_name
  pub prints : Prints text p.at p.room.now q.at q.room.now
