-- A byte goes to its place where the room has that place; else nothing moves.
use Rattle.std.proofs.Common.{refl}
use Rattle.digits.proofs.Pages.{print_full, print_one}
use Rattle.digits.proofs.Printer.put_byte.Goals as goal

pub returns-then-self : goal.returns-then-self
returns-then-self c = record {
  same_room = refl;
  prints = print_one c.args.byte c.args.self.now.at c.args.self.now.room.now c.if-self.true;
}

pub returns-else-self : goal.returns-else-self
returns-else-self c = record {
  same_room = refl;
  prints = print_full c.args.byte c.args.self.now.at c.args.self.now.room.now c.if-self.false;
}
