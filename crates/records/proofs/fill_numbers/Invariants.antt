-- What is left of the numbers is stored behind what was; at the end all of them stand at the front of the room.
use Prim.Native.Nat.{◌-◌, ◌*◌}
use Rattle.records.specs.Records.{numbers_from}
use Rattle.bytes_read.proofs.Rooms.{Storing}
use Rattle.records.proofs.fill_numbers.Given as goal

abbrev pub invariant-loop-i : goal.invariant-loop-i
invariant-loop-i l = Storing l.initial.room (numbers_from l.bytes 0 l.size) l.room (4 * l.i) (numbers_from l.bytes (10 * l.i) (l.size - l.i))
