-- What is left of the records is stored behind what was; at the end all of them stand at the front of the room.
use Prim.Native.Nat.{◌-◌, ◌*◌}
use Rattle.records.specs.Records.{bytes_from}
use Rattle.bytes_read.proofs.Rooms.{Storing}
use Rattle.record_writing.proofs.fill_records.Given as goal

abbrev pub invariant-loop-i : goal.invariant-loop-i
invariant-loop-i l = Storing l.initial.room (bytes_from l.sig 0 l.size) l.room (10 * l.i) (bytes_from l.sig (4 * l.i) (l.size - l.i))
