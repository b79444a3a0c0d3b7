-- What is left of the records is stored behind what was; at the end all of them stand at the front of the room.
use Prim.Native.Nat.{◌*◌}
use mathlib.Core.Path.{refl}
use Rattle.records.proofs.Filling.{bytes_stored, bytes_none, bytes_length}
use Rattle.bytes_read.proofs.Rooms.{put_sets, storing_end}
use native.Mathlib.Omega.{arith}
use Rattle.record_writing.proofs.fill_records.Goals as goal

pub loop-i-preserved : goal.loop-i-preserved
loop-i-preserved c =
    let l = c.loop-i in
    bytes_stored _ _ _ _ _ _ l.invariant (omega arith)
    (put_sets l.room (10 * l.i) _ _ _ _ refl c.put_record.ensures (omega arith) (omega (arith, l.invariant.long)))

pub returns : goal.returns
returns c = storing_end _ _ _ _ _ c.loop-i.invariant (bytes_none _ _ _ (omega arith)) (omega (arith, bytes_length c.args.sig.now 0 c.args.size))
