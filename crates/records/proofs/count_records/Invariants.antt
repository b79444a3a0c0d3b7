-- What was asked at the start is what is still asked at each record; a record without a fault moves on by its ten bytes.
use Prim.Native.Nat.{◌≤◌, ◌-◌, ◌*◌}
use lib.ListN.{length}
use Rattle.bytes_read.specs.Scans.{begin}
use Rattle.bytes_read.proofs.Scanning.{Going}
use Rattle.records.specs.Records.{record_at, record_fault, record_next, records_end}
use Rattle.records.proofs.count_records.Given as goal

abbrev pub invariant-loop-count : goal.invariant-loop-count
invariant-loop-count l = record {
  going : Going (records_end l.bytes) (record_fault l.bytes) record_next (length l.bytes) (begin 0) (record_at l.count);
  within : 10 * l.count ≤ length l.bytes;
  few : l.count ≤ 4096;
}

abbrev pub decreases-loop-count : goal.decreases-loop-count
decreases-loop-count l = length l.bytes - 10 * l.count
