-- The judging pass says which of the three cases it is: refused, no room, or written.
use Prim.Native.Nat.{◌/◌}
use lib.ListN.{length}
use Rattle.records.proofs.Filling.{bytes_length}
use Rattle.bytes_read.proofs.Rooms.{refused_with, short_with, written_with}
use native.Mathlib.Omega.{arith}
use mathlib.Core.Path.{sym}
use Rattle.record_writing.proofs.write_records.Goals as goal

pub returns-in_err-test_signature : goal.returns-in_err-test_signature
returns-in_err-test_signature c = refused_with _ _ _ c.in_err-test_signature.field-0.0 _ c.from_residual.ensures.1 c.in_err-test_signature.ensures

pub returns-then-room-size : goal.returns-then-room-size
returns-then-room-size c =
    let s = c.args.sig.now in
    short_with _ _ _ _ c.into.ensures (sym c.in_ok-test_signature.ensures) (omega (arith, bytes_length s 0 (length s / 4)))

pub returns : goal.returns
returns c =
    let s = c.args.sig.now in
    let k = bytes_length s 0 (length s / 4) in
    written_with _ _ _ _ _ (sym c.in_ok-test_signature.ensures) (omega (arith, k)) (omega (arith, k)) c.fill_records.ensures
