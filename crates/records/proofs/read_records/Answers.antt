-- The judging pass says which of the three cases it is: refused, no room, or written.
use mathlib.Core.Path.{ap, ◌∙◌}
use Prim.Native.Nat.{ℕ}
use native.Mathlib.Omega.{arith}
use Rattle.bytes_read.specs.Scans.{Scan}
use Rattle.terms.specs.Room.{front_with}
use Rattle.records.specs.Records.{records_scan, numbers_from}
use Rattle.records.proofs.Filling.{numbers_length}
use Rattle.bytes_read.proofs.Rooms.{refused_with, short_with, written_with}
use Rattle.records.proofs.read_records.Goals as goal

pub returns-in_err-count_records : goal.returns-in_err-count_records
returns-in_err-count_records c = refused_with _ _ _ c.in_err-count_records.field-0.0 _ c.from_residual.ensures.1 c.in_err-count_records.ensures

pub returns-then-room-size : goal.returns-then-room-size
returns-then-room-size c =
    let e = c.in_ok-count_records.ensures in
    let b = c.args.bytes.now in
    let n = ap (λ (s : Scan). s.count) e.0 in
    short_with _ _ _ _ c.into.ensures e.1 (omega (arith, n, numbers_length b 0 (records_scan b).state.count))

pub returns : goal.returns
returns c =
    let e = c.in_ok-count_records.ensures in
    let b = c.args.bytes.now in
    let n = c.from-size.ensures ∙ ap (λ (s : Scan). s.count) e.0 in
    let k = numbers_length b 0 (records_scan b).state.count in
    written_with _ _ _ _ _ e.1 (omega (arith, n, k)) (omega (arith, n, k))
    (c.fill_numbers.ensures ∙ ap (λ (x : ℕ). front_with (numbers_from b 0 x) c.args.room.now) n)
