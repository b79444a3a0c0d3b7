-- What was asked at the start is what is still asked at each record; a record without a fault moves on by its ten bytes.
use mathlib.Core.Path.{sym, ◌∙◌}
use native.Mathlib.Omega.{arith}
use Rattle.std.proofs.lemmas.Result.{err_from_is_err_and}
use Rattle.terms.specs.Faults.{some_number}
use Rattle.bytes_read.proofs.Scanning.{going_start, going_end, going_fault, going_next}
use Rattle.records.proofs.Faults.{record_after, record_passed}
use Rattle.records.proofs.count_records.Goals as goal

pub loop-count-init : goal.loop-count-init
loop-count-init c = record { going = going_start _ _ _ _ _; within = omega arith; few = omega arith }

pub returns-in_err-test_record : goal.returns-in_err-test_record
returns-in_err-test_record c =
    let p = err_from_is_err_and c.from_residual.result c.from_residual.ensures.1 in
    let came = going_fault _ _ _ _ _ _ _ c.loop-count.invariant.going (sym c.is_records_end.ensures ∙ c.loop-count-test.true)
    c.in_err-test_record.ensures (some_number c.in_err-test_record.field-0.0) in
    rw (p.1, p.2) came.number_is

pub loop-count-smaller : goal.loop-count-smaller
loop-count-smaller c = let p = record_passed _ _ (sym c.in_ok-test_record.ensures) in omega (arith, p.whole)

pub loop-count-preserved : goal.loop-count-preserved
loop-count-preserved c =
    let l = c.loop-count in
    let z = sym c.in_ok-test_record.ensures in
    let p = record_passed _ _ z in
    record {
      going = going_next _ _ _ _ _ _ _ l.invariant.going (sym c.is_records_end.ensures ∙ c.loop-count-test.true) z (record_after l.count)
          (omega (arith, p.whole)) (omega arith);
      within = omega (arith, p.whole);
      few = omega (arith, p.room);
    }

pub returns : goal.returns
returns c =
    let l = c.loop-count in
    let came = going_end _ _ _ _ _ _ l.invariant.going (sym c.is_records_end.ensures ∙ c.loop-count-test.false) in
    (came.state, sym came.number_is, l.invariant.few, l.invariant.within)
