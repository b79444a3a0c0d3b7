-- The word, and then number after number, each with what stands after it.
use Rattle.std.proofs.Common.{◌≡◌, [], ◌+◌, ◌∙◌, map, drop, length, get_or, arith}
use Rattle.std.proofs.lemmas.List.{length-map}
use Rattle.digits.specs.Numbers.{after, numbers}
use Rattle.digits.proofs.Onward.{printed_then, onward_more, onward_done}
use Rattle.digits.proofs.Rows.{value_at, numbers_at, numbers_end, after_more, after_last}
use Rattle.digits.proofs.Printer.put_line.Goals as goal
use Rattle.digits.proofs.Printer.put_line.Goals.{then-i-list, else-i-list}

pub loop-i-preserved : goal.loop-i-preserved
loop-i-preserved g c =
    let v = g.T.Number.value in
    let l = map v c.args.list.now in
    let i = c.loop-i.i in
    let k : length l ≡ length c.args.list.now = length-map c.args.list.now v in
    let e : c.if-i-list.after ≡ after (drop (i + 1) l)
    = elim c.if-i-list.branch [
      | then-i-list w ↦ w.after-is ∙ after_more l (i + 1) (omega arith)
      | else-i-list w ↦ w.after-is ∙ after_last l (i + 1) (omega arith)
    ] in
    let n : c.wide.result ≡ get_or l i 0 = value_at v c.args.list.now i _ c.loop-i-test.true c.index-list-i.is c.wide.ensures in
    onward_more _ (numbers_at l i (omega arith)) c.loop-i.invariant
    (printed_then (rw n at c.put_decimal.ensures) (rw e at c.put_byte.ensures))

pub returns : goal.returns
returns g c =
    let i = c.loop-i in
    let l = map g.T.Number.value c.args.list.now in
    let k : length l ≡ length c.args.list.now = length-map c.args.list.now g.T.Number.value in
    let e : numbers (drop i.i l) ≡ [] = numbers_end l i.i (omega arith) in
    printed_then {r = i.self} c.put_word.ensures (onward_done {q = i.self} (rw e at i.invariant))
