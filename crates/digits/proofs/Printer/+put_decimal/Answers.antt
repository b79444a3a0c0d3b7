-- One digit below ten; else the digits of the tenth part and the last one.
use Rattle.digits.proofs.Decimals.{printed_one, printed_ten}
use Rattle.digits.proofs.Printer.+put_decimal.Goals as goal
use Rattle.digits.proofs.Printer.+put_decimal.Goals.{then-number-ge10, else-number-ge10}

pub returns : goal.returns
returns t c =
    elim c.if-number-ge10.branch [
      | then-number-ge10 w ↦
          printed_ten c.args.number _ w.if-number-ge10.true c.digit.ensures w.put_decimal.ensures (rw w.self-is at c.put_byte.ensures)
      | else-number-ge10 w ↦ printed_one c.args.number _ w.if-number-ge10.false c.digit.ensures (rw w.self-is at c.put_byte.ensures)
    ]
