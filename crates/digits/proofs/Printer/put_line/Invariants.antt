-- What is still to be printed are the numbers from number i on.
use Rattle.std.proofs.Common.{drop, map}
use Rattle.digits.specs.Numbers.{numbers}
use Rattle.digits.proofs.Onward.{Onward}
use Rattle.digits.proofs.Printer.put_line.Given as goal

abbrev pub invariant-loop-i : goal.invariant-loop-i
invariant-loop-i g l = Onward (numbers (map g.T.Number.value l.list)) (numbers (drop l.i (map g.T.Number.value l.list))) l.initial.self l.self
