-- What is still to be printed is the word from byte number byte-index on.
use Rattle.std.proofs.Common.{drop}
use Rattle.digits.proofs.Onward.{Onward}
use Rattle.digits.proofs.Printer.put_word.Given as goal

abbrev pub invariant-loop-byte : goal.invariant-loop-byte
invariant-loop-byte l = Onward l.word (drop l.byte-index l.word) l.initial.self l.self
