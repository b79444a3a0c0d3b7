-- What is still to be printed is the word from byte number byte-index on.
use Rattle.std.proofs.lemmas.List.{drop_more, drop_all}
use Rattle.digits.proofs.Onward.{onward_more, onward_done}
use Rattle.digits.proofs.Printer.put_word.Goals as goal

pub loop-byte-preserved : goal.loop-byte-preserved
loop-byte-preserved c = onward_more _ (drop_more c.args.word.now _ 0 c.loop-byte-test.true) c.loop-byte.invariant c.put_byte.ensures

pub returns : goal.returns
returns c = onward_done (rw (drop_all _ c.args.word.now c.loop-byte-test.false) at c.loop-byte.invariant)
