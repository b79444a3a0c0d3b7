-- What is left to judge after the last context says the same as the whole list.
use Rattle.std.proofs.Common.{◌≡◌, ◌&&◌, drop}
use Rattle.xpath.specs.Select.{rises, within}
use Rattle.xpath.specs.Rising.{rises_from}
use Rattle.marks.proofs.is_ascending.Given as goal

abbrev pub invariant-loop-c : goal.invariant-loop-c
invariant-loop-c l = (within l.n l.contexts && rises l.contexts) ≡ rises_from l.n l.last (drop l.c-index l.contexts)
