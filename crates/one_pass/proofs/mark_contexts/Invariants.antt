-- The contexts so far have a mark.
use Rattle.std.proofs.Common.{eqb}
use Rattle.one_pass.proofs.Contexts.{Each}
use Rattle.one_pass.proofs.mark_contexts.Given as goal

abbrev pub invariant-loop-c : goal.invariant-loop-c
invariant-loop-c l = Each l.request.tree.n (λ c j. eqb c j) l.request.contexts.now l.c-index l.from
