-- The count is that of the named ranks up to the one before. It stays below p until it comes to p at a rank whose name passes, which is the rank that is
-- wanted.
use Rattle.std.proofs.Common.{◌≡◌, ◌≤◌, ◌<◌, length}
use Rattle.trees.specs.Signature.{entries_of, width}
use Rattle.xpath.specs.Select.{up_to}
use Rattle.searching.specs.Only.{named_after}
use Rattle.searching.proofs.find_named.Given as goal

abbrev pub invariant-loop-before : goal.invariant-loop-before
invariant-loop-before l =
    (l.met ≡ length (up_to l.before (named_after l.after l.test (entries_of width l.sig).name))) × (1 ≤ l.p → l.met < l.p)
