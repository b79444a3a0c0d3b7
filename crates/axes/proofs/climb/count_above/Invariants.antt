-- What was counted and what is chosen up to j are together what is chosen.
use Rattle.std.proofs.Common.{◌≡◌, ◌+◌, length}
use Rattle.trees.specs.Signature.{entries_of, width}
use Rattle.xpath.specs.Select.{up_to}
use Rattle.xpath.specs.Axes.{chosen}
use Rattle.axes.proofs.Climbs.{Way}
use Rattle.axes.proofs.climb.count_above.Given as goal

abbrev pub invariant-loop-j : goal.invariant-loop-j
invariant-loop-j l =
    Way (entries_of width l.request.tree.sig.now) l.start l.j
    × (l.met + length (up_to l.j (chosen 6 l.request.tree.n (entries_of width l.request.tree.sig.now).fa (entries_of width l.request.tree.sig.now).name l.request.name l.start))
    ≡ length (up_to l.request.tree.n (chosen 6 l.request.tree.n (entries_of width l.request.tree.sig.now).fa (entries_of width l.request.tree.sig.now).name l.request.name l.start)))

abbrev pub decreases-loop-j : goal.decreases-loop-j
decreases-loop-j l = l.j
