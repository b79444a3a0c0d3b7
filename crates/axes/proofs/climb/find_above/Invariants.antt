-- What is left of the count is what is chosen up to j; it falls below p only where the climb ends.
use Rattle.std.proofs.Common.{◌≡◌, ◌≤◌, length}
use Rattle.trees.specs.Signature.{entries_of, width}
use Rattle.xpath.specs.Select.{up_to}
use Rattle.xpath.specs.Axes.{chosen}
use Rattle.axes.proofs.Climbs.{Way}
use Rattle.axes.proofs.climb.find_above.Given as goal

abbrev pub invariant-loop-left : goal.invariant-loop-left
invariant-loop-left l =
    Way (entries_of width l.request.tree.sig.now) l.start l.j
    × (l.left ≡ length (up_to l.j (chosen 6 l.request.tree.n (entries_of width l.request.tree.sig.now).fa (entries_of width l.request.tree.sig.now).name l.request.name l.start)))
    × (l.p ≤ length (up_to l.request.tree.n (chosen 6 l.request.tree.n (entries_of width l.request.tree.sig.now).fa (entries_of width l.request.tree.sig.now).name l.request.name l.start)) → l.p ≤ l.left)

abbrev pub decreases-loop-left : goal.decreases-loop-left
decreases-loop-left l = l.j
