-- The count is that of the chosen elements before j, and less than p.
use Rattle.std.proofs.Common.{◌≡◌, ◌<◌, ◌+◌, ℕ, length}
use Rattle.trees.specs.Signature.{entries_of, width}
use Rattle.xpath.specs.Select.{up_to}
use Rattle.xpath.specs.Axes.{chosen}
use Rattle.axes.proofs.along.find_before.Given as goal

abbrev pub invariant-loop-j : goal.invariant-loop-j
invariant-loop-j l =
    (i : ℕ) × (l.j ≡ i + 1)
    × (l.met ≡ length (up_to i (chosen 8 l.request.tree.n (entries_of width l.request.tree.sig.now).fa (entries_of width l.request.tree.sig.now).name l.request.name l.c)))
    × (l.met < l.p)
