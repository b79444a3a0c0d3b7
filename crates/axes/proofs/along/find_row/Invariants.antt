-- The count is that of the named elements of the row up to j, and less than p. The next rank is in the row, since the ff of its last element leads there.
use Rattle.std.proofs.Common.{◌≡◌, ◌-◌, ◌≤◌, ◌<◌, ◌&&◌, length}
use Rattle.trees.specs.Names.{passes}
use Rattle.trees.specs.Signature.{entries_of, width}
use Rattle.xpath.specs.Select.{up_to}
use Rattle.axes.specs.Row.{in_row, Row}
use Rattle.axes.proofs.along.find_row.Given as goal

abbrev pub invariant-loop-j : goal.invariant-loop-j
invariant-loop-j l =
    Row l.request.tree.n (entries_of width l.request.tree.sig.now) l.up l.j l.last × (l.after ≤ l.j)
    × (l.met ≡ length (up_to l.j (λ i. in_row (entries_of width l.request.tree.sig.now) l.up l.after l.last i && passes l.request.name ((entries_of width l.request.tree.sig.now).name i))))
    × (l.met < l.p)

abbrev pub decreases-loop-j : goal.decreases-loop-j
decreases-loop-j l = l.last - l.j
