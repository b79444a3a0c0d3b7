-- What was asked at the start is what is still asked at each tag, and the tags passed are built; a tag without a fault opens or closes an element.
use mathlib.Core.Path.{◌≡◌}
use mathlib.Core.Bool.{false}
use Prim.Native.Nat.{◌-◌}
use lib.ListN.{length}
use Rattle.tag_scan.specs.Cursors.{scan_of}
use Rattle.tag_scan.specs.TagLists.{tree_end}
use Rattle.tag_building.proofs.Passing.{Passing}
use Rattle.tag_building.proofs.build_tree.Given as goal

abbrev pub invariant-loop-limits : goal.invariant-loop-limits
invariant-loop-limits l =
    Passing l.whole l.limits.any_name l.limits.most l.bytes l.from l.initial.own l.own (scan_of l.cursor) l.top × (tree_end l.whole l.bytes (scan_of l.cursor) ≡ false)

abbrev pub decreases-loop-limits : goal.decreases-loop-limits
decreases-loop-limits l = length l.bytes - l.cursor.at
