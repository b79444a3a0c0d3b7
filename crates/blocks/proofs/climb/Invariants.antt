-- The level of the entry climbed from is the steps so far and the level of the entry reached, whose parent is up.
use Rattle.std.proofs.Common.{ℕ, ◌≡◌, ◌+◌, ◌≤◌}
use Rattle.trees.specs.Signature.{entries_of, width}
use Rattle.xpath.specs.Axes.{level_of}
use Rattle.blocks.proofs.climb.Given as goal

abbrev pub invariant-loop-up : goal.invariant-loop-up
invariant-loop-up l =
    (i : ℕ) × (1 ≤ i) × (i ≤ l.tree.n) × (l.up ≡ (entries_of width l.tree.sig.now).fa i)
    × (l.level + level_of l.tree.n (entries_of width l.tree.sig.now).fa i ≡ level_of l.tree.n (entries_of width l.tree.sig.now).fa l.start)

abbrev pub decreases-loop-up : goal.decreases-loop-up
decreases-loop-up l = l.up
