-- A walk's numbers by their phase: over 2 they stand for none.
use Rattle.std.proofs.Common.{ℕ, ◌≡◌, ◌<◌, ◌≤◌, List, get_or, lt-ltb, le-ltb}
use Rattle.walking.specs.declared.Walk.{Walk}
use Rattle.telling.specs.Walk.{outside, walk_of, walk_numbers, kept_of}

pub walk_outside : (l : List ℕ) → 2 < get_or l 18 0 → walk_of l ≡ outside
walk_outside l h = simp (lt-ltb 2 (get_or l 18 0) h)

pub kept_given : (l : List ℕ) (w : Walk) → 2 < get_or l 18 0 → kept_of l w ≡ l
kept_given l w h = simp (lt-ltb 2 (get_or l 18 0) h)

pub kept_walk : (l : List ℕ) (w : Walk) → get_or l 18 0 ≤ 2 → kept_of l w ≡ walk_numbers w
kept_walk l w h = simp (le-ltb 2 (get_or l 18 0) h)
