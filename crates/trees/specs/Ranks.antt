-- The two ranks of an element, and the numbers of its entry, each by what it means on the tree.
--   pre x, post x       the places of x in the order of opening, and in that of closing
--   held_by x            the number of elements below x
--   FirstPast x k       k is the first rank after x that is not below x, or one past the last
--   Climbs fa i j       j is met on the way up from i by fa
use Rattle.std.specs.Prelude.{ℕ, ◌+◌, ◌≤◌, ◌<◌, ◌≡◌}
use Rattle.trees.specs.Tree.{Forest, size}
use Rattle.trees.specs.Nodes.{Node, here, under, beside, Below}

-- "pre counts from 1 as elements open"
unfoldable pub pre : {f : Forest} → Node f → ℕ
pre here = 1
pre (under x) = 1 + pre x
pre (beside {below = below} x) = 1 + size below + pre x

-- "post from 1 as they close"
unfoldable pub post : {f : Forest} → Node f → ℕ
post (here {below = below}) = size below + 1
post (under x) = post x
post (beside {below = below} x) = size below + 1 + post x

-- the number of elements below x
unfoldable pub held_by : {f : Forest} → Node f → ℕ
held_by (here {below = below}) = size below
held_by (under x) = held_by x
held_by (beside x) = held_by x

-- "ff is the first rank after i that is not below i, or n+1."
pub record FirstPast {f : Forest} (x : Node f) (k : ℕ) : Type 0 where
  pub after : pre x < k
  pub upto : k ≤ size f + 1
  pub between : (y : Node f) → pre x < pre y → pre y < k → Below x y
  pub past : (y : Node f) → pre y ≡ k → Below x y → ⊥

-- "fa is the parent, or 0 at the root": one or more steps of fa lead from i to j, none of them to 0
pub data Climbs (fa : ℕ → ℕ) : ℕ → ℕ → Type 0 where
  once : {i j : ℕ} → fa i ≡ j → 1 ≤ j → Climbs fa i j
  more : {i k j : ℕ} → fa i ≡ k → 1 ≤ k → Climbs fa k j → Climbs fa i j
