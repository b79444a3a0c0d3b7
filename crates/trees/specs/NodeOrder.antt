-- What one element is to another, read off their ranks.
--   before_pre, pre_before    x comes before y exactly if its pre is less
--   below_pre, pre_below      y is below x exactly if its pre lies among the held_by x ranks after that of x
--   Among x y                 pre of y is one of those ranks
--   below_before, below_trans, below_irreflexive, below_held   what is below comes after, and so on down
--   below_post, post_below    for x before y, y is below x exactly if its post is less
--   follows_post              otherwise its post is greater
--   held_high                 the ranks of what is below x end with the row
--   level_ranks               pre and what x holds make up post and level
use Rattle.std.specs.Prelude.{◌+◌, ◌≤◌, ◌<◌, ◌≡◌}
use Rattle.std.proofs.Common.{ap, ⊎_elim, arith, eq-or-lt_of_le}
use Rattle.std.proofs.lemmas.List.{length-map}
use Rattle.trees.specs.Tree.{Forest, size}
use Rattle.trees.specs.Nodes.{Node, here, under, beside, Below, Before, ancestors, level_of}
use Rattle.trees.specs.Ranks.{pre, post, held_by}
use Rattle.trees.specs.NodeRanks.{pre_low, pre_high, post_high, post_injective}
use Rattle.trees.specs.Order.{lt_or_ge}

-- the ranks of what is below x end with the row
pub held_high : {f : Forest} (x : Node f) → pre x + held_by x ≤ size f
unfolding pre held_by
held_high here = omega arith
held_high (under x) = omega (arith, held_high x)
held_high (beside x) = omega (arith, held_high x)

-- ---- document order is the order of pre

pub before_pre : {f : Forest} (x y : Node f) → Before x y → pre x < pre y
unfolding pre
before_pre here here h = absurd h
before_pre here (under y) h = omega (arith, pre_low y)
before_pre here (beside y) h = omega (arith, pre_low y)
before_pre (under x) here h = absurd h
before_pre (under x) (under y) h = omega (arith, before_pre x y h)
before_pre (under x) (beside y) h = omega (arith, pre_high x, pre_low y)
before_pre (beside x) here h = absurd h
before_pre (beside x) (under y) h = absurd h
before_pre (beside x) (beside y) h = omega (arith, before_pre x y h)

pub pre_before : {f : Forest} (x y : Node f) → pre x < pre y → Before x y
unfolding pre
pre_before here here h = omega arith
pre_before here (under y) h = tt
pre_before here (beside y) h = tt
pre_before (under x) here h = omega arith
pre_before (under x) (under y) h = pre_before x y (omega arith)
pre_before (under x) (beside y) h = tt
pre_before (beside x) here h = omega arith
pre_before (beside x) (under y) h = omega (arith, pre_high y, pre_low x)
pre_before (beside x) (beside y) h = pre_before x y (omega arith)

-- ---- what is below x has the ranks right after that of x

-- pre of y is one of the held_by x ranks after that of x
pub record Among {f : Forest} (x y : Node f) : Type 0 where
  pub after : pre x < pre y
  pub within : pre y < pre x + 1 + held_by x

pub below_pre : {f : Forest} (x y : Node f) → Below x y → Among x y
unfolding pre held_by
below_pre here here h = absurd h
below_pre here (under y) h = record { after = omega (arith, pre_low y); within = omega (arith, pre_high y) }
below_pre here (beside y) h = absurd h
below_pre (under x) here h = absurd h
below_pre (under x) (under y) h = let b = below_pre x y h in record { after = omega (arith, b.after); within = omega (arith, b.within) }
below_pre (under x) (beside y) h = absurd h
below_pre (beside x) here h = absurd h
below_pre (beside x) (under y) h = absurd h
below_pre (beside x) (beside y) h = let b = below_pre x y h in record { after = omega (arith, b.after); within = omega (arith, b.within) }

pub pre_below : {f : Forest} (x y : Node f) → pre x < pre y → pre y < pre x + 1 + held_by x → Below x y
unfolding pre held_by
pre_below here here h g = omega arith
pre_below here (under y) h g = tt
pre_below here (beside y) h g = omega (arith, pre_low y)
pre_below (under x) here h g = omega arith
pre_below (under x) (under y) h g = pre_below x y (omega arith) (omega arith)
pre_below (under x) (beside y) h g = omega (arith, held_high x, pre_low y)
pre_below (beside x) here h g = omega arith
pre_below (beside x) (under y) h g = omega (arith, pre_high y, pre_low x)
pre_below (beside x) (beside y) h g = pre_below x y (omega arith) (omega arith)

-- ---- what is below comes after, and so on down

pub below_before : {f : Forest} (x y : Node f) → Below x y → Before x y
below_before x y h = pre_before x y (below_pre x y h).after

pub below_irreflexive : {f : Forest} (x : Node f) → Below x x → ⊥
below_irreflexive x h = omega (arith, (below_pre x x h).after)

-- what an element below x holds, x holds
pub below_held : {f : Forest} (x y : Node f) → Below x y → pre y + held_by y ≤ pre x + held_by x
unfolding pre held_by
below_held here here h = absurd h
below_held here (under y) h = omega (arith, held_high y)
below_held here (beside y) h = absurd h
below_held (under x) here h = absurd h
below_held (under x) (under y) h = omega (arith, below_held x y h)
below_held (under x) (beside y) h = absurd h
below_held (beside x) here h = absurd h
below_held (beside x) (under y) h = absurd h
below_held (beside x) (beside y) h = omega (arith, below_held x y h)

pub below_trans : {f : Forest} (x y z : Node f) → Below x y → Below y z → Below x z
below_trans x y z p q =
    let a = below_pre x y p in
    let b = below_pre y z q in
    pre_below x z (omega (arith, a.after, b.after)) (omega (arith, b.within, below_held x y p))

-- ---- "For i < j, j is below i exactly when post of j is less than post of i; otherwise j follows i."

pub below_post : {f : Forest} (x y : Node f) → Below x y → post y < post x
unfolding post
below_post here here h = absurd h
below_post here (under y) h = omega (arith, post_high y)
below_post here (beside y) h = absurd h
below_post (under x) here h = absurd h
below_post (under x) (under y) h = below_post x y h
below_post (under x) (beside y) h = absurd h
below_post (beside x) here h = absurd h
below_post (beside x) (under y) h = absurd h
below_post (beside x) (beside y) h = omega (arith, below_post x y h)

pub post_below : {f : Forest} (x y : Node f) → Before x y → post y < post x → Below x y
unfolding post
post_below here here b h = b
post_below here (under y) b h = tt
post_below here (beside y) b h = omega arith
post_below (under x) here b h = b
post_below (under x) (under y) b h = post_below x y b h
post_below (under x) (beside y) b h = omega (arith, post_high x)
post_below (beside x) here b h = b
post_below (beside x) (under y) b h = b
post_below (beside x) (beside y) b h = post_below x y b (omega arith)

pub follows_post : {f : Forest} (x y : Node f) → Before x y → (Below x y → ⊥) → post x < post y
follows_post x y b n =
    ⊎_elim (λ (h : post x < post y). h)
    (λ (h : post y ≤ post x). ⊎_elim
    (λ (e : post y ≡ post x). absurd (same e))
    (λ (l : post y < post x). absurd (n (post_below x y b l)))
    (eq-or-lt_of_le h))
    (lt_or_ge (post x) (post y))
  where
    same : post y ≡ post x → ⊥
    same e = omega (arith, before_pre x y b, ap pre (post_injective y x e))

-- ---- "The level of an entry is the number of its ancestors."

pub level_ranks : {f : Forest} (x : Node f) → pre x + held_by x ≡ post x + level_of x
unfolding pre post held_by level_of ancestors
level_ranks here = omega arith
level_ranks (under {a = a} {after = r} x) = omega (arith, level_ranks x, length-map (ancestors x) (under {a = a} {after = r}))
level_ranks (beside {a = a} {below = k} x) = omega (arith, level_ranks x, length-map (ancestors x) (beside {a = a} {below = k}))
