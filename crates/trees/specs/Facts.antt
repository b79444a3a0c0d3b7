-- What every call above uses of a tree's signature, over name, post, ff and fa as functions of the rank.
--   Each n e j       the bounds of entry j
--   Inside e i j     j is below i, for i < j: its post is less, its block lies in that of i, its parent is i or below i
--   Follows e i j    j follows i, for i < j: its post is greater, and its parent is no element of the block of i
--   Facts n e        all of it, for n entries
use Rattle.std.specs.Prelude.{ℕ, ◌+◌, ◌≤◌, ◌<◌, ◌≡◌, ◌⊎◌}
use Rattle.trees.specs.Signature.{Entries}

-- the bounds of entry j
pub record Each (n : ℕ) (e : Entries) (j : ℕ) : Type 0 where
  pub post_low : 1 ≤ e.post j
  pub post_high : e.post j ≤ n
  pub ff_low : j < e.ff j
  pub ff_high : e.ff j ≤ n + 1
  pub fa_high : e.fa j < j

-- j is below i
pub record Inside (e : Entries) (i j : ℕ) : Type 0 where
  pub inside : j < e.ff i
  pub less : e.post j < e.post i
  pub nested : e.ff j ≤ e.ff i
  pub under : i ≤ e.fa j

-- j follows i
pub record Follows (e : Entries) (i j : ℕ) : Type 0 where
  pub outside : e.ff i ≤ j
  pub greater : e.post i < e.post j
  pub apart : (e.fa j < i) ⊎ (e.ff i ≤ e.fa j)

-- "For i < j, j is below i exactly when post of j is less than post of i; otherwise j follows i."
pub record Facts (n : ℕ) (e : Entries) : Type 0 where
  pub some : 1 ≤ n
  pub root_fa : e.fa 1 ≡ 0
  pub root_ff : e.ff 1 ≡ n + 1
  pub each : (j : ℕ) → 1 ≤ j → j ≤ n → Each n e j
  pub pair : (i j : ℕ) → 1 ≤ i → i < j → j ≤ n → Inside e i j ⊎ Follows e i j
  pub inner : (j : ℕ) → 1 < j → j ≤ n → 1 ≤ e.fa j
  pub own : (j : ℕ) → 1 < j → j ≤ n → Inside e (e.fa j) j
