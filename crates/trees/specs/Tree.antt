-- Trees and numbers: data trees and twigs.
--   Forest              no element, or a first element with the forest below it and the forest after it
--   size f              the number of elements
--   Tree, whole t       one element with nothing beside it, and the forest that it is
--   Allowed any a       a is a name's code; 0 only where `any` says so
--   Grown any most t    t is a tree of at most `most` elements, each of whose names is allowed
use Rattle.std.specs.Prelude.{ℕ, suc, ◌+◌, ◌≤◌, ◌<◌, ◌≡◌, Bool, true, false}

-- a row of siblings: none, or a first one by its name, with the row of its children and the rest of the row
pub data Forest : Type 0 where
  none : Forest
  elem : (name : ℕ) (below after : Forest) → Forest

-- the number of elements
abbrev pub size : Forest → ℕ
size none = 0
size (elem a below after) = suc (size below + size after)

-- "A data tree has n elements": one root and what is below it
pub record Tree : Type 0 where
  pub name : ℕ
  pub below : Forest

-- the tree as a row of one
abbrev pub whole : Tree → Forest
whole t = elem t.name t.below none

-- "Names are codes 1 to 65,535. Code 0 stands for any name, in a twig or a name test only."
abbrev pub NotZero : Bool → ℕ → Type 0
NotZero true a = Unit {0}
NotZero false a = a ≡ 0 → ⊥

-- a name that an element may have, name 0 only where any name may stand
pub record Allowed (any : Bool) (a : ℕ) : Type 0 where
  pub code : a < 65536
  pub some : NotZero any a

-- each name of a row is allowed
abbrev pub Named : Bool → Forest → Type 0
Named any none = Unit {0}
Named any (elem a below after) = Allowed any a × Named any below × Named any after

-- "A data tree has n elements, 1 to 4,096; a twig has m nodes, 1 to 16."
pub record Grown (any : Bool) (most : ℕ) (t : Tree) : Type 0 where
  pub named : Named any (whole t)
  pub small : size (whole t) ≤ most
