-- The elements of a tree, and what document 01 and XPath say of two of them. No rank, pointer or signature is named here.
--   Node f              an element of a row
--   name_of x            its name
--   Below x y           y is below x
--   Top y, Parent x y   y is in the outermost row; x is the parent of y
--   Ancestor x y        x is the parent of y, or its parent, and so on
--   Before x y          x comes before y in document order
--   opening f, closing f  the elements in the order in which they open, and in which they close
--   ancestors y         the elements that y is below, outermost first
--   Place l i x         x is the i-th of a list, counted from 1
use Rattle.std.specs.Prelude.{ℕ, suc, List, [], ◌∷◌, ◌++◌, map, length}
use Rattle.trees.specs.Tree.{Forest, none, elem}

-- an element of a row: the first one, one below it, or one after it
pub data Node : Forest → Type 0 where
  here : {a : ℕ} {below after : Forest} → Node (elem a below after)
  under : {a : ℕ} {below after : Forest} → Node below → Node (elem a below after)
  beside : {a : ℕ} {below after : Forest} → Node after → Node (elem a below after)

-- the element's name
unfoldable pub name_of : {f : Forest} → Node f → ℕ
name_of (here {a = a}) = a
name_of (under x) = name_of x
name_of (beside x) = name_of x

-- y is below x
abbrev pub Below : {f : Forest} → Node f → Node f → Type 0
Below here here = ⊥
Below here (under y) = Unit {0}
Below here (beside y) = ⊥
Below (under x) here = ⊥
Below (under x) (under y) = Below x y
Below (under x) (beside y) = ⊥
Below (beside x) here = ⊥
Below (beside x) (under y) = ⊥
Below (beside x) (beside y) = Below x y

-- y is in the outermost row
abbrev pub Top : {f : Forest} → Node f → Type 0
Top here = Unit {0}
Top (under y) = ⊥
Top (beside y) = Top y

-- x is the parent of y
abbrev pub Parent : {f : Forest} → Node f → Node f → Type 0
Parent here here = ⊥
Parent here (under y) = Top y
Parent here (beside y) = ⊥
Parent (under x) here = ⊥
Parent (under x) (under y) = Parent x y
Parent (under x) (beside y) = ⊥
Parent (beside x) here = ⊥
Parent (beside x) (under y) = ⊥
Parent (beside x) (beside y) = Parent x y

-- x is the parent of y, or its parent, and so on
pub data Ancestor {f : Forest} (x : Node f) : Node f → Type 0 where
  parent : {y : Node f} → Parent x y → Ancestor x y
  above : {y z : Node f} → Ancestor x y → Parent y z → Ancestor x z

-- x comes before y in document order: x opens before y
abbrev pub Before : {f : Forest} → Node f → Node f → Type 0
Before here here = ⊥
Before here (under y) = Unit {0}
Before here (beside y) = Unit {0}
Before (under x) here = ⊥
Before (under x) (under y) = Before x y
Before (under x) (beside y) = Unit {0}
Before (beside x) here = ⊥
Before (beside x) (under y) = ⊥
Before (beside x) (beside y) = Before x y

-- "pre counts from 1 as elements open": the elements in that order
unfoldable pub opening : (f : Forest) → List (Node f)
opening none = []
opening (elem a below after) = here ∷ (map under (opening below) ++ map beside (opening after))

-- "post from 1 as they close": the elements in that order
unfoldable pub closing : (f : Forest) → List (Node f)
closing none = []
closing (elem a below after) = map under (closing below) ++ (here ∷ map beside (closing after))

-- the elements that y is below, outermost first
unfoldable pub ancestors : {f : Forest} → Node f → List (Node f)
ancestors here = []
ancestors (under y) = here ∷ map under (ancestors y)
ancestors (beside y) = map beside (ancestors y)

-- "The level of an entry is the number of its ancestors."
unfoldable pub level_of : {f : Forest} → Node f → ℕ
level_of y = length (ancestors y)

-- x is the i-th of the list, counted from 1
pub data Place {A : Type 0} : List A → ℕ → A → Type 0 where
  first : {x : A} {l : List A} → Place (x ∷ l) 1 x
  next : {x y : A} {l : List A} {i : ℕ} → Place l i x → Place (y ∷ l) (suc i) x
