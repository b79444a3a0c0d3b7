-- XPath's axes on the elements of a tree: parents, ancestors and document order only. No rank, pointer or signature is named here.
--   InOrder l           the list is in document order, each element once
--   Lists P l           the list has just the elements that P says, in document order
--   Siblings x y        x and y have one parent
--   OnAxis axis x y     y is on the axis of the context x
--   Passes test y       the name of y passes the name test
--   Chosen              on the axis, and its name passes
--   Pth axis P p y      y is the p-th element that P says, counted in document order on every axis
--   Kept                the p-th of those chosen; all of them where there is no position
--   InUnion             kept for one of the contexts
use Rattle.std.specs.Prelude.{ℕ, ◌≡◌, ◌⊎◌, eqb, length}
use mathlib.Core.List.{List, [], ◌∷◌, Memᴰ}
use Rattle.turns.specs.Pick.{pick}
use Rattle.trees.specs.Tree.{Forest}
use Rattle.trees.specs.Nodes.{Node, name_of, Parent, Ancestor, Before}

-- each element comes before all that stand after it
abbrev pub InOrder : {f : Forest} → List (Node f) → Type 0
InOrder [] = Unit {0}
InOrder (x ∷ l) = ((y : Node _) → Memᴰ y l → Before x y) × InOrder l

-- just the elements that P says
pub record Lists {f : Forest} (P : Node f → Type 0) (l : List (Node f)) : Type 0 where
  pub order : InOrder l
  pub sound : (y : Node f) → Memᴰ y l → P y
  pub complete : (y : Node f) → P y → Memᴰ y l

-- one element is the parent of both
abbrev pub Siblings : {f : Forest} → Node f → Node f → Type 0
Siblings x y = (z : Node _) × Parent z x × Parent z y

-- "0 self, 1 child, 2 descendant, 3 descendant-or-self, 4 parent, 5 ancestor, 6 ancestor-or-self, 7 following, 8 preceding,
-- 9 following-sibling, 10 preceding-sibling"
abbrev pub OnAxis : ℕ → {f : Forest} → Node f → Node f → Type 0
OnAxis axis x y =
    pick (eqb axis 0) (x ≡ y)
    (pick (eqb axis 1) (Parent x y)
    (pick (eqb axis 2) (Ancestor x y)
    (pick (eqb axis 3) ((x ≡ y) ⊎ Ancestor x y)
    (pick (eqb axis 4) (Parent y x)
    (pick (eqb axis 5) (Ancestor y x)
    (pick (eqb axis 6) ((y ≡ x) ⊎ Ancestor y x)
    (pick (eqb axis 7) (Before x y × (Ancestor x y → ⊥))
    (pick (eqb axis 8) (Before y x × (Ancestor y x → ⊥))
    (pick (eqb axis 9) (Before x y × Siblings x y)
    (Before y x × Siblings y x))))))))))

-- "Code 0 stands for any name, in a twig or a name test only."
abbrev pub Passes : ℕ → {f : Forest} → Node f → Type 0
Passes test y = (test ≡ 0) ⊎ (test ≡ name_of y)

-- on the axis, and its name passes
abbrev pub Chosen : ℕ → ℕ → {f : Forest} → Node f → Node f → Type 0
Chosen axis test x y = OnAxis axis x y × Passes test y

-- "the p-th element that passes [..], counted in document order": with those before it that pass, there are p
abbrev pub Pth : ℕ → {f : Forest} → (Node f → Type 0) → ℕ → Node f → Type 0
Pth axis P p y = P y × ((l : List (Node _)) × Lists (λ z. P z × ((z ≡ y) ⊎ Before z y)) l × (length l ≡ p))

-- "0 means no position"
abbrev pub Kept : ℕ → ℕ → {f : Forest} → (Node f → Type 0) → Node f → Type 0
Kept axis p P y = pick (eqb p 0) (P y) (Pth axis P p y)

-- "for each context separately", and then the union
abbrev pub InUnion : ℕ → ℕ → ℕ → {f : Forest} → List (Node f) → Node f → Type 0
InUnion axis test p xs y = (x : Node _) × Memᴰ x xs × Kept axis p (Chosen axis test x) y
