-- The eleven axes in XPath's words, over the number of elements, and over the parent and the name as functions of the rank.
-- The rank 0 is no element: a parent of 0 says that there is none. Nothing but the parent is followed.
--   met parent k a j            a is met within k steps on the way up from j
--   parent_of, ancestor_of        a is the parent of j; a is its parent, or the parent's parent, and so on
--   ancestor_or_self              the same or j itself
--   whole_before                 a comes before j, with all that is below it
--   siblings, sibling_before     two elements with one parent; a comes first
--   on_axis axis n parent c j    j is on the axis of the context c
--   chosen                      on the axis, and its name passes
--   pth axis p P j              j is the p-th element that passes P, as the axis counts
--   kept axis p P j             the same, or all that pass P where there is no position
--   answer_of                    "the answer is the union, ascending, each rank once"
--   level_of n parent i          "The level of an entry is the number of its ancestors."
use Rattle.std.specs.Prelude.{ℕ, zero, suc, List, Bool, false, not, ◌&&◌, ◌||◌, ltb, eqb, length}
use Rattle.turns.specs.Pick.{pick}
use Rattle.trees.specs.Names.{passes}
use Rattle.xpath.specs.Select.{up_to, some}

-- a is the parent of j
unfoldable pub parent_of : (ℕ → ℕ) → ℕ → ℕ → Bool
parent_of parent a j = eqb (parent j) a

-- within k steps: the parent of j, its parent, and so on, up to the root, which has none
unfoldable pub met : (ℕ → ℕ) → ℕ → ℕ → ℕ → Bool
met parent zero a j = false
met parent (suc k) a j = pick (eqb (parent j) 0) false (parent_of parent a j || met parent k a (parent j))

-- a is an ancestor of j: no way up is longer than the number of elements
abbrev pub ancestor_of : ℕ → (ℕ → ℕ) → ℕ → ℕ → Bool
ancestor_of n parent a j = met parent n a j

-- a is j itself or an ancestor of j
unfoldable pub ancestor_or_self : ℕ → (ℕ → ℕ) → ℕ → ℕ → Bool
ancestor_or_self n parent a j = eqb a j || ancestor_of n parent a j

-- in document order a comes before j, and is no ancestor of j
unfoldable pub whole_before : ℕ → (ℕ → ℕ) → ℕ → ℕ → Bool
whole_before n parent a j = ltb a j && not (ancestor_of n parent a j)

-- two elements with one parent; the root has no siblings
abbrev pub siblings : (ℕ → ℕ) → ℕ → ℕ → Bool
siblings parent a j = not (eqb (parent a) 0) && parent_of parent (parent a) j

-- in document order a comes before its sibling j
unfoldable pub sibling_before : (ℕ → ℕ) → ℕ → ℕ → Bool
sibling_before parent a j = ltb a j && siblings parent a j

-- "0 self, 1 child, 2 descendant, 3 descendant-or-self, 4 parent, 5 ancestor, 6 ancestor-or-self, 7 following, 8 preceding,
-- 9 following-sibling, 10 preceding-sibling"
unfoldable pub on_axis : ℕ → ℕ → (ℕ → ℕ) → ℕ → ℕ → Bool
on_axis axis n parent c j =
    pick (eqb axis 0) (eqb c j)
    (pick (eqb axis 1) (parent_of parent c j)
    (pick (eqb axis 2) (ancestor_of n parent c j)
    (pick (eqb axis 3) (ancestor_or_self n parent c j)
    (pick (eqb axis 4) (parent_of parent j c)
    (pick (eqb axis 5) (ancestor_of n parent j c)
    (pick (eqb axis 6) (ancestor_or_self n parent j c)
    (pick (eqb axis 7) (whole_before n parent c j)
    (pick (eqb axis 8) (whole_before n parent j c)
    (pick (eqb axis 9) (sibling_before parent c j)
    (sibling_before parent j c))))))))))

-- on the axis, and its name passes the test
unfoldable pub chosen : ℕ → ℕ → (ℕ → ℕ) → (ℕ → ℕ) → ℕ → ℕ → ℕ → Bool
chosen axis n parent name test c j = on_axis axis n parent c j && passes test (name j)

-- "the p-th element that passes the name test, counted in document order", whatever the axis
unfoldable pub pth : ℕ → ℕ → (ℕ → Bool) → ℕ → Bool
pth axis p P j = P j && eqb (length (up_to j P)) p

-- "A position p of 1 or more keeps [..] only the p-th element [..]; 0 means no position."
unfoldable pub kept : ℕ → ℕ → (ℕ → Bool) → ℕ → Bool
kept axis p P j = pick (eqb p 0) (P j) (pth axis p P j)

-- kept for one of the contexts, "for each context separately"
abbrev pub in_answer : ℕ → ℕ → (ℕ → ℕ) → (ℕ → ℕ) → ℕ → ℕ → List ℕ → ℕ → Bool
in_answer axis n parent name test p contexts j = some (λ c. kept axis p (chosen axis n parent name test c) j) contexts

-- "the answer is the union, ascending, each rank once"
abbrev pub answer_of : ℕ → ℕ → (ℕ → ℕ) → (ℕ → ℕ) → ℕ → ℕ → List ℕ → List ℕ
answer_of axis n parent name test p contexts = up_to n (in_answer axis n parent name test p contexts)

-- "The level of an entry is the number of its ancestors.": of the elements on the ancestor axis
unfoldable pub level_of : ℕ → (ℕ → ℕ) → ℕ → ℕ
level_of n parent i = length (up_to n (λ j. on_axis 5 n parent i j))
