-- The axis call.
--   axis_number axis               the number of an axis
--   axis_by_number number          the axis with this number, if there is one
--   Numbered number r, numbered_so   r is the axis with this number, or a bad argument where none has it; so is axis_by_number
--   answer_in s cs axis name p     the ranks that are answered
--   arguments_fine                 no refusal 8
--   axis_within, axis_answer        what is left, refusals in their order
--   AxisPromise                   the call answers and leaves just that
--   fine_by_number number n cs      the axis with this number, where no argument is refused
--   JudgedFine number n cs r, judged_so   r is the axis with this number, where no argument is refused, or a bad argument; so is fine_by_number
use Rattle.std.specs.Prelude.{ℕ, ◌≡◌, ◌<◌, ◌≤◌, refl, List, Bool, true, false, ◌&&◌, leb, eqb, Result, Ok, Err, MatchResult}
use Rattle.std.proofs.Common.{◌∙◌, sym, arith, eqb-true, eq-eqb, leb-true}
use Rattle.std.proofs.lemmas.Bool.{false≢true}
use Rattle.turns.specs.Pick.{pick}
use Rattle.trees.specs.Signature.{entries_of, width, entries}
use Rattle.terms.specs.Room.{Left, refused_left, room_for, Leaves}
use Rattle.xpath.specs.Select.{rises, within}
use Rattle.xpath.specs.Axes.{answer_of}
use Rattle.blocks.specs.Checked.{after_check}
use Rattle.terms.specs.Stops.{Written}
use Rattle.terms.specs.declared.Fault.{Fault}
use Rattle.marks.specs.declared.axis_numbers.Axis.{Axis}

-- "0 self, 1 child, 2 descendant, 3 descendant-or-self, 4 parent, 5 ancestor, 6 ancestor-or-self, 7 following, 8 preceding,
-- 9 following-sibling, 10 preceding-sibling"
abbrev pub axis_number : Axis → ℕ
axis_number Axis.Itself = 0
axis_number Axis.Child = 1
axis_number Axis.Descendant = 2
axis_number Axis.DescendantOrSelf = 3
axis_number Axis.Parent = 4
axis_number Axis.Ancestor = 5
axis_number Axis.AncestorOrSelf = 6
axis_number Axis.Following = 7
axis_number Axis.Preceding = 8
axis_number Axis.FollowingSibling = 9
axis_number Axis.PrecedingSibling = 10

-- the axis with this number, or 8 for an "axis over 10"
abbrev pub axis_by_number : ℕ → Result Axis Fault
axis_by_number k =
    pick (eqb k 0) (Ok Axis.Itself) (pick (eqb k 1) (Ok Axis.Child) (pick (eqb k 2) (Ok Axis.Descendant)
    (pick (eqb k 3) (Ok Axis.DescendantOrSelf) (pick (eqb k 4) (Ok Axis.Parent) (pick (eqb k 5) (Ok Axis.Ancestor)
    (pick (eqb k 6) (Ok Axis.AncestorOrSelf) (pick (eqb k 7) (Ok Axis.Following) (pick (eqb k 8) (Ok Axis.Preceding)
    (pick (eqb k 9) (Ok Axis.FollowingSibling) (pick (eqb k 10) (Ok Axis.PrecedingSibling) (Err Fault.BadArgument)))))))))))

-- r is the axis with this number, or 8 where none has it
abbrev pub Numbered : ℕ → Result Axis Fault → Type 0
Numbered number r = MatchResult r (λ axis. axis_number axis ≡ number) (λ fault. (fault ≡ Fault.BadArgument) × (10 < number))

-- one axis is picked, or what is left is asked of the other numbers
picked : (k : ℕ) (a : Axis) (r : Result Axis Fault) → ((k ≡ axis_number a → ⊥) → Numbered k r) → Numbered k (pick (eqb k (axis_number a)) (Ok a) r)
picked k a r f = go (eqb k (axis_number a)) refl
  where
    go : (b : Bool) → eqb k (axis_number a) ≡ b → Numbered k (pick b (Ok a) r)
    go true h = sym (eqb-true k (axis_number a) h)
    go false h = f (λ e. false≢true (sym h ∙ eq-eqb k (axis_number a) e))

-- the axis that a number picks has it, and just the numbers over 10 pick none
pub numbered_so : (k : ℕ) → Numbered k (axis_by_number k)
numbered_so k =
    picked k Axis.Itself _ (λ a. picked k Axis.Child _ (λ b. picked k Axis.Descendant _ (λ c. picked k Axis.DescendantOrSelf _
    (λ d. picked k Axis.Parent _ (λ e. picked k Axis.Ancestor _ (λ f. picked k Axis.AncestorOrSelf _ (λ g. picked k Axis.Following _
    (λ h. picked k Axis.Preceding _ (λ i. picked k Axis.FollowingSibling _ (λ j. picked k Axis.PrecedingSibling _
    (λ l. (refl, omega (arith, a, b, c, d, e, f, g, h, i, j, l)))))))))))))

-- parent and name are those of the signature's entries
abbrev pub answer_in : List ℕ → List ℕ → ℕ → ℕ → ℕ → List ℕ
answer_in s contexts axis name p = answer_of axis (entries s) (entries_of width s).fa (entries_of width s).name name p contexts

-- no "axis over 10; a context [..] rank of 0 or over n; contexts not strictly ascending"
unfoldable pub arguments_fine : ℕ → ℕ → List ℕ → Bool
arguments_fine axis n contexts = leb axis 10 && (within n contexts && rises contexts)

-- what the call leaves once the check has accepted: "arguments (8), [..] room (10)"
unfoldable pub axis_within : List ℕ → List ℕ → ℕ → ℕ → ℕ → List ℕ → Left
axis_within s contexts axis name p room =
    pick (arguments_fine axis (entries s) contexts) (room_for room (answer_in s contexts axis name p)) (refused_left room 8 0)

-- the whole call: "whole length (1, then 7), contents from the front, arguments (8), [..] room (10)"
abbrev pub axis_answer : List ℕ → List ℕ → ℕ → ℕ → ℕ → List ℕ → Left
axis_answer s contexts axis name p room = after_check s (refused_left room) (axis_within s contexts axis name p room)

-- the call answers and leaves just that
abbrev pub AxisPromise : List ℕ → List ℕ → ℕ → ℕ → ℕ → List ℕ → Written → List ℕ → Type 0
AxisPromise s contexts axis name p room r after = Leaves (axis_answer s contexts axis name p room) r after

-- the arguments are judged: the axis with this number where none is refused, else 8
abbrev pub fine_by_number : ℕ → ℕ → List ℕ → Result Axis Fault
fine_by_number number n contexts = pick (arguments_fine number n contexts) (axis_by_number number) (Err Fault.BadArgument)

-- r is the axis with this number where no argument is refused, else 8
abbrev pub JudgedFine : ℕ → ℕ → List ℕ → Result Axis Fault → Type 0
JudgedFine number n contexts r =
    MatchResult r (λ axis. (axis_number axis ≡ number) × (arguments_fine number n contexts ≡ true))
    (λ fault. (fault ≡ Fault.BadArgument) × (arguments_fine number n contexts ≡ false))

-- an axis that is judged fine has a number up to 10
fine_small : (number n : ℕ) (contexts : List ℕ) → arguments_fine number n contexts ≡ true → number ≤ 10
unfolding arguments_fine
fine_small number n contexts = go (leb number 10) _ refl
  where
    go : (a b : Bool) → leb number 10 ≡ a → (a && b) ≡ true → number ≤ 10
    go true b h q = leb-true _ _ h
    go false b h q = absurd (false≢true q)

-- the axis that is judged has the number, and is refused just where an argument is
pub judged_so : (number n : ℕ) (contexts : List ℕ) → JudgedFine number n contexts (fine_by_number number n contexts)
judged_so number n contexts = go (arguments_fine number n contexts) refl (axis_by_number number) (numbered_so number)
  where
    go : (b : Bool) → arguments_fine number n contexts ≡ b → (r : Result Axis Fault) → Numbered number r
        → JudgedFine number n contexts (pick b r (Err Fault.BadArgument))
    go true h (Ok a) q = (q, h)
    go true h (Err f) q = absurd (omega (arith, q.1, fine_small number n contexts h))
    go false h r q = (refl, h)
