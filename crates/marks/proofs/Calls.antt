-- Which case of an axis call's answer holds.
--   axis_small        no number of an axis is over 10
--   as_numbered, as_judged   what is equal to the axis by its number, and to the axis that is judged, has the number
--   fine_…            which arguments are not refused
--   within_…, room_…  which case of an answer holds
--   judged_left, refused_so, judged_leaves   what is left where the arguments are fine, and where one is refused
--   leaves_as, refused_leaves   what an equal answer leaves; what a refusal leaves
--   short_leaves, fits_leaves   what is left where the marked ranks are too many for the room, and where they fit
use Rattle.std.specs.Prelude.{Ok, Err, Result}
use Prim.Native.Nat.{ℕ, ◌≤◌, ◌<◌}
use native.Mathlib.Omega.{arith}
use mathlib.Core.Path.{◌≡◌, refl, ap, ◌∙◌, sym, subst}
use mathlib.Core.List.{List}
use mathlib.Core.Bool.{Bool, true, false, ◌&&◌, false≢true}
use lib.ListN.{length}
use lib.Dec.{leb}
use borrow.Author.Tests.{le-leb, lt-leb, leb-true}
use Rattle.trees.specs.Signature.{entries, entries_of, width}
use Rattle.xpath.specs.Axes.{answer_of}
use Rattle.terms.specs.declared.Refusal.{Refusal}
use Rattle.terms.specs.Stops.{worked, refused_as, Written}
use Rattle.xpath.specs.Select.{rises, within}
use Rattle.xpath.specs.SelectLaws.{front}
use Rattle.terms.specs.Room.{room_for, written_left, refused_left, Left, Leaves}
use Rattle.std.proofs.Common.{lit≤}
use Rattle.marks.specs.declared.axis_numbers.Axis.{Axis}
use Rattle.terms.specs.declared.Kind.{Kind}
use Rattle.terms.specs.declared.Fault.{Fault}
use Rattle.terms.specs.Faults.{number_of, refusal_at}
use Rattle.checking.specs.Whole.{WholePromise}
use Rattle.blocks.proofs.Calls.{after_accepted}
use Rattle.marks.specs.Axis.{axis_number, arguments_fine, axis_within, axis_answer, answer_in, axis_by_number, Numbered, numbered_so, fine_by_number, JudgedFine, judged_so}
use Rattle.marks.specs.Requests.{Judged, Refuses}

-- ---- arguments

-- no number of an axis is over 10
pub axis_small : (a : Axis) → axis_number a ≤ 10
axis_small Axis.Itself = lit≤ tt
axis_small Axis.Child = lit≤ tt
axis_small Axis.Descendant = lit≤ tt
axis_small Axis.DescendantOrSelf = lit≤ tt
axis_small Axis.Parent = lit≤ tt
axis_small Axis.Ancestor = lit≤ tt
axis_small Axis.AncestorOrSelf = lit≤ tt
axis_small Axis.Following = lit≤ tt
axis_small Axis.Preceding = lit≤ tt
axis_small Axis.FollowingSibling = lit≤ tt
axis_small Axis.PrecedingSibling = lit≤ tt

pub as_numbered : (k : ℕ) (r : Result Axis Fault) → r ≡ axis_by_number k → Numbered k r
as_numbered k r q = rw q (numbered_so k)

pub as_judged : (k n : ℕ) (contexts : List ℕ) (r : Result Axis Fault) → r ≡ fine_by_number k n contexts → JudgedFine k n contexts r
as_judged k n contexts r q = rw q (judged_so k n contexts)

module _ (axis n : ℕ) (contexts : List ℕ) where
  pub fine_left : arguments_fine axis n contexts ≡ false → fine_by_number axis n contexts ≡ Err Fault.BadArgument
  fine_left h = simp h

  pub fine_right : arguments_fine axis n contexts ≡ true → fine_by_number axis n contexts ≡ axis_by_number axis
  fine_right h = simp h

  pub fine_high : 10 < axis → arguments_fine axis n contexts ≡ false
  unfolding arguments_fine
  fine_high h = simp (lt-leb _ _ h)

  pub fine_low : axis ≤ 10 → arguments_fine axis n contexts ≡ (within n contexts && rises contexts)
  unfolding arguments_fine
  fine_low h = simp (le-leb _ _ h)

  -- arguments that are not refused
  pub record Fine : Type 0 where
    pub small : axis ≤ 10
    pub ranks : within n contexts ≡ true
    pub rising : rises contexts ≡ true

  pub fine_inverse : arguments_fine axis n contexts ≡ true → Fine
  unfolding arguments_fine
  fine_inverse = go (leb axis 10) (within n contexts) (rises contexts) refl refl refl
    where
      go : (a b d : Bool) → leb axis 10 ≡ a → within n contexts ≡ b → rises contexts ≡ d → (a && (b && d)) ≡ true → Fine
      go true true true p q r h = record { small = leb-true _ _ p; ranks = q; rising = r }
      go true true false p q r h = absurd (false≢true h)
      go true false d p q r h = absurd (false≢true h)
      go false b d p q r h = absurd (false≢true h)

-- ---- what is left

module _ (s contexts : List ℕ) (axis name p : ℕ) (room : List ℕ) where
  pub within_fine : arguments_fine axis (entries s) contexts ≡ true
      → axis_within s contexts axis name p room ≡ room_for room (answer_in s contexts axis name p)
  unfolding axis_within
  within_fine h = simp h

  pub within_bad : arguments_fine axis (entries s) contexts ≡ false → axis_within s contexts axis name p room ≡ refused_left room 8 0
  unfolding axis_within
  within_bad h = simp h

-- an accepted signature that is the lent one, and its number of entries
module _ (s' s : List ℕ) (n : ℕ) (contexts : List ℕ) (axis name : ℕ) (same : s' ≡ s) (accepted : WholePromise Kind.Data s' (Ok tt)) (counted : n ≡ entries s') where
  accepted_within : (p : ℕ) (room : List ℕ) → axis_answer s contexts axis name p room ≡ axis_within s contexts axis name p room
  accepted_within p room =
      after_accepted s (refused_left room) (axis_within s contexts axis name p room) (Ok tt) (subst (λ (x : List ℕ). WholePromise Kind.Data x (Ok tt)) same accepted) refl

  fine_entries : {b : Bool} → arguments_fine axis n contexts ≡ b → arguments_fine axis (entries s) contexts ≡ b
  fine_entries h = ap (λ (x : ℕ). arguments_fine axis x contexts) (sym (counted ∙ ap entries same)) ∙ h

  pub judged_left : arguments_fine axis n contexts ≡ true → (p : ℕ) (room : List ℕ)
      → axis_answer s contexts axis name p room ≡ room_for room (answer_in s contexts axis name p)
  judged_left h p room = accepted_within p room ∙ within_fine s contexts axis name p room (fine_entries h)

  pub refused_so : (f : Fault) → f ≡ Fault.BadArgument → arguments_fine axis n contexts ≡ false
      → Refuses s contexts axis name (refusal_at f 0).number (refusal_at f 0).entry.0
  refused_so f e h = record {
    left = λ p room. accepted_within p room ∙ within_bad s contexts axis name p room (fine_entries h)
        ∙ ap (λ (x : Fault). refused_left room (number_of x) 0) (sym e);
  }

module _ (room answer : List ℕ) where
  pub room_enough : length answer ≤ length room → room_for room answer ≡ written_left room answer
  unfolding room_for
  room_enough h = simp (le-leb _ _ h)

  pub room_short : length room < length answer → room_for room answer ≡ refused_left room 10 0
  unfolding room_for
  room_short h = simp (lt-leb _ _ h)

-- left is what an equal answer leaves
pub leaves_as : (x y : Left) (r : Written) (after : List ℕ) → x ≡ y → Leaves y r after → Leaves x r after
leaves_as x y r after q h = rw q h

pub refused_leaves : (room : List ℕ) (r : Refusal) (f : Fault) → r ≡ refusal_at f 0 → Leaves (refused_left room (number_of f) 0) (Err r) room
refused_leaves room r f q = record { told = ap (λ (x : Refusal). refused_as x.number x.entry.0) q; left = refl }

-- what is left where the arguments are fine
pub judged_leaves : {s contexts : List ℕ} {axis name : ℕ} {s' contexts' : List ℕ} {axis' name' n : ℕ} → Judged s contexts axis name s' contexts' axis' name'
    → n ≡ entries s' → (p : ℕ) (room : List ℕ) (r : Written) (after : List ℕ)
    → Leaves (room_for room (answer_of axis' n (entries_of width s').fa (entries_of width s').name name' p contexts')) r after
    → Leaves (axis_answer s contexts axis name p room) r after
judged_leaves j counted p room r after =
    leaves_as _ _ r after
    (
    j.left p room
    ∙ sym (λ i. room_for room (answer_of (j.numbered i) ((counted ∙ ap entries j.signature) i) (entries_of width (j.signature i)).fa (entries_of width (j.signature i)).name (j.named i) p (j.ranks i)))
    )

-- ---- the ranks of a list written

module _ (room answer : List ℕ) (count : ℕ) (q : count ≡ length answer) where
  pub short_leaves : length room < count → (r : Refusal) → r ≡ refusal_at Fault.NoRoom 0 → Leaves (room_for room answer) (Err r) room
  short_leaves l r e = leaves_as _ _ _ _ (room_short room answer (omega arith)) (refused_leaves room r Fault.NoRoom e)

  pub fits_leaves : count ≤ length room → (after : List ℕ) → after ≡ front answer room → Leaves (room_for room answer) (Ok count) after
  fits_leaves l after e = leaves_as _ _ _ _ (room_enough room answer (omega arith)) (record { told = ap worked q; left = e })
