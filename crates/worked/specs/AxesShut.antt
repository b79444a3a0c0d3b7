-- Demand 2 of the axes, over any call: ours meets it, and document 01's wrong programs do not, with a starred case as witness.
--   Call                 any axis call: what it answers, and what the room holds at the end
--   Asked s contexts axis   a tree yields the list, the contexts are elements of it, the axis is one of the eleven
--   DemandAxis call      where that is asked the call answers and leaves XPath's node set; elsewhere it refuses, and writes nothing
--   ours_axis            whatever keeps our promise meets it
--   shut_out_refusing    refusing everything
--   shut_out_fixed       one fixed answer
--   shut_out_idle        a call that writes nothing
--   shut_out_trusting    a call that answers on two roots
--   shut_out_axis, shut_out_outside, shut_out_falling   a call that answers for an axis over 10, a context of 0 or over n, contexts that do not ascend
--   ten_child            axis_is_xpath, used once on Ten
use Rattle.std.specs.Prelude.{ℕ, ◌≤◌, ◌<◌, ◌≡◌, refl, List, [], ◌∷◌, ◌++◌, map, length, get_or, drop, Ok, Err}
use Rattle.std.proofs.Common.{ap, ◌∙◌, sym, ⊎_elim, arith}
use mathlib.Core.List.Memᴰ
use Rattle.turns.specs.Turn.{run}
use Rattle.trees.specs.Tree.{Forest, whole, size}
use Rattle.trees.specs.Nodes.{Node, here, under, beside}
use Rattle.trees.specs.Ranks.{pre}
use Rattle.trees.specs.NodeRanks.{pre_low, pre_high}
use Rattle.trees.specs.NodeOrder.{before_pre}
use Rattle.trees.specs.Signature.{cell}
use Rattle.trees.specs.Order.{lt_or_ge}
use Rattle.trees.specs.Names.{passes}
use Rattle.terms.specs.declared.Kind.{Kind}
use Rattle.terms.specs.declared.Refusal.{Refusal}
use Rattle.checking.specs.Rule.{step_of, close_of, accepted, nameless, second_root, in_range}
use Rattle.checking.specs.Turn.{turn_within}
use Rattle.terms.specs.Length.{length_fault}
use Rattle.terms.specs.Stops.{Answered, worked, refused_as, answered, Written}
use Rattle.checked.specs.Yields.{Words, Yields}
use Rattle.checked.specs.Accepted.{tree_of}
use Rattle.checked.specs.Menus.{ten, two_roots}
use Rattle.checked.specs.ShutOut.{small, small_words, two_none}
use Rattle.xpath.specs.Select.{up_to, some, rises, within}
use Rattle.xpath.specs.Axes.{met, parent_of, ancestor_or_self, whole_before, sibling_before, on_axis, chosen, pth, kept}
use Rattle.xpath.specs.OnNodes.{InOrder, Lists, InUnion}
use Rattle.xpath.specs.NodeLists.{lists_unique}
use Rattle.blocks.specs.Checked.{after_check}
use Rattle.terms.specs.Room.{room_for}
use Rattle.marks.specs.Axis.{arguments_fine, axis_within, AxisPromise}
use Rattle.axes_told.specs.Xpath.{Answers, axis_is_xpath}
use Rattle.axes_told.specs.OneResult.{refused_writes_nothing}
use Rattle.axes_told.specs.Exactly.{axis_works_exactly}
use Rattle.worked.specs.Instances.{ten_tree, ten_yields, ten_words}

-- what a call answers, and what the room holds at the end
pub record Outcome : Type 0 where
  pub answer : Written
  pub room : List ℕ

-- signature, contexts, axis, name, position, room
abbrev pub Call : Type 0
Call = List ℕ → List ℕ → ℕ → ℕ → ℕ → List ℕ → Outcome

-- "a strictly ascending list of contexts, perhaps none", each the rank of an element of the tree that yields the list, and an axis that is not "over 10"
pub record Asked (s contexts : List ℕ) (axis : ℕ) : Type 0 where
  pub yields : Yields Kind.Data s
  pub elements : List (Node (whole yields.tree))
  pub order : InOrder elements
  pub ranks : map pre elements ≡ contexts
  pub small : axis ≤ 10

-- demand 2 for the axes: the answer is XPath's node set; what is not asked so is refused, and a refused call "writes nothing"
pub record DemandAxis (call : Call) : Type 0 where
  pub answers : (s : List ℕ) (w : Words s) (y : Yields Kind.Data s) (xs : List (Node (whole y.tree))) → InOrder xs
      → (axis name p : ℕ) → axis ≤ 10 → (room : List ℕ)
      → (l : List (Node (whole y.tree))) × Lists (InUnion axis name p xs) l
      × Answers s w y room (call s (map pre xs) axis name p room).answer (call s (map pre xs) axis name p room).room l
  pub other : (s : List ℕ) → Words s → (contexts : List ℕ) (axis name p : ℕ) (room : List ℕ) → (Asked s contexts axis → ⊥)
      → (why : Refusal) × ((call s contexts axis name p room).answer ≡ Err why) × ((call s contexts axis name p room).room ≡ room)

-- what was not asked is refused by our promise
module _ (s : List ℕ) (w : Words s) (contexts : List ℕ) (axis name p : ℕ) (room : List ℕ) (n : Asked s contexts axis → ⊥) where
  promised_other : (r : Written) (after : List ℕ) → AxisPromise s contexts axis name p room r after → (why : Refusal) × (r ≡ Err why) × (after ≡ room)
  promised_other (Err why) after h = (why, refl, refused_writes_nothing s contexts axis name p room why after h)
  promised_other (Ok k) after h =
      let x = (axis_works_exactly s w contexts axis name p room (Ok k) after h).sound k refl in
      absurd (n (record { yields = x.yields; elements = x.elements; order = x.order; ranks = x.ranks; small = x.small }))

pub ours_axis : (call : Call)
    → ((s contexts : List ℕ) (axis name p : ℕ) (room : List ℕ) → AxisPromise s contexts axis name p room (call s contexts axis name p room).answer (call s contexts axis name p room).room)
    → DemandAxis call
ours_axis call h = record {
  answers = λ s w y xs o axis name p small room. axis_is_xpath s w y xs o axis name p small room _ _ (h s (map pre xs) axis name p room);
  other = λ s w contexts axis name p room n. promised_other s w contexts axis name p room n _ _ (h s contexts axis name p room);
}

-- ---- two starred cases

-- the elements 2 and 7 of Ten
abbrev two : Node (whole ten_tree)
two = under here

abbrev seven : Node (whole ten_tree)
seven = under (beside here)

one_order : (x : Node (whole ten_tree)) → InOrder (x ∷ [])
one_order x = ((λ y m. absurd (Memᴰ.not-nil m)), tt)

child_promise : AxisPromise ten (map pre (two ∷ [])) 1 0 0 (99 ∷ 99 ∷ []) (Ok 2) (3 ∷ 6 ∷ [])
unfolding pre run turn_within length_fault in_range step_of close_of nameless second_root accepted cell
    up_to some rises within met parent_of ancestor_or_self whole_before sibling_before on_axis passes chosen pth kept after_check arguments_fine room_for axis_within
child_promise = record { told = refl; left = refl }

following_promise : AxisPromise ten (map pre (seven ∷ [])) 7 0 0 [] (Ok 0) []
unfolding pre run turn_within length_fault in_range step_of close_of nameless second_root accepted cell
    up_to some rises within met parent_of ancestor_or_self whole_before sibling_before on_axis passes chosen pth kept after_check arguments_fine room_for axis_within
following_promise = record { told = refl; left = refl }

-- axis_is_xpath on Ten: the children of 2
pub ten_child : (l : List (Node (whole ten_tree))) × Lists (InUnion 1 0 0 (two ∷ [])) l × Answers ten ten_words ten_yields (99 ∷ 99 ∷ []) (Ok 2) (3 ∷ 6 ∷ []) l
ten_child = axis_is_xpath ten ten_words ten_yields (two ∷ []) (one_order two) 1 0 0 (omega arith) (99 ∷ 99 ∷ []) (Ok 2) (3 ∷ 6 ∷ []) child_promise

-- the length and the ranks of the node set that a kept promise tells
told_length : (room after : List ℕ) (k : ℕ) (l : List (Node (whole ten_tree))) → Answers ten ten_words ten_yields room (Ok k) after l → length l ≡ k
told_length room after k l a =
    ⊎_elim (λ (s : length room < length l). absurd (never (a.short s).0)) (λ (g : length l ≤ length room). sym (ap (λ (t : Answered). t.length) (a.enough g).0))
    (lt_or_ge (length room) (length l))
  where
    never : answered (Ok k) ≡ refused_as 10 0 → ⊥
    never q = let z : ◌≡◌ {A = ℕ} 0 1 = ap (λ (t : Answered). t.refused) q in omega arith

-- what a call that meets the demand says where our promise tells k elements that fit
module _ (call : Call) (d : DemandAxis call) (x : Node (whole ten_tree)) (axis : ℕ) (small : axis ≤ 10) (room after : List ℕ) (k : ℕ)
    (p : AxisPromise ten (map pre (x ∷ [])) axis 0 0 room (Ok k) after) (fits : k ≤ length room) where
  abbrev got : Outcome
  got = call ten (map pre (x ∷ [])) axis 0 0 room

  forced : (answered got.answer ≡ worked k) × (got.room ≡ after)
  forced =
      let u = axis_is_xpath ten ten_words ten_yields (x ∷ []) (one_order x) axis 0 0 small room (Ok k) after p in
      let v = d.answers ten ten_words ten_yields (x ∷ []) (one_order x) axis 0 0 small room in
      let n = told_length room after k u.0 u.2 in
      let e = lists_unique _ v.0 u.0 v.1 u.1 in
      let m : length v.0 ≡ k = ap length e ∙ n in
      let a = v.2.enough (omega arith) in
      let b = u.2.enough (omega arith) in
      (a.0 ∙ ap worked m, a.1 ∙ ap (λ (l : List (Node (whole ten_tree))). map pre l ++ drop (length l) room) e ∙ sym b.1)

-- ---- the wrong programs

-- refusing everything, each time as it likes, whatever it leaves
abbrev pub refusing : (List ℕ → List ℕ → ℕ → ℕ → ℕ → List ℕ → Refusal) → (List ℕ → List ℕ → ℕ → ℕ → ℕ → List ℕ → List ℕ) → Call
refusing why after s contexts axis name p room = record { answer = Err (why s contexts axis name p room); room = after s contexts axis name p room }

-- one fixed answer
abbrev pub fixed : Outcome → Call
fixed x s contexts axis name p room = x

-- a call that writes nothing, whatever it says
abbrev pub idle : (List ℕ → List ℕ → ℕ → ℕ → ℕ → List ℕ → Written) → Call
idle say s contexts axis name p room = record { answer = say s contexts axis name p room; room = room }

pub shut_out_refusing : (why : List ℕ → List ℕ → ℕ → ℕ → ℕ → List ℕ → Refusal) (after : List ℕ → List ℕ → ℕ → ℕ → ℕ → List ℕ → List ℕ)
    → DemandAxis (refusing why after) → ⊥
shut_out_refusing why after d =
    let f = forced (refusing why after) d seven 7 (omega arith) [] [] 0 following_promise (omega arith) in
    let z : ◌≡◌ {A = ℕ} 1 0 = ap (λ (t : Answered). t.refused) f.0 in omega arith

pub shut_out_fixed : (x : Outcome) → DemandAxis (fixed x) → ⊥
shut_out_fixed x d =
    let f = forced (fixed x) d seven 7 (omega arith) [] [] 0 following_promise (omega arith) in
    let g = forced (fixed x) d two 1 (omega arith) (99 ∷ 99 ∷ []) (3 ∷ 6 ∷ []) 2 child_promise (omega arith) in
    let z : ◌≡◌ {A = ℕ} 0 2 = ap (λ (t : Answered). t.length) (sym f.0 ∙ g.0) in omega arith

pub shut_out_idle : (say : List ℕ → List ℕ → ℕ → ℕ → ℕ → List ℕ → Written) → DemandAxis (idle say) → ⊥
shut_out_idle say d =
    let g = forced (idle say) d two 1 (omega arith) (99 ∷ 99 ∷ []) (3 ∷ 6 ∷ []) 2 child_promise (omega arith) in
    let z : ◌≡◌ {A = ℕ} 99 3 = ap (λ (r : List ℕ). get_or r 0 0) g.1 in omega arith

-- ---- answering what was not asked

not_refused : {r : Written} {k : ℕ} → r ≡ Ok k → (why : Refusal) × (r ≡ Err why) → ⊥
not_refused e q = let z : ◌≡◌ {A = ℕ} 0 1 = ap (λ (x : Written). (answered x).refused) (sym e ∙ q.1) in omega arith

-- any call that answers on the entries of two roots, which no tree yields, whatever else it is given: one that trusts every fa
pub shut_out_trusting : (call : Call) (contexts : List ℕ) (axis name p : ℕ) (room : List ℕ) (k : ℕ)
    → (call two_roots contexts axis name p room).answer ≡ Ok k → DemandAxis call → ⊥
unfolding small
shut_out_trusting call contexts axis name p room k e d =
    let q = d.other two_roots (small_words two_roots refl) contexts axis name p room (λ a. two_none a.yields) in
    not_refused e (q.0, q.1)

-- any call that answers for an axis over 10, on Ten
pub shut_out_axis : (call : Call) (contexts : List ℕ) (axis name p : ℕ) (room : List ℕ) (k : ℕ) → 10 < axis
    → (call ten contexts axis name p room).answer ≡ Ok k → DemandAxis call → ⊥
shut_out_axis call contexts axis name p room k h e d =
    let q = d.other ten ten_words contexts axis name p room (λ a. omega (arith, a.small, h)) in not_refused e (q.0, q.1)

-- any call that answers for a context of 0 or over n, on Ten
pub shut_out_outside : (call : Call) (c axis name p : ℕ) (room : List ℕ) (k : ℕ) → (1 ≤ c → c ≤ 10 → ⊥)
    → (call ten (c ∷ []) axis name p room).answer ≡ Ok k → DemandAxis call → ⊥
shut_out_outside call c axis name p room k h e d =
    let q = d.other ten ten_words (c ∷ []) axis name p room (λ a. go a.yields a.elements a.ranks) in not_refused e (q.0, q.1)
  where
    go : (y : Yields Kind.Data ten) (xs : List (Node (whole y.tree))) → map pre xs ≡ c ∷ [] → ⊥
    go y [] q = let z : ◌≡◌ {A = ℕ} 0 1 = ap length q in omega arith
    go y (x ∷ xs) q =
        let z : pre x ≡ c = ap (λ (l : List ℕ). get_or l 0 0) q in
        let n : size (whole y.tree) ≡ 10 = (tree_of ten y.tree y.is).count in
        h (omega (arith, pre_low x, z)) (omega (arith, pre_high x, z, n))

-- any call that answers for contexts that do not ascend strictly, on Ten
pub shut_out_falling : (call : Call) (b c axis name p : ℕ) (room : List ℕ) (k : ℕ) → c ≤ b
    → (call ten (b ∷ c ∷ []) axis name p room).answer ≡ Ok k → DemandAxis call → ⊥
shut_out_falling call b c axis name p room k h e d =
    let q = d.other ten ten_words (b ∷ c ∷ []) axis name p room (λ a. go a.elements a.order a.ranks) in not_refused e (q.0, q.1)
  where
    go : {f : Forest} (xs : List (Node f)) → InOrder xs → map pre xs ≡ b ∷ c ∷ [] → ⊥
    go [] o q = let z : ◌≡◌ {A = ℕ} 0 2 = ap length q in omega arith
    go (x ∷ []) o q = let z : ◌≡◌ {A = ℕ} 1 2 = ap length q in omega arith
    go (x ∷ (y ∷ xs)) o q =
        omega (
          arith,
          h,
          before_pre x y (o.0 y (Memᴰ.head refl)),
          ap (λ (l : List ℕ). get_or l 0 0) q,
          ap (λ (l : List ℕ). get_or l 1 0) q,
        )
