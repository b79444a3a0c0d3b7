-- When an axis call works, and why it refuses.
--   contexts_are_elements   ranks of n entries, strictly ascending, are those of elements in document order
--   Works, axis_works_exactly   an axis call works exactly if a tree yields the list, the contexts are elements of it and the room is long enough
--   which                   the check refused, an argument did, the room did, or it worked
--   refused_number          which number a refused axis call gives, and when
use Rattle.std.specs.Prelude.{ℕ, ◌≤◌, ◌<◌, ◌≡◌, refl, ◌⊎◌, Bool, true, ◌&&◌, length, ltb, leb, Ok, Err}
use Rattle.std.proofs.Common.{ap, ◌∙◌, sym, subst, inr, arith, ltb-true, leb-true}
use Rattle.std.proofs.Math.Logic.{inl, ⊎_elim}
use mathlib.Core.List.Memᴰ
use mathlib.Core.List.{List, [], ◌∷◌, map, Memᴰ}
use Rattle.std.proofs.Math.Bool.{false}
use Rattle.std.proofs.lemmas.Bool.{false≢true}
use Rattle.std.proofs.Math.Dec.{eqb}
use Rattle.trees.specs.Signature.{entries}
use Rattle.trees.specs.Order.{lt_or_ge}
use Rattle.trees.specs.Tree.{Forest, whole, size}
use Rattle.trees.specs.Nodes.{Node}
use Rattle.trees.specs.Ranks.{pre}
use Rattle.trees.specs.NodeRanks.{node_at}
use Rattle.trees.specs.NodeOrder.{pre_before}
use Rattle.terms.specs.declared.Kind.{Kind}
use Rattle.terms.specs.declared.Refusal.{Refusal}
use Rattle.terms.specs.Stops.{Answered, worked, refused_as, answered, Written}
use Rattle.checking.specs.Whole.{whole_of, WholePromise}
use Rattle.checked.specs.Yields.{Words, Yields}
use Rattle.checked.specs.Accepted.{tree_of}
use Rattle.checked.specs.Apart.{answered_apart}
use Rattle.checked.specs.Wholly.{whole_exactly}
use Rattle.xpath.specs.Select.{rises, within}
use Rattle.xpath.specs.OnNodes.{InOrder, Lists, InUnion}
use Rattle.xpath.specs.NodeLists.{lists_unique}
use Rattle.blocks.specs.Checked.{after_check}
use Rattle.blocks.proofs.Calls.{after_accepted, accepted_or_not}
use Rattle.terms.specs.Room.{Left, refused_left}
use Rattle.marks.specs.Axis.{arguments_fine, answer_in, axis_within, axis_answer, AxisPromise}
use Rattle.marks.proofs.Calls.{fine_inverse, within_fine, within_bad, room_enough, room_short}
use Rattle.axes_told.specs.Xpath.{axis_is_xpath}

-- ---- contexts

-- the first of a strictly ascending list is below all that follow
rises_above : {f : Forest} (c : ℕ) (xs : List (Node f)) → rises (c ∷ map pre xs) ≡ true → (y : Node f) → Memᴰ y xs → c < pre y
unfolding rises
rises_above c [] h y m = absurd (Memᴰ.not-nil m)
rises_above c (z ∷ xs) h y m = go (ltb c (pre z)) refl h (λ q. rises_above (pre z) xs q y)
  where
    go : (b : Bool) → ltb c (pre z) ≡ b → (b && rises (pre z ∷ map pre xs)) ≡ true → (rises (pre z ∷ map pre xs) ≡ true → Memᴰ y xs → pre z < pre y) → c < pre y
    go true e q ih = ⊎_elim (λ (w : y ≡ z). omega (arith, ltb-true c (pre z) e, ap pre w)) (λ (w : Memᴰ y xs). omega (arith, ltb-true c (pre z) e, ih q w)) (Memᴰ.cases_cons m)
    go false e q ih = absurd (false≢true q)

rises_tail : (c : ℕ) (l : List ℕ) → rises (c ∷ l) ≡ true → rises l ≡ true
unfolding rises
rises_tail c [] h = refl
rises_tail c (d ∷ l) h = go (ltb c d) h
  where
    go : (b : Bool) → (b && rises (d ∷ l)) ≡ true → rises (d ∷ l) ≡ true
    go true q = q
    go false q = absurd (false≢true q)

pub contexts_are_elements : (f : Forest) (cs : List ℕ) → within (size f) cs ≡ true → rises cs ≡ true
    → (xs : List (Node f)) × InOrder xs × (map pre xs ≡ cs)
unfolding within
contexts_are_elements f [] w r = ([], tt, refl)
contexts_are_elements f (c ∷ cs) w r = go (leb 1 c) (leb c (size f)) (within (size f) cs) refl refl refl w (λ q. contexts_are_elements f cs q (rises_tail c cs r))
  where
    go : (a b d : Bool) → leb 1 c ≡ a → leb c (size f) ≡ b → within (size f) cs ≡ d → (a && b && d) ≡ true
        → (within (size f) cs ≡ true → (xs : List (Node f)) × InOrder xs × (map pre xs ≡ cs)) → (xs : List (Node f)) × InOrder xs × (map pre xs ≡ c ∷ cs)
    go true true true p q e h ih =
        let t = ih e in
        let x = node_at {f = f} c (leb-true 1 c p) (leb-true c (size f) q) in
        let up = rises_above c t.0 (subst (λ (l : List ℕ). rises (c ∷ l) ≡ true) (sym t.2) r) in
        (x.0 ∷ t.0, ((λ y m. pre_before x.0 y (omega (arith, up y m, x.1))), t.1), (λ i. x.1 i ∷ t.2 i))
    go true true false p q e h ih = absurd (false≢true h)
    go true false d p q e h ih = absurd (false≢true h)
    go false b d p q e h ih = absurd (false≢true h)

-- ---- when it works

-- "the list is a tree's signature, the contexts are elements of it in document order, the axis is one of eleven, and the node set fits the room"
pub record Works (s contexts : List ℕ) (axis name p : ℕ) (room : List ℕ) : Type 0 where
  pub yields : Yields Kind.Data s
  pub small : axis ≤ 10
  pub elements : List (Node (whole yields.tree))
  pub order : InOrder elements
  pub ranks : map pre elements ≡ contexts
  pub fits : (l : List (Node (whole yields.tree))) → Lists (InUnion axis name p elements) l → length l ≤ length room

module _ (s : List ℕ) (w : Words s) (contexts : List ℕ) (axis name p : ℕ) (room : List ℕ) (r : Written) (after : List ℕ)
    (h : AxisPromise s contexts axis name p room r after) where
  pub axis_works : Works s contexts axis name p room → (k : ℕ) × (r ≡ Ok k)
  axis_works k =
      let q = subst (λ (cs : List ℕ). AxisPromise s cs axis name p room r after) (sym k.ranks) h in
      let a = axis_is_xpath s w k.yields k.elements k.order axis name p k.small room r after q in
      (length a.0, answered_apart r (Ok (length a.0)) (a.2.enough (k.fits a.0 a.1)).0)

  -- ---- which case an answer is

  -- the check refused
  pub record Unchecked : Type 0 where
    pub faulty : eqb (whole_of Kind.Data s).reason 1 ≡ false
    pub said : answered r ≡ refused_as (whole_of Kind.Data s).number (whole_of Kind.Data s).entry

  -- an argument is refused
  pub record BadArgument : Type 0 where
    pub checked : WholePromise Kind.Data s (Ok tt)
    pub bad : arguments_fine axis (entries s) contexts ≡ false
    pub said : answered r ≡ refused_as 8 0

  -- the answer is longer than the room
  pub record NoRoom : Type 0 where
    pub checked : WholePromise Kind.Data s (Ok tt)
    pub fine : arguments_fine axis (entries s) contexts ≡ true
    pub longer : length room < length (answer_in s contexts axis name p)
    pub said : answered r ≡ refused_as 10 0

  -- it worked
  pub record Done : Type 0 where
    pub checked : WholePromise Kind.Data s (Ok tt)
    pub fine : arguments_fine axis (entries s) contexts ≡ true
    pub said : answered r ≡ worked (length (answer_in s contexts axis name p))

  -- what an axis call comes to: refused by the check, by an argument or by the room, or worked
  abbrev pub Case : Type 0
  Case = Unchecked ⊎ (BadArgument ⊎ (NoRoom ⊎ Done))

  told : {x : Left} → axis_answer s contexts axis name p room ≡ x → answered r ≡ x.answer
  told e = h.told ∙ ap (λ (y : Left). y.answer) e

  pub which : Case
  unfolding after_check
  which = ⊎_elim accepted refused (accepted_or_not s)
    where
      refused : eqb (whole_of Kind.Data s).reason 1 ≡ false → Case
      refused q =
          let z : axis_answer s contexts axis name p room ≡ refused_left room (whole_of Kind.Data s).number (whole_of Kind.Data s).entry = simp q in
          inl (record { faulty = q; said = told z })

      accepted : WholePromise Kind.Data s (Ok tt) → Case
      accepted a = go (arguments_fine axis (entries s) contexts) refl
        where
          e : axis_answer s contexts axis name p room ≡ axis_within s contexts axis name p room
          e = after_accepted s (refused_left room) (axis_within s contexts axis name p room) (Ok tt) a refl

          go : (b : Bool) → arguments_fine axis (entries s) contexts ≡ b → Case
          go false q = inr (inl (record { checked = a; bad = q; said = told (e ∙ within_bad s contexts axis name p room q) }))
          go true q = ⊎_elim
              (λ (l : length room < length (answer_in s contexts axis name p)). inr (inr (inl (record {
                checked = a;
                fine = q;
                longer = l;
                said = told (e ∙ within_fine s contexts axis name p room q ∙ room_short room (answer_in s contexts axis name p) l);
              }))))
              (λ (g : length (answer_in s contexts axis name p) ≤ length room). inr (inr (inr (record {
                checked = a;
                fine = q;
                said = told (e ∙ within_fine s contexts axis name p room q ∙ room_enough room (answer_in s contexts axis name p) g);
              }))))
              (lt_or_ge (length room) (length (answer_in s contexts axis name p)))

  -- a refused call gives the check's number and entry, 8, or 10
  pub record Why (why : Refusal) (number entry : ℕ) (Reason : Type 0) : Type 0 where
    pub reason : Reason
    pub number_is : why.number ≡ number
    pub entry_is : why.entry.0 ≡ entry

  -- why a call refused and with which number: the check's for a faulty list, 8 for an argument, 10 for the room
  abbrev pub Refusing : Refusal → Type 0
  Refusing why =
      Why why (whole_of Kind.Data s).number (whole_of Kind.Data s).entry (eqb (whole_of Kind.Data s).reason 1 ≡ false)
      ⊎ (Why why 8 0 (arguments_fine axis (entries s) contexts ≡ false)
      ⊎ Why why 10 0 (length room < length (answer_in s contexts axis name p)))

  pub refused_number : (why : Refusal) → r ≡ Err why → Refusing why
  refused_number why e = go which
    where
      number : (t : Answered) → answered r ≡ t → why.number ≡ t.number
      number t q = ap (λ (x : Answered). x.number) (sym (ap answered e) ∙ q)

      entry : (t : Answered) → answered r ≡ t → why.entry.0 ≡ t.entry
      entry t q = ap (λ (x : Answered). x.entry) (sym (ap answered e) ∙ q)

      go : Case → Refusing why
      go (inl c) = inl (record { reason = c.faulty; number_is = number _ c.said; entry_is = entry _ c.said })
      go (inr (inl c)) = inr (inl (record { reason = c.bad; number_is = number _ c.said; entry_is = entry _ c.said }))
      go (inr (inr (inl c))) = inr (inr (record { reason = c.longer; number_is = number _ c.said; entry_is = entry _ c.said }))
      go (inr (inr (inr c))) = let z : ◌≡◌ {A = ℕ} 1 0 = ap (λ (x : Answered). x.refused) (sym (ap answered e) ∙ c.said) in absurd (omega arith)

  -- ---- it works only then

  never : {number entry : ℕ} (k : ℕ) → r ≡ Ok k → answered r ≡ refused_as number entry → ⊥
  never k e q = let z : ◌≡◌ {A = ℕ} 0 1 = ap (λ (x : Answered). x.refused) (sym (ap answered e) ∙ q) in omega arith

  pub works_only : (k : ℕ) → r ≡ Ok k → Works s contexts axis name p room
  works_only k e = go which
    where
      long_enough : (y : Yields Kind.Data s) (xs : List (Node (whole y.tree))) → InOrder xs → map pre xs ≡ contexts → axis ≤ 10
          → (m : List (Node (whole y.tree))) → Lists (InUnion axis name p xs) m → length m ≤ length room
      long_enough y xs o q small m lm =
          let z = subst (λ (cs : List ℕ). AxisPromise s cs axis name p room r after) (sym q) h in
          let u = axis_is_xpath s w y xs o axis name p small room r after z in
          let same = lists_unique (InUnion axis name p xs) m u.0 lm u.1 in
          ⊎_elim (λ (b : length room < length u.0). absurd (never k e (u.2.short b).0)) (λ (b : length u.0 ≤ length room). omega (arith, ap length same))
          (lt_or_ge (length room) (length u.0))

      go : Case → Works s contexts axis name p room
      go (inl c) = absurd (never k e c.said)
      go (inr (inl c)) = absurd (never k e c.said)
      go (inr (inr (inl c))) = absurd (never k e c.said)
      go (inr (inr (inr c))) =
          let y = (whole_exactly Kind.Data s w (Ok tt) c.checked).sound refl in
          let f = fine_inverse axis (entries s) contexts c.fine in
          let n = (tree_of s y.tree y.is).count in
          let x = contexts_are_elements (whole y.tree) contexts (subst (λ (i : ℕ). within i contexts ≡ true) (sym n) f.ranks) f.rising in
          record {
            yields = y;
            small = f.small;
            elements = x.0;
            order = x.1;
            ranks = x.2;
            fits = λ m lm. long_enough y x.0 x.1 x.2 f.small m lm;
          }

  -- both ways
  pub record WorksExactly : Type 0 where
    pub sound : (k : ℕ) → r ≡ Ok k → Works s contexts axis name p room
    pub complete : Works s contexts axis name p room → (k : ℕ) × (r ≡ Ok k)

  pub axis_works_exactly : WorksExactly
  axis_works_exactly = record { sound = works_only; complete = axis_works }
