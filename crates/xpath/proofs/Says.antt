-- On the entries of a tree, the axes over ranks say what the axes on its elements say.
--   Says b A            the test b holds exactly if A does
--   says_and, _or, _not   tests put together
--   says_…              each relation
--   axis_says           all eleven axes
--   kept_says           with name test and position
--   union_says          for a list of contexts
use Rattle.std.specs.Prelude.{ℕ, ◌≤◌, ◌<◌, ◌≡◌, ◌⊎◌, Bool, true, false, not, ◌&&◌, ◌||◌, ltb, eqb}
use Rattle.std.proofs.Math.Path.{refl, ap, sym}
use Rattle.std.proofs.Common.{◌∙◌, subst, inl, inr, ⊎_elim, arith, eq-or-lt_of_le, lt-ltb, ltb-true, eq-eqb, eqb-true}
use mathlib.Core.List.Memᴰ
use mathlib.Core.List.{List, [], ◌∷◌, map, Memᴰ}
use Rattle.std.proofs.Math.Bool.{or-true}
use Rattle.std.proofs.lemmas.Bool.{false≢true}
use Rattle.std.proofs.Math.ListN.{length}
use Rattle.std.proofs.lemmas.List.{length-map}
use Rattle.turns.specs.Pick.{pick}
use Rattle.trees.specs.Tree.{Tree, whole, size}
use Rattle.trees.specs.Nodes.{Node, Parent, Ancestor, Before}
use Rattle.trees.specs.Ranks.{pre}
use Rattle.trees.specs.Signature.{Entries}
use Rattle.trees.specs.Rows.{Holds}
use Rattle.trees.specs.Facts.{Facts}
use Rattle.trees.specs.FactsOf.{facts_of}
use Rattle.trees.specs.Order.{lt_or_ge}
use Rattle.trees.specs.NodeRanks.{pre_low, pre_high, pre_injective}
use Rattle.trees.specs.NodeOrder.{before_pre, pre_before}
use Rattle.trees.specs.NodeAncestors.{ancestor_below, below_ancestor}
use Rattle.trees.specs.Meanings.{name_is, below_ff, ff_below, parent_fa, fa_parent, fa_some}
use Rattle.trees.specs.Names.{passes}
use Rattle.xpath.specs.Select.{up_to, some}
use Rattle.xpath.specs.Axes.{parent_of, ancestor_of, ancestor_or_self, whole_before, sibling_before, on_axis, chosen, pth, kept, in_answer}
use Rattle.xpath.specs.OnNodes.{Lists, Siblings, OnAxis, Passes, Chosen, Pth, Kept, InUnion}
use Rattle.xpath.specs.NodeLists.{selected, lists_unique}
use Rattle.xpath.specs.Ancestors.{inside_yes, inside_no}

-- the test holds exactly if A does
pub record Says (b : Bool) (A : Type 0) : Type 0 where
  pub says : b ≡ true → A
  pub holds : A → b ≡ true

pub says_and : {b c : Bool} {A B : Type 0} → Says b A → Says c B → Says (b && c) (A × B)
says_and {b} {c} {A} {B} p q = record { says = go b c p q; holds = λ h. simp (p.holds h.0, q.holds h.1) }
  where
    go : (b c : Bool) → Says b A → Says c B → (b && c) ≡ true → A × B
    go true c p q h = (p.says refl, q.says h)
    go false c p q h = absurd (false≢true h)

pub says_or : {b c : Bool} {A B : Type 0} → Says b A → Says c B → Says (b || c) (A ⊎ B)
says_or {b} {c} {A} {B} p q = record { says = go b c p q; holds = back }
  where
    go : (b c : Bool) → Says b A → Says c B → (b || c) ≡ true → A ⊎ B
    go true c p q h = inl (p.says refl)
    go false c p q h = inr (q.says h)

    back : A ⊎ B → (b || c) ≡ true
    back (inl a) = simp (p.holds a)
    back (inr x) = simp (q.holds x, or-true)

pub says_not : {b : Bool} {A : Type 0} → Says b A → Says (not b) (A → ⊥)
says_not {b} {A} p = record { says = go b p; holds = back b p }
  where
    go : (b : Bool) → Says b A → not b ≡ true → A → ⊥
    go true p h a = false≢true h
    go false p h a = false≢true (p.holds a)

    back : (b : Bool) → Says b A → (A → ⊥) → not b ≡ true
    back true p h = absurd (h (p.says refl))
    back false p h = refl

pub says_eqb : (a b : ℕ) → Says (eqb a b) (a ≡ b)
says_eqb a b = record { says = eqb-true a b; holds = eq-eqb a b }

-- a test of a statement that says the same
pub says_as : {b : Bool} {A B : Type 0} → Says b A → (A → B) → (B → A) → Says b B
says_as p f g = record { says = λ h. f (p.says h); holds = λ x. p.holds (g x) }

-- ---- the entries of a tree

module _ (t : Tree) (e : Entries) (h : Holds e (whole t) 1 0 0) where
  abbrev n : ℕ
  n = size (whole t)

  facts : Facts n e
  facts = facts_of t e h

  module _ (x y : Node (whole t)) where
    says_same : Says (eqb (pre x) (pre y)) (x ≡ y)
    says_same = says_as (says_eqb (pre x) (pre y)) (pre_injective x y) (ap pre)

    says_before : Says (ltb (pre x) (pre y)) (Before x y)
    says_before = record { says = λ q. pre_before x y (ltb-true _ _ q); holds = λ b. lt-ltb _ _ (before_pre x y b) }

    says_parent : Says (parent_of e.fa (pre x) (pre y)) (Parent x y)
    unfolding parent_of
    says_parent = says_as (says_eqb (e.fa (pre y)) (pre x)) (fa_parent t e h x y) (parent_fa t e h x y)

    says_ancestor : Says (ancestor_of n e.fa (pre x) (pre y)) (Ancestor x y)
    says_ancestor = record { says = there; holds = back }
      where
        there : ancestor_of n e.fa (pre x) (pre y) ≡ true → Ancestor x y
        there q =
            ⊎_elim (λ (l : pre x < pre y). ⊎_elim
            (λ (m : pre y < e.ff (pre x)). below_ancestor x y (ff_below t e h x y l m))
            (λ (g : e.ff (pre x) ≤ pre y). absurd (out (λ w. g))) (lt_or_ge (pre y) (e.ff (pre x))))
            (λ (g : pre y ≤ pre x). absurd (out (λ w. absurd (omega arith)))) (lt_or_ge (pre x) (pre y))
          where
            out : (pre x < pre y → e.ff (pre x) ≤ pre y) → ⊥
            out w = false≢true (sym (inside_no n e facts n (pre x) (pre y) (pre_low x) (pre_low y) (pre_high y) w) ∙ q)

        back : Ancestor x y → ancestor_of n e.fa (pre x) (pre y) ≡ true
        back a =
            let b = below_ff t e h x y (ancestor_below a) in
            inside_yes n e facts n (pre x) (pre y) (pre_low x) b.0 (pre_high y) (pre_high y) b.1

    says_or_self : Says (ancestor_or_self n e.fa (pre x) (pre y)) ((x ≡ y) ⊎ Ancestor x y)
    unfolding ancestor_or_self
    says_or_self = says_or says_same says_ancestor

    says_whole : Says (whole_before n e.fa (pre x) (pre y)) (Before x y × (Ancestor x y → ⊥))
    unfolding whole_before
    says_whole = says_and says_before (says_not says_ancestor)

    says_sibling : Says (sibling_before e.fa (pre x) (pre y)) (Before x y × Siblings x y)
    unfolding sibling_before parent_of
    says_sibling = says_and says_before (says_as (says_and (says_not (says_eqb (e.fa (pre x)) 0)) (says_eqb (e.fa (pre y)) (e.fa (pre x)))) there back)
      where
        there : (e.fa (pre x) ≡ 0 → ⊥) × (e.fa (pre y) ≡ e.fa (pre x)) → Siblings x y
        there p =
            let s = fa_some t e h x (omega (arith, p.0)) in
            (s.0, s.1, fa_parent t e h s.0 y (p.1 ∙ sym s.2))

        back : Siblings x y → (e.fa (pre x) ≡ 0 → ⊥) × (e.fa (pre y) ≡ e.fa (pre x))
        back s =
            let a = parent_fa t e h s.0 x s.1 in
            let b = parent_fa t e h s.0 y s.2 in
            ((λ z. omega (arith, pre_low s.0)), b ∙ sym a)

    says_passes : (test : ℕ) → Says (passes test (e.name (pre y))) (Passes test y)
    unfolding passes
    says_passes test =
        says_or (says_eqb test 0) (says_as (says_eqb test (e.name (pre y))) (λ q. q ∙ name_is t e h y) (λ q. q ∙ sym (name_is t e h y)))

  -- a choice by a test, on both sides
  picked : (b : Bool) {c d : Bool} {A B : Type 0} → Says c A → Says d B → Says (pick b c d) (pick b A B)
  picked true p q = p
  picked false p q = q

  pub axis_says : (axis : ℕ) (x y : Node (whole t)) → Says (on_axis axis n e.fa (pre x) (pre y)) (OnAxis axis x y)
  unfolding on_axis
  axis_says axis x y =
      picked (eqb axis 0) (says_same x y)
      (picked (eqb axis 1) (says_parent x y)
      (picked (eqb axis 2) (says_ancestor x y)
      (picked (eqb axis 3) (says_or_self x y)
      (picked (eqb axis 4) (says_parent y x)
      (picked (eqb axis 5) (says_ancestor y x)
      (picked (eqb axis 6) (says_or_self y x)
      (picked (eqb axis 7) (says_whole x y)
      (picked (eqb axis 8) (says_whole y x)
      (picked (eqb axis 9) (says_sibling x y)
      (says_sibling y x))))))))))

  pub chosen_says : (axis test : ℕ) (x y : Node (whole t)) → Says (chosen axis n e.fa e.name test (pre x) (pre y)) (Chosen axis test x y)
  unfolding chosen
  chosen_says axis test x y = says_and (axis_says axis x y) (says_passes x y test)

  -- ---- the position

  module _ (axis : ℕ) (b : ℕ → Bool) (P : Node (whole t) → Type 0) (q : (y : Node (whole t)) → Says (b (pre y)) (P y)) where
    -- the elements that pass, up to y
    upto : (y : Node (whole t)) → (l : List (Node (whole t))) × Lists (λ z. P z × ((z ≡ y) ⊎ Before z y)) l × (length l ≡ length (up_to (pre y) b))
    upto y = let s = selected {f = whole t} b (pre y) (pre_high y) in (
      s.0,
      record {
        order = s.1.order;
        sound = λ z m. let w = s.1.sound z m in ((q z).says w.0, ⊎_elim (λ (a : pre z ≡ pre y). inl (pre_injective z y a)) (λ (a : pre z < pre y). inr (pre_before z y a)) (eq-or-lt_of_le w.1));
        complete = λ z w. s.1.complete z ((q z).holds w.0) (⊎_elim (λ (a : z ≡ y). omega (arith, ap pre a)) (λ (a : Before z y). omega (arith, before_pre z y a)) w.1);
      },
      sym (ap length s.1.ranks ∙ length-map s.0 pre),
    )

    pub pth_says : (p : ℕ) (y : Node (whole t)) → Says (pth axis p b (pre y)) (Pth axis P p y)
    unfolding pth
    pth_says p y = says_as (says_and (q y) (says_eqb (length (up_to (pre y) b)) p))
        (λ w. let s = upto y in (w.0, (s.0, s.1, s.2 ∙ w.1)))
        (λ w. let s = upto y in (w.0, sym s.2 ∙ ap length (lists_unique _ _ _ s.1 w.1.1) ∙ w.1.2))

    pub kept_says : (p : ℕ) (y : Node (whole t)) → Says (kept axis p b (pre y)) (Kept axis p P y)
    unfolding kept
    kept_says p y = picked (eqb p 0) (q y) (pth_says p y)

  -- ---- the union

  pub union_says : (axis test p : ℕ) (xs : List (Node (whole t))) (y : Node (whole t))
      → Says (in_answer axis n e.fa e.name test p (map pre xs) (pre y)) (InUnion axis test p xs y)
  unfolding some
  union_says axis test p [] y = record { says = λ z. absurd (false≢true z); holds = λ w. absurd (Memᴰ.not-nil w.1) }
  union_says axis test p (x ∷ xs) y =
      says_as (says_or (kept_says axis (chosen axis n e.fa e.name test (pre x)) (Chosen axis test x) (chosen_says axis test x) p y) (union_says axis test p xs y)) there back
    where
      there : Kept axis p (Chosen axis test x) y ⊎ InUnion axis test p xs y → InUnion axis test p (x ∷ xs) y
      there (inl k) = (x, Memᴰ.head refl, k)
      there (inr w) = (w.0, Memᴰ.tail w.1, w.2)

      back : InUnion axis test p (x ∷ xs) y → Kept axis p (Chosen axis test x) y ⊎ InUnion axis test p xs y
      back w =
          ⊎_elim (λ (a : w.0 ≡ x). inl (subst (λ (z : Node (whole t)). Kept axis p (Chosen axis test z) y) a w.2))
          (λ (m : Memᴰ w.0 xs). inr (w.0, m, w.2)) (Memᴰ.cases_cons w.1)

  -- the answer over ranks lists just the elements of the union, by their ranks
  pub union_listed : (axis test p : ℕ) (xs : List (Node (whole t)))
      → (l : List (Node (whole t))) × Lists (InUnion axis test p xs) l × (up_to n (in_answer axis n e.fa e.name test p (map pre xs)) ≡ map pre l)
  union_listed axis test p xs =
      let s = selected {f = whole t} (in_answer axis n e.fa e.name test p (map pre xs)) n (omega arith) in (
        s.0,
        record {
          order = s.1.order;
          sound = λ y m. (union_says axis test p xs y).says (s.1.sound y m).0;
          complete = λ y w. s.1.complete y ((union_says axis test p xs y).holds w) (pre_high y);
        },
        s.1.ranks,
      )
