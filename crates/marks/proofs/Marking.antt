-- Laws of marks.
--   count_yes, count_no, count_next   one more rank counted
--   write_yes, write_no   one more rank written
--   marks_none            no rank has a mark
--   lesser_…, min_is      which number is the lesser
--   Done                  the marks where some of the ranks are done
--   upward_…, downward_…  none, one more, all, from the first rank up and from the last one down
use Prim.Native.Nat.{ℕ, ◌+◌, ◌≤◌, ◌<◌, min}
use mathlib.Core.Path.{◌≡◌, refl, ap, ◌∙◌, sym}
use mathlib.Core.Logic.{⊎_elim}
use mathlib.Core.List.{List}
use mathlib.Core.Bool.{Bool, true, false, ◌||◌}
use native.Mathlib.Omega.{arith}
use native.Mathlib.Decide.{ℕ_discrete}
use lib.ListN.{length, set, replicate, length-append, length-replicate, get_or-replicate}
use lib.Seq.{get_or-set_same, get_or-set_other}
use lib.Dec.{ltb, leb}
use mir.Val.{bool_byte}
use Rattle.turns.specs.Pick.{pick}
use Rattle.trees.specs.Order.{lt_or_ge}
use borrow.Author.Tests.{lt-ltb, le-ltb, le-leb, lt-leb}
use Rattle.xpath.specs.Select.{up_to}
use Rattle.xpath.specs.SelectLaws.{up_yes, up_no, up_grows, front, front_store}
use Rattle.marks.specs.Marks.{marked, Marks, lesser}

-- ---- counting and writing the ranks that pass

module _ (P : ℕ → Bool) (j : ℕ) where
  pub count_yes : (count : ℕ) → P (j + 1) ≡ true → count ≡ length (up_to j P) → count + 1 ≡ length (up_to (j + 1) P)
  count_yes count h q = omega (arith, simp length-append at (ap length (up_yes P j h)))

  pub count_no : (count : ℕ) → P (j + 1) ≡ false → count ≡ length (up_to j P) → count ≡ length (up_to (j + 1) P)
  count_no count h q = omega (arith, ap length (up_no P j h))

  pub count_next : (count b : ℕ) → b ≡ bool_byte (P (j + 1)) → count ≡ length (up_to j P) → count + b ≡ length (up_to (j + 1) P)
  count_next count b e q = go (P (j + 1)) refl
    where
      go : (x : Bool) → P (j + 1) ≡ x → count + b ≡ length (up_to (j + 1) P)
      go true h = omega (arith, count_yes count h q, e ∙ ap bool_byte h)
      go false h = omega (arith, count_no count h q, e ∙ ap bool_byte h)

  -- there is room for one more that passes
  pub count_room : (n : ℕ) → P (j + 1) ≡ true → j < n → length (up_to j P) < length (up_to n P)
  count_room n h l = omega (arith, simp length-append at (ap length (up_yes P j h)), up_grows P (j + 1) n (omega arith))

  pub write_yes : (room room₀ : List ℕ) (at : ℕ) → P (j + 1) ≡ true → at ≡ length (up_to j P) → length (up_to j P) < length room₀
      → room ≡ front (up_to j P) room₀ → set room at (j + 1) ≡ front (up_to (j + 1) P) room₀
  write_yes room room₀ at h q l r =
      ap (λ (x : List ℕ). set x at (j + 1)) r ∙ ap (λ (x : ℕ). set (front (up_to j P) room₀) x (j + 1)) q
      ∙ front_store (up_to j P) room₀ (j + 1) l ∙ ap (λ (x : List ℕ). front x room₀) (sym (up_yes P j h))

  pub write_no : (room room₀ : List ℕ) → P (j + 1) ≡ false → room ≡ front (up_to j P) room₀ → room ≡ front (up_to (j + 1) P) room₀
  write_no room room₀ h r = r ∙ ap (λ (x : List ℕ). front x room₀) (sym (up_no P j h))

-- ---- marking rank after rank

-- of the ranks that are done, just those that pass F have a mark; the others are as they were
abbrev pub Done : ℕ → (ℕ → Bool) → (ℕ → Bool) → List Bool → List Bool → Type 0
Done n D F m₀ m = (i : ℕ) → 1 ≤ i → i ≤ n → marked m i ≡ pick (D i) (F i) (marked m₀ i)

module _ (n : ℕ) (F : ℕ → Bool) (m₀ : List Bool) where
  none_done : (D : ℕ → Bool) → ((i : ℕ) → 1 ≤ i → i ≤ n → D i ≡ false) → Done n D F m₀ m₀
  none_done D h i l g = sym (ap (λ (b : Bool). pick b (F i) (marked m₀ i)) (h i l g))

  -- rank k is done next
  module _ (D E : ℕ → Bool) (k : ℕ) (before : D k ≡ false) (now : E k ≡ true) (other : (i : ℕ) → (i ≡ k → ⊥) → D i ≡ E i) (m : List Bool) (p : Done n D F m₀ m) where
    next_done : (v : Bool) → v ≡ F k → k < length m → Done n E F m₀ (set m k v)
    next_done v q w i l g = go (ℕ_discrete i k)
      where
        go : Dec (i ≡ k) → marked (set m k v) i ≡ pick (E i) (F i) (marked m₀ i)
        go (yes e) =
            ap (marked (set m k v)) e ∙ get_or-set_same m k v false w ∙ q
            ∙ sym (ap (λ (x : ℕ). pick (E x) (F x) (marked m₀ x)) e ∙ ap (λ (b : Bool). pick b (F k) (marked m₀ k)) now)
        go (no ne) = get_or-set_other m k i v false ne ∙ p i l g ∙ ap (λ (b : Bool). pick b (F i) (marked m₀ i)) (other i ne)

    not_done : 1 ≤ k → k ≤ n → marked m k ≡ marked m₀ k
    not_done l g = p k l g ∙ ap (λ (b : Bool). pick b (F k) (marked m₀ k)) before

  all_done : (D : ℕ → Bool) (m : List Bool) → ((i : ℕ) → 1 ≤ i → i ≤ n → D i ≡ true) → length m ≡ 4097 → Done n D F m₀ m → Marks n F m
  all_done D m h w p = record {
    long = w;
    are = λ i l g. p i l g ∙ ap (λ (b : Bool). pick b (F i) (marked m₀ i)) (h i l g);
  }

  -- ---- upwards: the ranks before j are done

  pub upward_none : Done n (λ i. ltb i 1) F m₀ m₀
  upward_none = none_done (λ i. ltb i 1) (λ i l g. le-ltb i 1 l)

  module _ (j : ℕ) (m : List Bool) (p : Done n (λ i. ltb i j) F m₀ m) where
    upward_other : (i : ℕ) → (i ≡ j → ⊥) → ltb i j ≡ ltb i (j + 1)
    upward_other i ne = ⊎_elim (λ (l : i < j). lt-ltb i j l ∙ sym (lt-ltb i (j + 1) (omega arith)))
        (λ (g : j ≤ i). le-ltb i j g ∙ sym (le-ltb i (j + 1) (omega arith))) (lt_or_ge i j)

    pub upward_next : (v : Bool) → v ≡ F j → j < length m → Done n (λ i. ltb i (j + 1)) F m₀ (set m j v)
    upward_next = next_done (λ i. ltb i j) (λ i. ltb i (j + 1)) j (le-ltb j j (omega arith)) (lt-ltb j (j + 1) (omega arith)) upward_other m p

    pub upward_old : 1 ≤ j → j ≤ n → marked m j ≡ marked m₀ j
    upward_old = not_done (λ i. ltb i j) (λ i. ltb i (j + 1)) j (le-ltb j j (omega arith)) (lt-ltb j (j + 1) (omega arith)) upward_other m p

  pub upward_done : (j : ℕ) (m : List Bool) → n < j → length m ≡ 4097 → Done n (λ i. ltb i j) F m₀ m → Marks n F m
  upward_done j m h = all_done (λ i. ltb i j) m (λ i l g. lt-ltb i j (omega arith))

  -- ---- downwards: the ranks from j on are done

  pub downward_none : (j : ℕ) → n < j → Done n (λ i. leb j i) F m₀ m₀
  downward_none j h = none_done (λ i. leb j i) (λ i l g. lt-leb j i (omega arith))

  -- the next is rank k, just before those that are done
  module _ (j k : ℕ) (e : j ≡ k + 1) (m : List Bool) (p : Done n (λ i. leb j i) F m₀ m) where
    downward_before : leb j k ≡ false
    downward_before = lt-leb j k (omega (arith, e))

    downward_other : (i : ℕ) → (i ≡ k → ⊥) → leb j i ≡ leb k i
    downward_other i ne = ⊎_elim (λ (l : i < k). lt-leb j i (omega (arith, e)) ∙ sym (lt-leb k i l))
        (λ (g : k ≤ i). le-leb j i (omega (arith, e)) ∙ sym (le-leb k i g)) (lt_or_ge i k)

    pub downward_next : (v : Bool) → v ≡ F k → k < length m → Done n (λ i. leb k i) F m₀ (set m k v)
    downward_next = next_done (λ i. leb j i) (λ i. leb k i) k downward_before (le-leb k k (omega arith)) downward_other m p

    pub downward_old : 1 ≤ k → k ≤ n → marked m k ≡ marked m₀ k
    downward_old = not_done (λ i. leb j i) (λ i. leb k i) k downward_before (le-leb k k (omega arith)) downward_other m p

  pub downward_done : (j : ℕ) (m : List Bool) → j ≤ 1 → length m ≡ 4097 → Done n (λ i. leb j i) F m₀ m → Marks n F m
  downward_done j m h = all_done (λ i. leb j i) m (λ i l g. le-leb j i (omega arith))

-- a mark put beside the one that is there
module _ (n : ℕ) (K : ℕ → Bool) (m₀ : List Bool) where
  abbrev Beside : (ℕ → Bool) → List Bool → Type 0
  Beside D m = Done n D (λ i. marked m₀ i || K i) m₀ m

  module _ (k : ℕ) (low : 1 ≤ k) (high : k ≤ n) (m : List Bool) (w : k < length m) (b : Bool) (q : b ≡ K k) where
    beside : marked m k ≡ marked m₀ k → (marked m k || b) ≡ (marked m₀ k || K k)
    beside e = ap (λ (x : Bool). x || b) e ∙ ap (λ (x : Bool). marked m₀ k || x) q

    pub upward_beside : Beside (λ i. ltb i k) m → Beside (λ i. ltb i (k + 1)) (set m k (marked m k || b))
    upward_beside p =
        upward_next n (λ i. marked m₀ i || K i) m₀ k m p (marked m k || b) (beside (upward_old n (λ i. marked m₀ i || K i) m₀ k m p low high)) w

    pub downward_beside : (j : ℕ) → j ≡ k + 1 → Beside (λ i. leb j i) m → Beside (λ i. leb k i) (set m k (marked m k || b))
    downward_beside j e p =
        downward_next n (λ i. marked m₀ i || K i) m₀ j k e m p (marked m k || b) (beside (downward_old n (λ i. marked m₀ i || K i) m₀ j k e m p low high)) w

-- ---- no marks

-- no rank has a mark
pub marks_none : (n : ℕ) → n ≤ 4096 → Marks n (λ j. false) (replicate 4097 false)
marks_none n h = record {
  long = length-replicate {A = Bool} 4097 false;
  are = λ j l g. get_or-replicate 4097 j false false (omega arith);
}

-- ---- the lesser of two numbers

module _ (a b : ℕ) where
  pub lesser_first : a ≤ b → lesser a b ≡ a
  unfolding lesser
  lesser_first h = simp (le-leb a b h)

  pub lesser_second : b < a → lesser a b ≡ b
  unfolding lesser
  lesser_second h = simp (lt-leb a b h)

  pub min_is : min a b ≡ lesser a b
  min_is = ⊎_elim (λ (l : b < a). omega (arith, lesser_second l)) (λ (g : a ≤ b). omega (arith, lesser_first g)) (lt_or_ge b a)
