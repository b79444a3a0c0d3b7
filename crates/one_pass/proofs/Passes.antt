-- One more rank of a pass.
--   raise_on, lower_on                                 the small functions where the mark is set
--   raised_up, lowered_up, raised_down, lowered_down   the number that is carried along
--   below_is, following_is, above_is, preceding_is     what the number says of the rank
--   handed_up, handed_down                             the marks that are handed to parents
--   child_is, later_is, earlier_is, parents_are        what those say of the rank
--   Upward, Downward                                   the marks of a pass, where the ranks before j, or from j on, are done
use Rattle.std.proofs.Common.{ℕ, ◌+◌, ◌-◌, ◌≤◌, ◌<◌, ◌≡◌, refl, ap, ◌∙◌, sym, subst, List, Bool, true, false, ◌&&◌, ◌||◌, arith, length, max, min, ltb, leb, eqb}
use Rattle.std.specs.Prelude.{not}
use Rattle.std.proofs.Math.Logic.{⊎_elim}
use Rattle.std.proofs.Math.Bool.{or-true, or-false}
use Rattle.std.proofs.Math.Decide.{ℕ_discrete}
use lib.ListN.{set}
use lib.Seq.{get_or-set_same, get_or-set_other}
use borrow.Author.Tests.{lt-ltb, le-ltb, le-leb, lt-leb}
use Rattle.trees.specs.Order.{lt_or_ge}
use Rattle.trees.specs.Signature.{entries_of, width}
use Rattle.xpath.specs.Spread.{Seen, More, more_up, more_down, Greatest, Least, raised_to, lowered_to, raised_greatest, lowered_least, spread_descendant, spread_following, spread_ancestor, spread_preceding, spread_child}
use Rattle.xpath.proofs.SpreadKids.{Kids, kids_hit, kids_miss, spread_parent, spread_later, spread_earlier}
use Rattle.blocks.specs.Checked.{Ready}
use Rattle.marks.specs.Marks.{marked, Marks}
use Rattle.marks.proofs.Marking.{Done}
use Rattle.one_pass.specs.Reached.{reached}

-- ---- the small functions

module _ (x y : ℕ) where
  pub raise_on : max x y ≡ raised_to true x y
  unfolding raised_to
  raise_on = ⊎_elim (λ (l : x < y). rw (lt-ltb x y l) (omega arith)) (λ (g : y ≤ x). rw (le-ltb x y g) (omega arith)) (lt_or_ge x y)

  pub lower_on : min x y ≡ lowered_to true x y
  unfolding lowered_to
  lower_on = ⊎_elim (λ (l : y < x). rw (lt-ltb y x l) (omega arith)) (λ (g : x ≤ y). rw (le-ltb y x g) (omega arith)) (lt_or_ge y x)

-- ---- the number that is carried along

module _ (from : List Bool) (k x r y : ℕ) where
  module _ (v : ℕ → ℕ) (l : 1 ≤ k) (p : y ≡ v k) where
    pub raised_up : r ≡ raised_to (marked from k) x y → Greatest (Seen (marked from) 1 k) v x → Greatest (Seen (marked from) 1 (k + 1)) v r
    raised_up q g =
        subst (Greatest (Seen (marked from) 1 (k + 1)) v) (sym (q ∙ ap (raised_to (marked from k) x) p)) (raised_greatest (more_up (marked from) k l) v x g)

    pub lowered_up : r ≡ lowered_to (marked from k) x y → Least (Seen (marked from) 1 k) v x → Least (Seen (marked from) 1 (k + 1)) v r
    lowered_up q g =
        subst (Least (Seen (marked from) 1 (k + 1)) v) (sym (q ∙ ap (lowered_to (marked from k) x) p)) (lowered_least (more_up (marked from) k l) v x g)

  module _ (n j : ℕ) (e : j ≡ k + 1) (h : k ≤ n) where
    pub raised_down : r ≡ raised_to (marked from k) x k → Greatest (Seen (marked from) j (n + 1)) (λ c. c) x → Greatest (Seen (marked from) k (n + 1)) (λ c. c) r
    raised_down q g =
        subst (Greatest (Seen (marked from) k (n + 1)) (λ c. c)) (sym q)
        (raised_greatest (more_down (marked from) k n h) (λ c. c) x (subst (λ (i : ℕ). Greatest (Seen (marked from) i (n + 1)) (λ c. c) x) e g))

    pub lowered_down : r ≡ lowered_to (marked from k) x k → Least (Seen (marked from) j (n + 1)) (λ c. c) x → Least (Seen (marked from) k (n + 1)) (λ c. c) r
    lowered_down q g =
        subst (Least (Seen (marked from) k (n + 1)) (λ c. c)) (sym q)
        (lowered_least (more_down (marked from) k n h) (λ c. c) x (subst (λ (i : ℕ). Least (Seen (marked from) i (n + 1)) (λ c. c) x) e g))

-- ---- what is carried says which ranks are on the axis

at_most : (a b : ℕ) → leb a b ≡ ltb a (b + 1)
at_most a b = ⊎_elim (λ (l : a < b + 1). le-leb a b (omega arith) ∙ sym (lt-ltb a (b + 1) l)) (λ (g : b + 1 ≤ a). lt-leb a b (omega arith) ∙ sym (le-ltb a (b + 1) g)) (lt_or_ge a (b + 1))

module _ (s : List ℕ) (n : ℕ) (f : Ready s n) (from : List Bool) (j : ℕ) (l : 1 ≤ j) (h : j ≤ n) (x : ℕ) where
  pub below_is : Greatest (Seen (marked from) 1 j) (entries_of width s).ff x → ltb j x ≡ reached 2 s n from j
  below_is = spread_descendant n (entries_of width s) f.facts f.small (marked from) j l h x

  pub following_is : Least (Seen (marked from) 1 j) (entries_of width s).ff x → leb x j ≡ reached 7 s n from j
  following_is g = at_most x j ∙ spread_following n (entries_of width s) f.facts f.small (marked from) j l h x g

  module _ (after : ℕ) (e : after ≡ j + 1) (past : ℕ) (p : past ≡ (entries_of width s).ff j) where
    pub above_is : Least (Seen (marked from) after (n + 1)) (λ c. c) x → ltb x past ≡ reached 5 s n from j
    above_is g =
        ap (ltb x) p
        ∙ spread_ancestor n (entries_of width s) f.facts f.small (marked from) j l h x (subst (λ (i : ℕ). Least (Seen (marked from) i (n + 1)) (λ c. c) x) e g)

    pub preceding_is : Greatest (Seen (marked from) after (n + 1)) (λ c. c) x → leb past x ≡ reached 8 s n from j
    preceding_is g =
        ap (λ (y : ℕ). leb y x) p ∙ at_most ((entries_of width s).ff j) x
        ∙ spread_preceding n (entries_of width s) f.facts f.small (marked from) j l h x (subst (λ (i : ℕ). Greatest (Seen (marked from) i (n + 1)) (λ c. c) x) e g)

-- ---- marks that are handed to parents

-- the same marks
kids_as : {S : ℕ → Type 0} (fa : ℕ → ℕ) (n : ℕ) (B C : ℕ → Bool) → ((p : ℕ) → C p ≡ B p) → Kids S fa n B → Kids S fa n C
kids_as fa n B C e h = record {
  yes = λ c s a b. e (fa c) ∙ h.yes c s a b;
  no = λ p a b q. h.no p a b (sym (e p) ∙ q);
}

module _ (from seen : List Bool) (k up : ℕ) (fa : ℕ → ℕ) (n : ℕ) (p : up ≡ fa k) (w : up < length seen) where
  -- the mark of k, put beside the one that its parent has
  abbrev handed_on : List Bool
  handed_on = set seen up (marked seen up || marked from k)

  handed : {S T : ℕ → Type 0} → More S T (marked from) k → Kids S fa n (marked seen) → Kids T fa n (marked handed_on)
  handed {S} {T} m h = go (marked from k) refl
    where
      own : (i : ℕ) → i ≡ up → marked handed_on i ≡ (marked seen up || marked from k)
      own i e = ap (marked handed_on) e ∙ get_or-set_same seen up (marked seen up || marked from k) false w

      other : (i : ℕ) → (i ≡ up → ⊥) → marked handed_on i ≡ marked seen i
      other i ne = get_or-set_other seen up i (marked seen up || marked from k) false ne

      same : marked from k ≡ false → (i : ℕ) → Dec (i ≡ up) → marked handed_on i ≡ marked seen i
      same e i (yes q) = own i q ∙ ap (λ (b : Bool). marked seen up || b) e ∙ or-false (marked seen up) ∙ ap (marked seen) (sym q)
      same e i (no ne) = other i ne

      go : (b : Bool) → marked from k ≡ b → Kids T fa n (marked handed_on)
      go true e =
          kids_hit m fa n (marked seen) h e (marked handed_on)
          (λ u. own (fa k) (sym p) ∙ ap (λ (b : Bool). marked seen up || b) e ∙ or-true (marked seen up))
          (λ i ne. other i (λ z. ne (z ∙ p)))
      go false e = kids_as fa n (marked seen) (marked handed_on) (λ i. same e i (ℕ_discrete i up)) (kids_miss m fa n (marked seen) h e)

  pub handed_up : 1 ≤ k → Kids (Seen (marked from) 1 k) fa n (marked seen) → Kids (Seen (marked from) 1 (k + 1)) fa n (marked handed_on)
  handed_up l h = handed (more_up (marked from) k l) h

  pub handed_down : (j : ℕ) → j ≡ k + 1 → k ≤ n → Kids (Seen (marked from) j (n + 1)) fa n (marked seen) → Kids (Seen (marked from) k (n + 1)) fa n (marked handed_on)
  handed_down j e g h = handed (more_down (marked from) k n g) (subst (λ (i : ℕ). Kids (Seen (marked from) i (n + 1)) fa n (marked seen)) e h)

module _ (s : List ℕ) (n : ℕ) (f : Ready s n) (from : List Bool) (j : ℕ) (l : 1 ≤ j) (h : j ≤ n) where
  -- the parent is an entry before j
  pub parent_small : (entries_of width s).fa j ≤ 4096
  parent_small = omega (arith, (f.facts.each j l h).fa_high, f.small)

  module _ (hit : Bool) (u : ℕ) (p : u ≡ (entries_of width s).fa j) (marks : List Bool) (q : hit ≡ (not (eqb u 0) && marked marks u)) where
    at : hit ≡ (not (eqb ((entries_of width s).fa j) 0) && marked marks ((entries_of width s).fa j))
    at = q ∙ ap (λ (i : ℕ). not (eqb i 0) && marked marks i) p

    pub later_is : Kids (Seen (marked from) 1 j) (entries_of width s).fa n (marked marks) → hit ≡ reached 9 s n from j
    later_is k = at ∙ spread_later n (entries_of width s) f.facts f.small (marked from) j l h (marked marks) k

    pub earlier_is : (after : ℕ) → after ≡ j + 1 → Kids (Seen (marked from) after (n + 1)) (entries_of width s).fa n (marked marks) → hit ≡ reached 10 s n from j
    earlier_is after e k =
        at
        ∙ spread_earlier n (entries_of width s) f.facts f.small (marked from) j l h (marked marks)
        (subst (λ (i : ℕ). Kids (Seen (marked from) i (n + 1)) (entries_of width s).fa n (marked marks)) e k)

  pub child_is : (hit : Bool) (u : ℕ) → u ≡ (entries_of width s).fa j → hit ≡ (not (eqb u 0) && marked from u) → hit ≡ reached 1 s n from j
  child_is hit u p q =
      q ∙ ap (λ (i : ℕ). not (eqb i 0) && marked from i) p
      ∙ sym (spread_child n (entries_of width s) f.facts f.small (marked from) j l h)

-- every parent of a marked rank has a mark
pub parents_are : (s : List ℕ) (n : ℕ) → Ready s n → (from m : List Bool) (j : ℕ) → j ≡ n + 1 → length m ≡ 4097
    → Kids (Seen (marked from) 1 j) (entries_of width s).fa n (marked m) → Marks n (reached 4 s n from) m
parents_are s n f from m j e w k = record {
  long = w;
  are = λ i l h. spread_parent n (entries_of width s) f.facts f.small (marked from) i l h (marked m)
      (subst (λ (x : ℕ). Kids (Seen (marked from) 1 x) (entries_of width s).fa n (marked m)) e k);
}

-- ---- the marks of a pass

-- of the ranks before j those that are reached have a mark beside the ones that were there
abbrev pub Upward : ℕ → List ℕ → ℕ → List Bool → List Bool → ℕ → List Bool → Type 0
Upward axis s n from before j m = Done n (λ i. ltb i j) (λ i. marked before i || reached axis s n from i) before m

-- of the ranks from j on
abbrev pub Downward : ℕ → List ℕ → ℕ → List Bool → List Bool → ℕ → List Bool → Type 0
Downward axis s n from before j m = Done n (λ i. leb j i) (λ i. marked before i || reached axis s n from i) before m
