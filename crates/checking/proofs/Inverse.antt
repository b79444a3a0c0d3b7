-- What a step that was taken says: it opened the next entry, or it closed the innermost open element. So a step keeps the ranges.
--   Opens, Closes     a step that opened, and one that closed
--   step_inverse      a step that was taken is one of them
--   step_ranges       a step keeps the ranges
--   step_grows        a step makes next + closed one more
--   step_before       a step is taken before the end only
use Prim.Native.Nat.{ℕ, ◌+◌, ◌-◌, ◌≤◌, ◌<◌}
use mathlib.Core.Path.{◌≡◌, refl}
use mathlib.Core.Logic.{◌⊎◌, inl, inr}
use mathlib.Core.Bool.{Bool, true, false}
use lib.Dec.{ltb, leb, eqb}
use native.Mathlib.Omega.{arith}
use borrow.Author.Tests.{ltb-true, leb-true, leb-false, eqb-true, eqb-false}
use Rattle.turns.specs.Pick.{pick}
use Rattle.turns.specs.Turn.{moved, answered, refused}
use Rattle.trees.specs.Signature.{Entries}
use Rattle.checking.specs.declared.CheckState.{CheckState}
use Rattle.checking.specs.Rule.{close_of, closed_of, open_of, step_of, nameless, second_root, accepted, Ranges}
use Rattle.checking.proofs.Cases.{accepted_next, accepted_top}

-- the step opened the next entry
pub record Opens (any : Bool) (n : ℕ) (e : Entries) (st to : CheckState) : Type 0 where
  pub there : st.next.0 ≤ n
  pub named : nameless any e st.next.0 ≡ false
  pub low : e.fa st.next.0 < st.next.0
  pub one_root : second_root st.next.0 (e.fa st.next.0) ≡ false
  pub here : e.fa st.next.0 ≡ st.top.0
  pub is : to ≡ open_of st

-- the step closed the innermost open element
pub record Closes (e : Entries) (st to : CheckState) : Type 0 where
  pub some_open : st.top.0 ≡ 0 → ⊥
  pub room : st.closed.0 ≡ st.next.0 - 1 → ⊥
  pub post_is : e.post st.top.0 ≡ st.closed.0 + 1
  pub ff_is : e.ff st.top.0 ≡ st.next.0
  pub up : e.fa st.top.0 < st.top.0
  pub is : to ≡ closed_of e st

never : {number entry : ℕ} {st : CheckState} → refused number entry ≡ moved st → ⊥
never q = let z : ◌≡◌ {A = ℕ} 0 1 = cc in omega arith

moved_is : {a b : CheckState} → moved a ≡ moved b → b ≡ a
moved_is q = cc

pub close_inverse : (e : Entries) (st to : CheckState) → close_of e st ≡ moved to → Closes e st to
unfolding close_of
close_inverse e st to =
    go (eqb st.top.0 0) (eqb st.closed.0 (st.next.0 - 1)) (eqb (e.post st.top.0) (st.closed.0 + 1))
    (eqb (e.ff st.top.0) st.next.0) (ltb (e.fa st.top.0) st.top.0) refl refl refl refl refl
  where
    go : (a b c d f : Bool) → eqb st.top.0 0 ≡ a → eqb st.closed.0 (st.next.0 - 1) ≡ b
        → eqb (e.post st.top.0) (st.closed.0 + 1) ≡ c → eqb (e.ff st.top.0) st.next.0 ≡ d → ltb (e.fa st.top.0) st.top.0 ≡ f
        → pick a (refused 4 st.next.0) (pick b (refused 9 0)
        (pick c (pick d (pick f (moved (closed_of e st)) (refused 4 st.top.0)) (refused 6 st.top.0)) (refused 5 st.top.0))) ≡ moved to
        → Closes e st to
    go true b c d f ha hb hc hd hf h = absurd (never h)
    go false true c d f ha hb hc hd hf h = absurd (never h)
    go false false false d f ha hb hc hd hf h = absurd (never h)
    go false false true false f ha hb hc hd hf h = absurd (never h)
    go false false true true false ha hb hc hd hf h = absurd (never h)
    go false false true true true ha hb hc hd hf h = record {
      some_open = eqb-false _ _ ha;
      room = eqb-false _ _ hb;
      post_is = eqb-true _ _ hc;
      ff_is = eqb-true _ _ hd;
      up = ltb-true _ _ hf;
      is = moved_is h;
    }

-- no step of the check is an answer
close_silent : (e : Entries) (st to : CheckState) → close_of e st ≡ answered to → ⊥
unfolding close_of
close_silent e st to =
    go (eqb st.top.0 0) (eqb st.closed.0 (st.next.0 - 1)) (eqb (e.post st.top.0) (st.closed.0 + 1))
    (eqb (e.ff st.top.0) st.next.0) (ltb (e.fa st.top.0) st.top.0)
  where
    go : (a b c d f : Bool) → pick a (refused 4 st.next.0) (pick b (refused 9 0)
        (pick c (pick d (pick f (moved (closed_of e st)) (refused 4 st.top.0)) (refused 6 st.top.0)) (refused 5 st.top.0))) ≡ answered to → ⊥
    go true b c d f h = let z : ◌≡◌ {A = ℕ} 0 1 = cc in omega arith
    go false true c d f h = let z : ◌≡◌ {A = ℕ} 0 1 = cc in omega arith
    go false false false d f h = let z : ◌≡◌ {A = ℕ} 0 1 = cc in omega arith
    go false false true false f h = let z : ◌≡◌ {A = ℕ} 0 1 = cc in omega arith
    go false false true true false h = let z : ◌≡◌ {A = ℕ} 0 1 = cc in omega arith
    go false false true true true h = let z : ◌≡◌ {A = ℕ} 0 1 = cc in omega arith

module _ (any : Bool) (n : ℕ) (e : Entries) (st to : CheckState) where
  pub step_inverse : step_of any n e st ≡ moved to → Opens any n e st to ⊎ Closes e st to
  unfolding step_of
  step_inverse =
      go (leb st.next.0 n) (nameless any e st.next.0) (leb st.next.0 (e.fa st.next.0))
      (second_root st.next.0 (e.fa st.next.0)) (eqb (e.fa st.next.0) st.top.0) refl refl refl refl refl
    where
      go : (a b c d f : Bool) → leb st.next.0 n ≡ a → nameless any e st.next.0 ≡ b → leb st.next.0 (e.fa st.next.0) ≡ c
          → second_root st.next.0 (e.fa st.next.0) ≡ d → eqb (e.fa st.next.0) st.top.0 ≡ f
          → pick a (pick b (refused 3 st.next.0) (pick c (refused 4 st.next.0) (pick d (refused 4 st.next.0)
          (pick f (moved (open_of st)) (close_of e st))))) (close_of e st) ≡ moved to
          → Opens any n e st to ⊎ Closes e st to
      go false b c d f ha hb hc hd hf h = inr (close_inverse e st to h)
      go true true c d f ha hb hc hd hf h = absurd (never h)
      go true false true d f ha hb hc hd hf h = absurd (never h)
      go true false false true f ha hb hc hd hf h = absurd (never h)
      go true false false false false ha hb hc hd hf h = inr (close_inverse e st to h)
      go true false false false true ha hb hc hd hf h = inl (record {
        there = leb-true _ _ ha;
        named = hb;
        low = leb-false _ _ hc;
        one_root = hd;
        here = eqb-true _ _ hf;
        is = moved_is h;
      })

  pub step_silent : step_of any n e st ≡ answered to → ⊥
  unfolding step_of
  step_silent =
      go (leb st.next.0 n) (nameless any e st.next.0) (leb st.next.0 (e.fa st.next.0))
      (second_root st.next.0 (e.fa st.next.0)) (eqb (e.fa st.next.0) st.top.0)
    where
      go : (a b c d f : Bool) → pick a (pick b (refused 3 st.next.0) (pick c (refused 4 st.next.0) (pick d (refused 4 st.next.0)
          (pick f (moved (open_of st)) (close_of e st))))) (close_of e st) ≡ answered to → ⊥
      go false b c d f h = close_silent e st to h
      go true true c d f h = let z : ◌≡◌ {A = ℕ} 0 1 = cc in omega arith
      go true false true d f h = let z : ◌≡◌ {A = ℕ} 0 1 = cc in omega arith
      go true false false true f h = let z : ◌≡◌ {A = ℕ} 0 1 = cc in omega arith
      go true false false false false h = close_silent e st to h
      go true false false false true h = let z : ◌≡◌ {A = ℕ} 0 1 = cc in omega arith

  pub step_ranges : Ranges n st → step_of any n e st ≡ moved to → Ranges n to
  step_ranges r q = elim (step_inverse q) [
    | inl o ↦ rw o.is (record { some = omega arith; last = omega arith; top = omega arith; closed = omega arith })
    | inr c ↦ rw c.is (record { some = omega arith; last = omega arith; top = omega arith; closed = omega arith })
  ]

  pub step_grows : step_of any n e st ≡ moved to → to.next.0 + to.closed.0 ≡ st.next.0 + st.closed.0 + 1
  step_grows q = elim (step_inverse q) [ inl o ↦ rw o.is (omega arith) | inr c ↦ rw c.is (omega arith) ]

  -- no step is taken from the end
  pub step_before : step_of any n e st ≡ moved to → accepted n st ≡ false
  step_before q = elim (step_inverse q) [ inl o ↦ accepted_next n st (omega (arith, o.there)) | inr c ↦ accepted_top n st c.some_open ]
