-- Masks bit by bit: when a twig node can stand at an entry.
--   zero_bit     0 has no bit
--   stands_each, each_stands, can_bit, can_none   when a twig node can stand at an entry, and has its bit in can
use Rattle.std.specs.Prelude.{ℕ, ◌-◌, ◌^◌, ◌≤◌, ◌<◌, ◌≡◌, false, ◌||◌, eqb}
use Rattle.std.proofs.Math.Bool.{true, not}
use Rattle.std.proofs.Math.Decide.{ℕ_discrete}
use Rattle.std.proofs.Math.Nat.{zero-div}
use Rattle.std.proofs.Common.{eq-eqb, ne_eqb}
use Rattle.turns.specs.Truth.{and_left, and_right, and_both, or_right}
use Rattle.trees.specs.Signature.{Entries}
use Rattle.trees.specs.Names.{passes, Passes, passes_true, true_passes}
use Rattle.preparing.specs.Masks.{every, has_bit}
use Rattle.preparing.proofs.Bits.{every_at, every_all, mask_bit, mask_above}
use Rattle.preparing.specs.Preparing.{children_in, stands, can_of}

pub zero_bit : (q : ℕ) → has_bit 0 q ≡ false
unfolding has_bit
zero_bit q = rw (zero-div (2 ^ (q - 1)))

-- ---- "the name passes and every child of q has its bit in below"

module _ (w : Entries) (m name b q : ℕ) where
  pub stands_each : stands w m name b q ≡ true → Passes (w.name q) name × ((r : ℕ) → 1 ≤ r → r ≤ m → w.fa r ≡ q → has_bit b r ≡ true)
  unfolding stands children_in
  stands_each h =
      let named = passes (w.name q) name in
      let all = every (λ r. not (eqb (w.fa r) q) || has_bit b r) m in (
        passes_true (w.name q) name (and_left named all h),
        λ r c d f.
            let k = every_at (λ r. not (eqb (w.fa r) q) || has_bit b r) m (and_right named all h) r c d in
            rw (eq-eqb (w.fa r) q f) at k,
      )

  pub each_stands : Passes (w.name q) name → ((r : ℕ) → 1 ≤ r → r ≤ m → w.fa r ≡ q → has_bit b r ≡ true) → stands w m name b q ≡ true
  unfolding stands children_in
  each_stands p h =
      and_both (passes (w.name q) name) (every (λ r. not (eqb (w.fa r) q) || has_bit b r) m) (true_passes (w.name q) name p)
      (every_all (λ r. not (eqb (w.fa r) q) || has_bit b r) m (λ r c d. one r c d (ℕ_discrete (w.fa r) q)))
    where
      one : (r : ℕ) → 1 ≤ r → r ≤ m → Dec (w.fa r ≡ q) → (not (eqb (w.fa r) q) || has_bit b r) ≡ true
      one r c d (yes z) = or_right (not (eqb (w.fa r) q)) (has_bit b r) (h r c d z)
      one r c d (no z) = rw (ne_eqb (w.fa r) q z)

  -- the bit of q in can
  pub can_bit : 1 ≤ q → q ≤ m → has_bit (can_of w m name b) q ≡ stands w m name b q
  unfolding can_of
  can_bit a c = mask_bit (stands w m name b) m q a c

  -- and none above m
  pub can_none : m < q → has_bit (can_of w m name b) q ≡ false
  unfolding can_of
  can_none h = mask_above (stands w m name b) m q h
