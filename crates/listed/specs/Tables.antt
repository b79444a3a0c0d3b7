-- What a step of preparing writes: can of its entry anew, the joined bits into below of its fa, and nothing else.
--   new_can              can of entry t, anew
--   Parented e t        fa of t lies from 1 to t−1, for t over 1
--   can_new, can_same, below_new, below_same   the table after the step
--   step_length         it is as long as before
--   clear_length, clear_get   the table that the start call leaves
use Rattle.std.specs.Prelude.{ℕ, zero, suc, ◌+◌, ◌-◌, ◌*◌, ◌≤◌, ◌<◌, ◌≡◌, refl, List, [], ◌∷◌, length, get_or}
use Rattle.std.proofs.Common.{ap, ◌∙◌, arith, length-set, get_or-set_same, get_or-set_other, le-leb}
use Rattle.std.proofs.Math.Decide.{dec_le}
use Rattle.std.specs.Int.Bits.{bit_or}
use Rattle.std.proofs.lemmas.Bool.{lt-leb}
use Rattle.trees.specs.Signature.{Entries, cell}
use Rattle.preparing.specs.Masks.{can, below, put}
use Rattle.preparing.specs.Preparing.{can_of, written, joined, step_table}
use Rattle.preparing.specs.PrepTurn.{cleared}

-- ---- one number of a table

put_same : (table : List ℕ) (i k x : ℕ) → 2 * (i - 1) + k < length table → cell 2 (put 2 table i k x) i k ≡ x
unfolding cell put
put_same table i k x h = get_or-set_same table (2 * (i - 1) + k) x 0 h

put_other : (table : List ℕ) (i k x j h : ℕ) → (2 * (j - 1) + h ≡ 2 * (i - 1) + k → ⊥) → cell 2 (put 2 table i k x) j h ≡ cell 2 table j h
unfolding cell put
put_other table i k x j h n = get_or-set_other table (2 * (i - 1) + k) (2 * (j - 1) + h) x 0 n

put_length : (table : List ℕ) (i k x : ℕ) → length (put 2 table i k x) ≡ length table
unfolding put
put_length table i k x = length-set table (2 * (i - 1) + k) x

-- ---- a step

-- fa of t lies from 1 to t−1, where there is one to read
pub record Parented (e : Entries) (t : ℕ) : Type 0 where
  pub low : 1 < t → 1 ≤ e.fa t
  pub high : 1 < t → e.fa t < t

module _ (e w : Entries) (m : ℕ) (table : List ℕ) (t : ℕ) where
  -- "A step writes can of t anew"
  abbrev pub new_can : ℕ
  new_can = can_of w m (e.name t) (below table t)

  abbrev after : List ℕ
  after = step_table e w m table t

  module _ (first : t ≤ 1) where
    step_first : after ≡ put 2 table t 0 new_can
    unfolding step_table written
    step_first = rw (le-leb t 1 first)

  module _ (inner : 1 < t) where
    step_inner : after ≡ put 2 (put 2 table t 0 new_can) (e.fa t) 1 (bit_or (bit_or (below table (e.fa t)) new_can) (below table t))
    unfolding step_table written joined
    step_inner = rw (lt-leb t 1 inner)

  pub step_length : length after ≡ length table
  step_length = by (dec_le t 1)
    where
      by : Dec (t ≤ 1) → length after ≡ length table
      by (yes l) = ap length (step_first l) ∙ put_length table t 0 new_can
      by (no l) =
          ap length (step_inner (omega arith))
          ∙ put_length (put 2 table t 0 new_can) (e.fa t) 1 (bit_or (bit_or (below table (e.fa t)) new_can) (below table t))
          ∙ put_length table t 0 new_can

  module _ (low : 1 ≤ t) (room : 2 * t ≤ length table) (parented : Parented e t) where
    pub can_new : can after t ≡ new_can
    can_new = by (dec_le t 1)
      where
        same : can (put 2 table t 0 new_can) t ≡ new_can
        same = put_same table t 0 new_can (omega arith)

        by : Dec (t ≤ 1) → can after t ≡ new_can
        by (yes l) = ap (λ (x : List ℕ). can x t) (step_first l) ∙ same
        by (no l) =
            ap (λ (x : List ℕ). can x t) (step_inner (omega arith))
            ∙ put_other (put 2 table t 0 new_can) (e.fa t) 1 (bit_or (bit_or (below table (e.fa t)) new_can) (below table t)) t 0
            (λ z. omega arith)
            ∙ same

    pub can_same : (s : ℕ) → 1 ≤ s → (s ≡ t → ⊥) → can after s ≡ can table s
    can_same s a n = by (dec_le t 1)
      where
        same : can (put 2 table t 0 new_can) s ≡ can table s
        same = put_other table t 0 new_can s 0 (λ z. n (omega arith))

        by : Dec (t ≤ 1) → can after s ≡ can table s
        by (yes l) = ap (λ (x : List ℕ). can x s) (step_first l) ∙ same
        by (no l) =
            ap (λ (x : List ℕ). can x s) (step_inner (omega arith))
            ∙ put_other (put 2 table t 0 new_can) (e.fa t) 1 (bit_or (bit_or (below table (e.fa t)) new_can) (below table t)) s 0
            (λ z. omega arith)
            ∙ same

    pub below_same : (s : ℕ) → 1 ≤ s → (1 < t → s ≡ e.fa t → ⊥) → below after s ≡ below table s
    below_same s a n = by (dec_le t 1)
      where
        same : below (put 2 table t 0 new_can) s ≡ below table s
        same = put_other table t 0 new_can s 1 (λ z. omega arith)

        by : Dec (t ≤ 1) → below after s ≡ below table s
        by (yes l) = ap (λ (x : List ℕ). below x s) (step_first l) ∙ same
        by (no l) =
            ap (λ (x : List ℕ). below x s) (step_inner (omega arith))
            ∙ put_other (put 2 table t 0 new_can) (e.fa t) 1 (bit_or (bit_or (below table (e.fa t)) new_can) (below table t)) s 1
            (λ z. n (omega arith) (omega (arith, parented.low (omega arith))))
            ∙ same

    pub below_new : 1 < t → below after (e.fa t) ≡ bit_or (bit_or (below table (e.fa t)) new_can) (below table t)
    below_new l =
        ap (λ (x : List ℕ). below x (e.fa t)) (step_inner l)
        ∙ put_same (put 2 table t 0 new_can) (e.fa t) 1 (bit_or (bit_or (below table (e.fa t)) new_can) (below table t))
        (omega (arith, put_length table t 0 new_can, parented.high l, parented.low l))

-- ---- the table that the start call leaves

pub clear_length : (k : ℕ) (l : List ℕ) → length (cleared k l) ≡ length l
unfolding cleared
clear_length zero l = refl
clear_length (suc k) [] = refl
clear_length (suc k) (x ∷ l) = ap suc (clear_length k l)

pub clear_get : (k : ℕ) (l : List ℕ) (i : ℕ) → i < k → get_or (cleared k l) i 0 ≡ 0
unfolding cleared
clear_get zero l i h = absurd (omega arith)
clear_get (suc k) [] i h = refl
clear_get (suc k) (x ∷ l) zero h = refl
clear_get (suc k) (x ∷ l) (suc i) h = clear_get k l i (omega arith)
