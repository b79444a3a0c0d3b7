-- A step of preparing keeps the table right, for one entry more.
--   can_now_sound, can_now_complete   can of the entry on hand is right
--   below_now_sound, below_now_complete   and so is below of every entry, its fa's joined
--   step_right     the table after the step
use Rattle.std.specs.Prelude.{ℕ, ◌-◌, ◌*◌, ◌≤◌, ◌<◌, ◌≡◌, ◌⊎◌, Bool, true, false, ◌||◌, List, length}
use Rattle.std.proofs.Common.{sym, ap, ◌∙◌, inl, inr, arith}
use Rattle.std.proofs.Math.Decide.{dec_le, ℕ_discrete}
use Rattle.std.specs.Int.Bits.{bit_or}
use Rattle.turns.specs.Truth.{or_cases, or_left, or_right}
use Rattle.trees.specs.Signature.{Entries}
use Rattle.trees.specs.Facts.{Facts}
use Rattle.preparing.specs.Masks.{has_bit, can, below}
use Rattle.preparing.specs.Preparing.{step_table}
use Rattle.listed.specs.Matching.{Match, match}
use Rattle.preparing.proofs.Bits.{or_bit}
use Rattle.listed.specs.Bits.{stands_each, each_stands, can_bit, can_none}
use Rattle.listed.specs.Tables.{Parented, new_can, can_new, can_same, below_new, below_same}
use Rattle.listed.specs.Rightly.{Child, in_child, child_under, Joined, Right}

module _ (n m : ℕ) (e w : Entries) (tree : Facts n e) (table : List ℕ) (t : ℕ) (low : 1 ≤ t) (high : t ≤ n)
    (ok : Right n m e w table t) where
  -- ---- can of t

  can_now_sound : (q : ℕ) → 1 ≤ q → q ≤ m → has_bit (new_can e w m table t) q ≡ true → Match n m e w q t
  can_now_sound q a b h =
      let s = stands_each w m (e.name t) (below table t) q (sym (can_bit w m (e.name t) (below table t) q a b) ∙ h) in
      let u : (r : ℕ) → 1 ≤ r → r ≤ m → w.fa r ≡ q → Joined n m e w t t r
      = λ r c d f. ok.below_sound t r low high c d (s.1 r c d f) in
      match low high s.0
      (λ r c d f. (u r c d f).at)
      (λ r c d f. child_under n e tree t (u r c d f).at low (u r c d f).inside)
      (λ r c d f. (u r c d f).found)

  can_now_complete : (q : ℕ) → 1 ≤ q → q ≤ m → Match n m e w q t → has_bit (new_can e w m table t) q ≡ true
  can_now_complete q a b (match l h p at u sub) =
      can_bit w m (e.name t) (below table t) q a b
      ∙ each_stands w m (e.name t) (below table t) q p
      (λ r c d f.
      let v = u r c d f in
      let i = in_child n e tree t (at r c d f) low v.after (omega (arith, v.before, (tree.each t low high).ff_high)) v.before in
      ok.below_complete t r low high c d (record { at = at r c d f; inside = i; done = i.after; found = sub r c d f }))

  module _ (room : 2 * t ≤ length table) (parented : Parented e t) where
    abbrev after : List ℕ
    after = step_table e w m table t

    -- ---- below

    keep : (s q : ℕ) → Joined n m e w t s q → Joined n m e w (t - 1) s q
    keep s q u = record { at = u.at; inside = u.inside; done = omega (arith, u.done); found = u.found }

    -- what lies in the block of t lies in the block of a child of its fa
    abbrev block : (s j : ℕ) → 1 < t → s ≡ e.fa t → t ≤ j → j < e.ff t → Child n e s j
    block s j l z a b =
        record { child = t; parent = sym z; after = omega (arith, parented.high l); last = high; low = a; high = b }

    from_can : (s q : ℕ) → 1 < t → s ≡ e.fa t → Match n m e w q t → Joined n m e w (t - 1) s q
    from_can s q l z h =
        record { at = t; inside = block s t l z (omega arith) (tree.each t low high).ff_low; done = omega arith; found = h }

    from_below : (s q : ℕ) → 1 < t → s ≡ e.fa t → Joined n m e w t t q → Joined n m e w (t - 1) s q
    from_below s q l z u =
        let v = child_under n e tree t u.at low u.inside in
        record { at = u.at; inside = block s u.at l z (omega (arith, v.after)) v.before; done = omega arith; found = u.found }

    module _ (s q : ℕ) (a : 1 ≤ s) (b : s ≤ n) (c : 1 ≤ q) (d : q ≤ m) where
      abbrev x : Bool
      x = has_bit (below table s) q

      abbrev y : Bool
      y = has_bit (new_can e w m table t) q

      abbrev z : Bool
      z = has_bit (below table t) q

      -- below of the fa of t has the bit where one of the three joined has it
      joined_bit : 1 < t → s ≡ e.fa t → has_bit (below after s) q ≡ ((x || y) || z)
      joined_bit l f =
          let g : below after s ≡ bit_or (bit_or (below table s) (new_can e w m table t)) (below table t) = rw f
          (below_new e w m table t low room parented l) in
          ap (λ (v : ℕ). has_bit v q) g
          ∙ or_bit (bit_or (below table s) (new_can e w m table t)) (below table t) q
          ∙ ap (λ (v : Bool). v || z) (or_bit (below table s) (new_can e w m table t) q)

      below_now_sound : has_bit (below after s) q ≡ true → Joined n m e w (t - 1) s q
      below_now_sound h = by (dec_le t 1) (ℕ_discrete s (e.fa t))
        where
          old : below after s ≡ below table s → Joined n m e w (t - 1) s q
          old g = keep s q (ok.below_sound s q a b c d (rw g at h))

          two : 1 < t → s ≡ e.fa t → (x ≡ true) ⊎ (y ≡ true) → Joined n m e w (t - 1) s q
          two l f (inl k) = keep s q (ok.below_sound s q a b c d k)
          two l f (inr k) = from_can s q l f (can_now_sound q c d k)

          three : 1 < t → s ≡ e.fa t → ((x || y) ≡ true) ⊎ (z ≡ true) → Joined n m e w (t - 1) s q
          three l f (inl k) = two l f (or_cases x y k)
          three l f (inr k) = from_below s q l f (ok.below_sound t q low high c d k)

          by : Dec (t ≤ 1) → Dec (s ≡ e.fa t) → Joined n m e w (t - 1) s q
          by (yes l) f = old (below_same e w m table t low room parented s a (λ g k. omega arith))
          by (no l) (no f) = old (below_same e w m table t low room parented s a (λ g k. f k))
          by (no l) (yes f) =
              let k : 1 < t = omega arith in
              three k f (or_cases (x || y) z (sym (joined_bit k f) ∙ h))

      below_now_complete : Joined n m e w (t - 1) s q → has_bit (below after s) q ≡ true
      below_now_complete u = by (ℕ_discrete u.inside.child t) (dec_le t 1) (ℕ_discrete s (e.fa t))
        where
          old : (u.inside.child ≡ t → ⊥) → x ≡ true
          old k = ok.below_complete s q a b c d (record
              { at = u.at; inside = u.inside; done = omega (arith, u.done); found = u.found })

          -- the match is at t itself, or below it
          here : 1 < t → s ≡ e.fa t → u.inside.child ≡ t → Dec (u.at ≡ t) → has_bit (below after s) q ≡ true
          here l f k (yes i) =
              joined_bit l f ∙ or_left (x || y) z (or_right x y (can_now_complete q c d (rw i at u.found)))
          here l f k (no i) =
              let g = rw k at u.inside.high in
              let o = rw k at u.inside.low in
              let v = in_child n e tree t u.at low (omega arith) (omega (arith, (tree.each t low high).ff_high)) g in
              joined_bit l f
              ∙ or_right (x || y) z (ok.below_complete t q low high c d
              (record { at = u.at; inside = v; done = v.after; found = u.found }))

          by : Dec (u.inside.child ≡ t) → Dec (t ≤ 1) → Dec (s ≡ e.fa t) → has_bit (below after s) q ≡ true
          by (yes k) (yes l) f = absurd (omega (arith, u.inside.after))
          by (yes k) (no l) (no f) = absurd (f (sym u.inside.parent ∙ ap e.fa k))
          by (yes k) (no l) (yes f) = here (omega arith) f k (ℕ_discrete u.at t)
          by (no k) (yes l) f = rw (below_same e w m table t low room parented s a (λ g i. omega arith)) (old k)
          by (no k) (no l) (no f) = rw (below_same e w m table t low room parented s a (λ g i. f i)) (old k)
          by (no k) (no l) (yes f) = joined_bit (omega arith) f ∙ or_left (x || y) z (or_left x y (old k))

    -- ---- the table after the step

    pub step_right : Right n m e w after (t - 1)
    step_right = record {
      can_sound = λ s q l b c d h. sound s q l b c d (ℕ_discrete s t) h;
      can_complete = λ s q l b c d h. complete s q l b c d (ℕ_discrete s t) h;
      can_above = λ s q l b c. above s q l b c (ℕ_discrete s t);
      below_sound = below_now_sound;
      below_complete = below_now_complete;
    }
      where
        sound : (s q : ℕ) → t - 1 < s → s ≤ n → 1 ≤ q → q ≤ m → Dec (s ≡ t) → has_bit (can after s) q ≡ true → Match n m e w q s
        sound s q l b c d (yes f) h = rw f (can_now_sound q c d (rw (f, can_new e w m table t low room parented) at h))
        sound s q l b c d (no f) h = ok.can_sound s q (omega arith) b c d
            (rw (can_same e w m table t low room parented s (omega arith) f) at h)

        above : (s q : ℕ) → t - 1 < s → s ≤ n → m < q → Dec (s ≡ t) → has_bit (can after s) q ≡ false
        above s q l b c (yes f) = rw (f, can_new e w m table t low room parented) (can_none w m (e.name t) (below table t) q c)
        above s q l b c (no f) = rw (can_same e w m table t low room parented s (omega arith) f) (ok.can_above s q (omega arith) b c)

        complete : (s q : ℕ) → t - 1 < s → s ≤ n → 1 ≤ q → q ≤ m → Dec (s ≡ t) → Match n m e w q s → has_bit (can after s) q ≡ true
        complete s q l b c d (yes f) h = rw (f, can_new e w m table t low room parented) (can_now_complete q c d (rw f at h))
        complete s q l b c d (no f) h =
            rw (can_same e w m table t low room parented s (omega arith) f) (ok.can_complete s q (omega arith) b c d h)
