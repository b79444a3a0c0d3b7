-- The union over contexts as one pass meets it: contexts as a test of ranks, and the extreme numbers that a pass carries along.
--   any_to n Q           one of the ranks 1 to n passes Q
--   spread_of axis n parent P j   j is on the axis of one of the ranks that pass P
--   Seen P lo hi c      c is one of the ranks lo to hi - 1 that pass P
--   Greatest, Least     x is the greatest (least) number v c of the c in S; 0 (65,535) where S is empty
--   spread_…            each axis by the number that is carried
use Rattle.std.specs.Prelude.{ℕ, zero, suc, ◌+◌, ◌≤◌, ◌<◌, ◌≡◌, ◌⊎◌, List, [], ◌∷◌, Bool, not, ◌&&◌, ◌||◌, length, get_or, ltb, eqb}
use Rattle.std.proofs.Math.Path.{refl, ap, sym}
use Rattle.std.proofs.Common.{◌∙◌, inl, inr, arith, eq-or-lt_of_le}
use Rattle.std.proofs.Math.Logic.{⊎_elim}
use Rattle.std.proofs.Math.Bool.{true, false, or-true, and-false, false≢true}
use Rattle.std.proofs.Math.Decide.{ℕ_discrete}
use borrow.Author.Tests.{lt-ltb, le-ltb, eq-eqb, ne_eqb, ltb-true, ltb-false, eqb-true}
use Rattle.turns.specs.Pick.{pick}
use Rattle.trees.specs.Order.{lt_or_ge}
use Rattle.trees.specs.Signature.{Entries}
use Rattle.trees.specs.Facts.{Facts}
use Rattle.xpath.specs.Select.{some}
use Rattle.xpath.specs.Axes.{parent_of, on_axis}
use Rattle.xpath.specs.Ancestors.{inside_yes, inside_no, whole_yes, whole_no}

-- one of the ranks 1 to n passes
unfoldable pub any_to : ℕ → (ℕ → Bool) → Bool
any_to zero Q = false
any_to (suc n) Q = Q (suc n) || any_to n Q

pub any_yes : (n : ℕ) (Q : ℕ → Bool) (c : ℕ) → 1 ≤ c → c ≤ n → Q c ≡ true → any_to n Q ≡ true
unfolding any_to
any_yes zero Q c l h q = absurd (omega arith)
any_yes (suc n) Q c l h q =
    ⊎_elim (λ (e : c ≡ suc n). simp (ap Q (sym e) ∙ q))
    (λ (m : c < suc n). ap (λ (b : Bool). Q (suc n) || b) (any_yes n Q c l (omega arith) q) ∙ or-true (Q (suc n)))
    (eq-or-lt_of_le h)

pub any_no : (n : ℕ) (Q : ℕ → Bool) → ((c : ℕ) → 1 ≤ c → c ≤ n → Q c ≡ false) → any_to n Q ≡ false
unfolding any_to
any_no zero Q h = refl
any_no (suc n) Q h = simp (h (suc n) (omega arith) (omega arith)) (any_no n Q (λ c l m. h c l (omega arith)))

-- j is on the axis of one of the ranks that pass P
unfoldable pub spread_of : ℕ → ℕ → (ℕ → ℕ) → (ℕ → Bool) → ℕ → Bool
spread_of axis n parent P j = any_to n (λ c. P c && on_axis axis n parent c j)

-- ---- contexts as a test

-- one of the contexts is j
abbrev pub is_context : List ℕ → ℕ → Bool
is_context contexts j = some (λ c. eqb c j) contexts

some_hit : (P : ℕ → Bool) (l : List ℕ) (c : ℕ) → is_context l c ≡ true → P c ≡ true → some P l ≡ true
unfolding some
some_hit P [] c h p = absurd (false≢true h)
some_hit P (d ∷ l) c h p = go (eqb d c) refl h (λ q. some_hit P l c q p)
  where
    go : (b : Bool) → eqb d c ≡ b → (b || is_context l c) ≡ true → (is_context l c ≡ true → some P l ≡ true) → (P d || some P l) ≡ true
    go true e q ih = simp (ap P (eqb-true d c e) ∙ p)
    go false e q ih = ap (λ (b : Bool). P d || b) (ih q) ∙ or-true (P d)

pub context_own : (l : List ℕ) (k : ℕ) → k < length l → is_context l (get_or l k 0) ≡ true
unfolding some
context_own [] k h = absurd (omega arith)
context_own (d ∷ l) zero h = simp (eq-eqb d d refl)
context_own (d ∷ l) (suc k) h =
    ap (λ (b : Bool). eqb d (get_or l k 0) || b) (context_own l k (omega arith)) ∙ or-true (eqb d (get_or l k 0))

-- one of the list that passes both tests, each of the list being a rank that passes C
some_any : (n : ℕ) (C Q : ℕ → Bool) (m : List ℕ) → ((k : ℕ) → k < length m → (1 ≤ get_or m k 0) × (get_or m k 0 ≤ n) × (C (get_or m k 0) ≡ true))
    → some Q m ≡ true → any_to n (λ c. C c && Q c) ≡ true
unfolding some
some_any n C Q [] g h = absurd (false≢true h)
some_any n C Q (d ∷ m) g h = go (Q d) refl h (λ q. some_any n C Q m (λ k r. g (suc k) (omega arith)) q)
  where
    go : (b : Bool) → Q d ≡ b → (b || some Q m) ≡ true → (some Q m ≡ true → any_to n (λ c. C c && Q c) ≡ true) → any_to n (λ c. C c && Q c) ≡ true
    go true e q ih = let z = g 0 (omega arith) in any_yes n (λ c. C c && Q c) d z.0 z.1 (simp (z.2, e))
    go false e q ih = ih q

-- the union over a list of contexts is the union over the ranks that are contexts
pub spread_some : (n : ℕ) (Q : ℕ → Bool) (l : List ℕ) → ((k : ℕ) → k < length l → (1 ≤ get_or l k 0) × (get_or l k 0 ≤ n))
    → some Q l ≡ any_to n (λ c. is_context l c && Q c)
spread_some n Q l w = go (some Q l) refl
  where
    none : some Q l ≡ false → (c : ℕ) → is_context l c ≡ true → Q c ≡ false
    none h c m = out (Q c) refl
      where
        out : (b : Bool) → Q c ≡ b → Q c ≡ false
        out true e = absurd (false≢true (sym h ∙ some_hit Q l c m e))
        out false e = e

    go : (b : Bool) → some Q l ≡ b → some Q l ≡ any_to n (λ c. is_context l c && Q c)
    go true h = h ∙ sym (some_any n (is_context l) Q l (λ k r. ((w k r).0, (w k r).1, context_own l k r)) h)
    go false h = h ∙ sym (any_no n (λ c. is_context l c && Q c) (λ c a b. miss c (is_context l c) refl))
      where
        miss : (c : ℕ) (b : Bool) → is_context l c ≡ b → (is_context l c && Q c) ≡ false
        miss c true e = simp (none h c e, and-false)
        miss c false e = simp e

-- ---- the numbers that a pass carries along

-- the ranks from lo on, before hi, that pass
pub record Seen (P : ℕ → Bool) (lo hi c : ℕ) : Type 0 where
  pub low : lo ≤ c
  pub high : c < hi
  pub passes : P c ≡ true

-- x is the greatest of the numbers v c for the c in S, or 0 where S is empty
pub record Greatest (S : ℕ → Type 0) (v : ℕ → ℕ) (x : ℕ) : Type 0 where
  pub bound : (c : ℕ) → S c → v c ≤ x
  pub met : (x ≡ 0) ⊎ ((c : ℕ) × S c × (v c ≡ x))

-- x is the least of the numbers v c for the c in S, or 65,535 where S is empty
pub record Least (S : ℕ → Type 0) (v : ℕ → ℕ) (x : ℕ) : Type 0 where
  pub bound : (c : ℕ) → S c → x ≤ v c
  pub met : (x ≡ 65535) ⊎ ((c : ℕ) × S c × (v c ≡ x))

-- one more rank k may be seen
pub record More (S T : ℕ → Type 0) (P : ℕ → Bool) (k : ℕ) : Type 0 where
  pub kept : (c : ℕ) → S c → T c
  pub own : P k ≡ true → T k
  pub split : (c : ℕ) → T c → S c ⊎ ((c ≡ k) × (P k ≡ true))

pub more_up : (P : ℕ → Bool) (k : ℕ) → 1 ≤ k → More (Seen P 1 k) (Seen P 1 (k + 1)) P k
more_up P k l = record {
  kept = λ c s. record { low = s.low; high = omega (arith, s.high); passes = s.passes };
  own = λ q. record { low = l; high = omega arith; passes = q };
  split = λ c s. ⊎_elim (λ (e : c ≡ k). inr (e, ap P (sym e) ∙ s.passes)) (λ (m : c < k). inl (record { low = s.low; high = m; passes = s.passes }))
      (eq-or-lt_of_le (le_of c k s.high));
}
  where
    le_of : (c k : ℕ) → c < k + 1 → c ≤ k
    le_of c k h = omega arith

pub more_down : (P : ℕ → Bool) (k n : ℕ) → k ≤ n → More (Seen P (k + 1) (n + 1)) (Seen P k (n + 1)) P k
more_down P k n l = record {
  kept = λ c s. record { low = omega (arith, s.low); high = s.high; passes = s.passes };
  own = λ q. record { low = omega arith; high = omega arith; passes = q };
  split = λ c s. ⊎_elim (λ (e : k ≡ c). inr (sym e, ap P e ∙ s.passes)) (λ (m : k < c). inl (record { low = omega arith; high = s.high; passes = s.passes }))
      (eq-or-lt_of_le s.low);
}

-- the greater where the rank passes
unfoldable pub raised_to : Bool → ℕ → ℕ → ℕ
raised_to b x y = pick b (pick (ltb x y) y x) x

-- the lesser where the rank passes
unfoldable pub lowered_to : Bool → ℕ → ℕ → ℕ
lowered_to b x y = pick b (pick (ltb y x) y x) x

module _ {S T : ℕ → Type 0} {P : ℕ → Bool} {k : ℕ} (m : More S T P k) (v : ℕ → ℕ) (x : ℕ) where
  pub raised_greatest : Greatest S v x → Greatest T v (raised_to (P k) x (v k))
  unfolding raised_to
  raised_greatest g = go (P k) (ltb x (v k)) refl refl
    where
      left : (P k ≡ false) → (c : ℕ) → T c → S c
      left q c t = ⊎_elim (λ (s : S c). s) (λ (w : (c ≡ k) × (P k ≡ true)). absurd (false≢true (sym q ∙ w.1))) (m.split c t)

      old : (x ≡ 0) ⊎ ((c : ℕ) × S c × (v c ≡ x)) → (x ≡ 0) ⊎ ((c : ℕ) × T c × (v c ≡ x))
      old (inl z) = inl z
      old (inr w) = inr (w.0, m.kept w.0 w.1, w.2)

      go : (a b : Bool) → P k ≡ a → ltb x (v k) ≡ b → Greatest T v (pick a (pick b (v k) x) x)
      go false b p q = record { bound = λ c t. g.bound c (left p c t); met = old g.met }
      go true true p q = record {
        bound = λ c t. ⊎_elim (λ (s : S c). omega (arith, g.bound c s, ltb-true x (v k) q)) (λ (w : (c ≡ k) × (P k ≡ true)). omega (arith, ap v w.0)) (m.split c t);
        met = inr (k, m.own p, refl);
      }
      go true false p q = record {
        bound = λ c t. ⊎_elim (λ (s : S c). g.bound c s) (λ (w : (c ≡ k) × (P k ≡ true)). omega (arith, ap v w.0, ltb-false x (v k) q)) (m.split c t);
        met = old g.met;
      }

  pub lowered_least : Least S v x → Least T v (lowered_to (P k) x (v k))
  unfolding lowered_to
  lowered_least g = go (P k) (ltb (v k) x) refl refl
    where
      left : (P k ≡ false) → (c : ℕ) → T c → S c
      left q c t = ⊎_elim (λ (s : S c). s) (λ (w : (c ≡ k) × (P k ≡ true)). absurd (false≢true (sym q ∙ w.1))) (m.split c t)

      old : (x ≡ 65535) ⊎ ((c : ℕ) × S c × (v c ≡ x)) → (x ≡ 65535) ⊎ ((c : ℕ) × T c × (v c ≡ x))
      old (inl z) = inl z
      old (inr w) = inr (w.0, m.kept w.0 w.1, w.2)

      go : (a b : Bool) → P k ≡ a → ltb (v k) x ≡ b → Least T v (pick a (pick b (v k) x) x)
      go false b p q = record { bound = λ c t. g.bound c (left p c t); met = old g.met }
      go true true p q = record {
        bound = λ c t. ⊎_elim (λ (s : S c). omega (arith, g.bound c s, ltb-true (v k) x q)) (λ (w : (c ≡ k) × (P k ≡ true)). omega (arith, ap v w.0)) (m.split c t);
        met = inr (k, m.own p, refl);
      }
      go true false p q = record {
        bound = λ c t. ⊎_elim (λ (s : S c). g.bound c s) (λ (w : (c ≡ k) × (P k ≡ true)). omega (arith, ap v w.0, ltb-false (v k) x q)) (m.split c t);
        met = old g.met;
      }

-- nothing is seen yet
pub none_up : (P : ℕ → Bool) (v : ℕ → ℕ) → Greatest (Seen P 1 1) v 0
none_up P v = record { bound = λ c s. absurd (omega (arith, s.low, s.high)); met = inl refl }

pub none_up_least : (P : ℕ → Bool) (v : ℕ → ℕ) → Least (Seen P 1 1) v 65535
none_up_least P v = record { bound = λ c s. absurd (omega (arith, s.low, s.high)); met = inl refl }

pub none_down : (P : ℕ → Bool) (n : ℕ) (v : ℕ → ℕ) → Greatest (Seen P (n + 1) (n + 1)) v 0
none_down P n v = record { bound = λ c s. absurd (omega (arith, s.low, s.high)); met = inl refl }

pub none_down_least : (P : ℕ → Bool) (n : ℕ) (v : ℕ → ℕ) → Least (Seen P (n + 1) (n + 1)) v 65535
none_down_least P n v = record { bound = λ c s. absurd (omega (arith, s.low, s.high)); met = inl refl }

-- ---- each axis by the number that is carried

module _ (n : ℕ) (e : Entries) (f : Facts n e) (small : n ≤ 4096) (P : ℕ → Bool) (j : ℕ) (l : 1 ≤ j) (h : j ≤ n) where
  -- j is on the axis of c, where c passes
  pub hit : (axis c : ℕ) → 1 ≤ c → c ≤ n → P c ≡ true → on_axis axis n e.fa c j ≡ true → spread_of axis n e.fa P j ≡ true
  unfolding spread_of
  hit axis c a b p q = any_yes n (λ x. P x && on_axis axis n e.fa x j) c a b (simp (p, q))

  -- j is on the axis of no c that passes
  pub none : (axis : ℕ) → ((c : ℕ) → 1 ≤ c → c ≤ n → P c ≡ true → on_axis axis n e.fa c j ≡ false) → spread_of axis n e.fa P j ≡ false
  unfolding spread_of
  none axis g = any_no n (λ x. P x && on_axis axis n e.fa x j) (λ c a b. go c a b (P c) refl)
    where
      go : (c : ℕ) → 1 ≤ c → c ≤ n → (b : Bool) → P c ≡ b → (P c && on_axis axis n e.fa c j) ≡ false
      go c a b true q = simp (q, g c a b q)
      go c a b false q = simp q

  pub spread_descendant : (reach : ℕ) → Greatest (Seen P 1 j) e.ff reach → ltb j reach ≡ spread_of 2 n e.fa P j
  unfolding on_axis
  spread_descendant reach g =
      ⊎_elim (λ (w : j < reach). lt-ltb j reach w ∙ sym (⊎_elim (λ (z : reach ≡ 0). absurd (omega arith))
      (λ (s : (c : ℕ) × Seen P 1 j c × (e.ff c ≡ reach)). hit 2 s.0 s.1.low (omega (arith, s.1.high)) s.1.passes
      (inside_yes n e f n s.0 j s.1.low s.1.high h h (omega (arith, s.2)))) g.met))
      (λ (w : reach ≤ j). le-ltb j reach w ∙ sym (none 2 (λ c a b p. inside_no n e f n c j a l h
      (λ m. omega (arith, g.bound c (record { low = a; high = m; passes = p }))))))
      (lt_or_ge j reach)

  pub spread_following : (least : ℕ) → Least (Seen P 1 j) e.ff least → ltb least (j + 1) ≡ spread_of 7 n e.fa P j
  unfolding on_axis
  spread_following least g =
      ⊎_elim (λ (w : least < j + 1). lt-ltb least (j + 1) w ∙ sym (⊎_elim (λ (z : least ≡ 65535). absurd (omega arith))
      (λ (s : (c : ℕ) × Seen P 1 j c × (e.ff c ≡ least)). hit 7 s.0 s.1.low (omega (arith, s.1.high)) s.1.passes
      (whole_yes n e f s.0 j s.1.low (omega (arith, s.1.high)) h (omega (arith, s.2)))) g.met))
      (λ (w : j + 1 ≤ least). le-ltb least (j + 1) w ∙ sym (none 7 (λ c a b p. whole_no n e f c j a b h (past w c a b p))))
      (lt_or_ge least (j + 1))
    where
      past : j + 1 ≤ least → (c : ℕ) → 1 ≤ c → c ≤ n → P c ≡ true → j < e.ff c
      past w c a b p =
          ⊎_elim (λ (m : c < j). omega (arith, g.bound c (record { low = a; high = m; passes = p }))) (λ (m : j ≤ c). omega (arith, (f.each c a b).ff_low)) (lt_or_ge c j)

  pub spread_ancestor : (next : ℕ) → Least (Seen P (j + 1) (n + 1)) (λ c. c) next → ltb next (e.ff j) ≡ spread_of 5 n e.fa P j
  unfolding on_axis
  spread_ancestor next g =
      let top = (f.each j l h).ff_high in
      ⊎_elim (λ (w : next < e.ff j). lt-ltb next (e.ff j) w ∙ sym (⊎_elim (λ (z : next ≡ 65535). absurd (omega (arith, top)))
      (λ (s : (c : ℕ) × Seen P (j + 1) (n + 1) c × (c ≡ next)). hit 5 s.0 (omega (arith, s.1.low)) (omega (arith, s.1.high)) s.1.passes
      (inside_yes n e f n j s.0 l (omega (arith, s.1.low)) (omega (arith, s.1.high)) (omega (arith, s.1.high)) (omega (arith, s.2)))) g.met))
      (λ (w : e.ff j ≤ next). le-ltb next (e.ff j) w ∙ sym (none 5 (λ c a b p. inside_no n e f n j c l a b
      (λ m. omega (arith, g.bound c (record { low = omega arith; high = omega arith; passes = p }))))))
      (lt_or_ge next (e.ff j))

  pub spread_preceding : (last : ℕ) → Greatest (Seen P (j + 1) (n + 1)) (λ c. c) last → ltb (e.ff j) (last + 1) ≡ spread_of 8 n e.fa P j
  unfolding on_axis
  spread_preceding last g =
      let low = (f.each j l h).ff_low in
      ⊎_elim (λ (w : e.ff j < last + 1). lt-ltb (e.ff j) (last + 1) w ∙ sym (⊎_elim (λ (z : last ≡ 0). absurd (omega (arith, low)))
      (λ (s : (c : ℕ) × Seen P (j + 1) (n + 1) c × (c ≡ last)). hit 8 s.0 (omega (arith, s.1.low)) (omega (arith, s.1.high)) s.1.passes
      (whole_yes n e f j s.0 l h (omega (arith, s.1.high)) (omega (arith, s.2)))) g.met))
      (λ (w : last + 1 ≤ e.ff j). le-ltb (e.ff j) (last + 1) w ∙ sym (none 8 (λ c a b p. whole_no n e f j c l h b (past w c a b p))))
      (lt_or_ge (e.ff j) (last + 1))
    where
      past : last + 1 ≤ e.ff j → (c : ℕ) → 1 ≤ c → c ≤ n → P c ≡ true → c < e.ff j
      past w c a b p =
          ⊎_elim (λ (m : j < c). omega (arith, g.bound c (record { low = omega arith; high = omega arith; passes = p })))
          (λ (m : c ≤ j). omega (arith, (f.each j l h).ff_low)) (lt_or_ge j c)

  pub spread_child : spread_of 1 n e.fa P j ≡ (not (eqb (e.fa j) 0) && P (e.fa j))
  unfolding on_axis parent_of
  spread_child = go (ℕ_discrete (e.fa j) 0) (P (e.fa j)) refl
    where
      go : Dec (e.fa j ≡ 0) → (b : Bool) → P (e.fa j) ≡ b → spread_of 1 n e.fa P j ≡ (not (eqb (e.fa j) 0) && P (e.fa j))
      go (yes z) b p = none 1 (λ c a d q. ne_eqb (e.fa j) c (λ w. omega arith)) ∙ sym (simp (eq-eqb _ _ z))
      go (no z) true p =
          hit 1 (e.fa j) (omega arith) (omega (arith, (f.each j l h).fa_high)) p (eq-eqb (e.fa j) (e.fa j) refl) ∙ sym (simp (ne_eqb _ _ z, p))
      go (no z) false p =
          none 1 (λ c a d q. ne_eqb (e.fa j) c (λ w. false≢true (sym p ∙ ap P w ∙ q))) ∙ sym (simp (ne_eqb _ _ z, p))
