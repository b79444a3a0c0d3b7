-- Laws of selecting.
--   up_yes, up_no        the next rank is taken exactly if it passes
--   up_same              tests that agree on 1 to n select the same
--   up_none, up_one      nothing passes; two tests that differ at one rank
--   up_grows             more ranks select no less
--   up_length            no more are selected than there are
--   front_store, front_length   one more store at the end of what stands at the front of a room
--   some_append, some_more, some_all, some_same   whether one of a list passes, with one more of it, all of it, and for two tests
use Prim.Native.Nat.{ℕ, zero, suc, ◌+◌, ◌≤◌, ◌<◌}
use Rattle.std.specs.Prelude.{◌≡◌, refl, List, [], ◌∷◌, ◌++◌, Bool, ◌||◌, get_or, take, drop, set}
use Rattle.std.proofs.Common.{ap, ◌∙◌, sym, append_assoc, true≢false, add-one, eq-or-lt_of_le, ⊎_elim, length-drop, take-suc, drop-cons, take_all}
use Rattle.std.proofs.Math.Path.{subst}
use Rattle.std.proofs.Math.Bool.{true, false, or-false, or_assoc}
use Rattle.std.proofs.lemmas.Bool.{false≢true}
use native.Mathlib.Omega.{arith}
use Rattle.std.proofs.Math.ListN.{length, length-append}
use Rattle.std.proofs.lemmas.List.{set_at}
use Rattle.turns.specs.Pick.{pick}
use Rattle.xpath.specs.Select.{up_to, some}

module _ (P : ℕ → Bool) where
  pub up_yes : (n : ℕ) → P (n + 1) ≡ true → up_to (n + 1) P ≡ up_to n P ++ ((n + 1) ∷ [])
  unfolding up_to
  up_yes n = subst (λ (k : ℕ). P k ≡ true → up_to k P ≡ up_to n P ++ (k ∷ [])) (sym (add-one n)) (λ h. simp h)

  pub up_no : (n : ℕ) → P (n + 1) ≡ false → up_to (n + 1) P ≡ up_to n P
  unfolding up_to
  up_no n = subst (λ (k : ℕ). P k ≡ false → up_to k P ≡ up_to n P) (sym (add-one n)) (λ h. simp h)

  -- one more rank selects one more, or as many
  up_step : (n : ℕ) → length (up_to n P) ≤ length (up_to (suc n) P)
  unfolding up_to
  up_step n = go (P (suc n))
    where
      go : (b : Bool) → length (up_to n P) ≤ length (pick b (up_to n P ++ (suc n ∷ [])) (up_to n P))
      go true = simp length-append (omega arith)
      go false = omega arith

  pub up_grows : (i n : ℕ) → i ≤ n → length (up_to i P) ≤ length (up_to n P)
  up_grows i zero h = let z : i ≡ 0 = omega arith in rw z (omega arith)
  up_grows i (suc n) h =
      ⊎_elim (λ (e : i ≡ suc n). rw e (omega arith)) (λ (l : i < suc n). omega (arith, up_grows i n (omega arith), up_step n))
      (eq-or-lt_of_le h)

  pub up_length : (n : ℕ) → length (up_to n P) ≤ n
  unfolding up_to
  up_length zero = omega arith
  up_length (suc n) = go (P (suc n)) (up_length n)
    where
      go : (b : Bool) → length (up_to n P) ≤ n → length (pick b (up_to n P ++ (suc n ∷ [])) (up_to n P)) ≤ suc n
      go true h = simp length-append (omega arith)
      go false h = omega arith

pub up_same : (P Q : ℕ → Bool) (n : ℕ) → ((j : ℕ) → 1 ≤ j → j ≤ n → P j ≡ Q j) → up_to n P ≡ up_to n Q
unfolding up_to
up_same P Q zero h = refl
up_same P Q (suc n) h =
    ap (λ (b : Bool). pick b (up_to n P ++ (suc n ∷ [])) (up_to n P)) (h (suc n) (omega arith) (omega arith))
    ∙ ap (λ (l : List ℕ). pick (Q (suc n)) (l ++ (suc n ∷ [])) l) (up_same P Q n (λ j l m. h j l (omega arith)))

pub up_none : (P : ℕ → Bool) (n : ℕ) → ((j : ℕ) → 1 ≤ j → j ≤ n → P j ≡ false) → up_to n P ≡ []
unfolding up_to
up_none P zero h = refl
up_none P (suc n) h = simp (h (suc n) (omega arith) (omega arith)) (up_none P n (λ j l m. h j l (omega arith)))

-- one more rank passes the first test
pub up_one : (P Q : ℕ → Bool) (n p : ℕ) → 1 ≤ p → p ≤ n → P p ≡ true → Q p ≡ false
    → ((j : ℕ) → 1 ≤ j → j ≤ n → (j ≡ p → ⊥) → P j ≡ Q j) → length (up_to n P) ≡ length (up_to n Q) + 1
unfolding up_to
up_one P Q zero p l h hit miss same = absurd (omega arith)
up_one P Q (suc n) p l h hit miss same =
    ⊎_elim (λ (e : p ≡ suc n). here e) (λ (m : p < suc n). there (P (suc n)) (Q (suc n)) (same (suc n) (omega arith) (omega arith) (omega arith))
    (up_one P Q n p l (omega arith) hit miss (λ j a b c. same j a (omega arith) c)))
    (eq-or-lt_of_le h)
  where
    here : p ≡ suc n → length (up_to (suc n) P) ≡ length (up_to (suc n) Q) + 1
    here e =
        let y : P (suc n) ≡ true = ap P (sym e) ∙ hit in
        let x : Q (suc n) ≡ false = ap Q (sym e) ∙ miss in
        simp (y, x, length-append) (omega (arith, ap length (up_same P Q n (λ j a b. same j a (omega arith) (omega arith)))))

    there : (a b : Bool) → a ≡ b → length (up_to n P) ≡ length (up_to n Q) + 1
        → length (pick a (up_to n P ++ (suc n ∷ [])) (up_to n P)) ≡ length (pick b (up_to n Q ++ (suc n ∷ [])) (up_to n Q)) + 1
    there true true e q = simp length-append (omega arith)
    there false false e q = q
    there true false e q = absurd (true≢false e)
    there false true e q = absurd (false≢true e)

-- ---- writing what is selected

-- a room that holds l at its front and is as it was beyond it
abbrev pub front : List ℕ → List ℕ → List ℕ
front l room = l ++ drop (length l) room

pub front_store : (l room : List ℕ) (x : ℕ) → length l < length room → set (front l room) (length l) x ≡ front (l ++ (x ∷ [])) room
front_store l room x h =
    ap (λ (r : List ℕ). set (l ++ r) (length l) x) (drop-cons room (length l) 0 h)
    ∙ set_at l (get_or room (length l) 0) (drop (suc (length l)) room) x (length l) refl
    ∙ rw (append_assoc l (x ∷ []) (drop (length (l ++ (x ∷ []))) room), length-append, add-one)

-- ---- one of a list

pub some_append : (P : ℕ → Bool) (l : List ℕ) (c : ℕ) → some P (l ++ (c ∷ [])) ≡ (some P l || P c)
unfolding some
some_append P [] c = or-false (P c)
some_append P (d ∷ l) c = ap (λ (b : Bool). P d || b) (some_append P l c) ∙ sym (or_assoc (P d) (some P l) (P c))

pub some_more : (P : ℕ → Bool) (l : List ℕ) (k : ℕ) → k < length l → some P (take (k + 1) l) ≡ (some P (take k l) || P (get_or l k 0))
some_more P l k h = ap (λ (i : ℕ). some P (take i l)) (add-one k) ∙ ap (some P) (take-suc l k 0 h) ∙ some_append P (take k l) (get_or l k 0)

pub some_all : (P : ℕ → Bool) (l : List ℕ) (k : ℕ) → length l ≤ k → some P (take k l) ≡ some P l
some_all P l k h = ap (some P) (take_all k l h)

pub some_same : (P Q : ℕ → Bool) (l : List ℕ) → ((k : ℕ) → k < length l → P (get_or l k 0) ≡ Q (get_or l k 0)) → some P l ≡ some Q l
unfolding some
some_same P Q [] h = refl
some_same P Q (c ∷ l) h =
    ap (λ (b : Bool). b || some P l) (h 0 (omega arith)) ∙ ap (λ (b : Bool). Q c || b) (some_same P Q l (λ k g. h (suc k) (omega arith)))

pub front_length : (l room : List ℕ) → length l ≤ length room → length (front l room) ≡ length room
front_length l room h = simp (length-append, length-drop) (omega arith)
