-- What the passes of the axes add up to.
--   any_same, spread_same    tests that agree on 1 to n
--   spread_self              the self axis
--   spread_below_or_self, spread_above_or_self   an axis or the contexts themselves
--   spread_answer            what is spread from the contexts, with the name test, is the answer without a position
use Rattle.std.specs.Prelude.{ℕ, zero, suc, ◌≤◌, ◌<◌, ◌≡◌, refl, List, [], ◌∷◌, Bool, true, false, ◌&&◌, ◌||◌, length, get_or}
use Rattle.std.proofs.Math.Path.{ap, sym}
use Rattle.std.proofs.Common.{◌∙◌, arith}
use Rattle.std.proofs.Math.Bool.{or-true, and-false}
use Rattle.std.proofs.Math.Dec.{eqb}
use borrow.Author.Tests.{eq-eqb, eqb-true}
use Rattle.trees.specs.Names.{passes}
use Rattle.xpath.specs.Select.{some}
use Rattle.xpath.specs.SelectLaws.{some_same}
use Rattle.xpath.specs.Axes.{ancestor_of, ancestor_or_self, on_axis, chosen, in_answer}
use Rattle.xpath.specs.Kept.{kept_none}
use Rattle.xpath.specs.Spread.{any_to, any_yes, any_no, spread_of, is_context, spread_some}

pub any_same : (n : ℕ) (Q R : ℕ → Bool) → ((c : ℕ) → 1 ≤ c → c ≤ n → Q c ≡ R c) → any_to n Q ≡ any_to n R
unfolding any_to
any_same zero Q R h = refl
any_same (suc n) Q R h =
    ap (λ (b : Bool). b || any_to n Q) (h (suc n) (omega arith) (omega arith))
    ∙ ap (λ (b : Bool). R (suc n) || b) (any_same n Q R (λ c l m. h c l (omega arith)))

pub spread_same : (axis n : ℕ) (parent : ℕ → ℕ) (P Q : ℕ → Bool) (j : ℕ) → ((c : ℕ) → 1 ≤ c → c ≤ n → P c ≡ Q c)
    → spread_of axis n parent P j ≡ spread_of axis n parent Q j
unfolding spread_of
spread_same axis n parent P Q j h = any_same n _ _ (λ c l m. ap (λ (b : Bool). b && on_axis axis n parent c j) (h c l m))

-- ---- an axis or the contexts themselves

regroup : (a b x y : Bool) → ((a || b) || (x || y)) ≡ ((a || x) || (b || y))
regroup true b x y = refl
regroup false true x y = sym (or-true x)
regroup false false x y = refl

any_or : (n : ℕ) (P A B : ℕ → Bool) → any_to n (λ c. P c && (A c || B c)) ≡ (any_to n (λ c. P c && A c) || any_to n (λ c. P c && B c))
unfolding any_to
any_or zero P A B = refl
any_or (suc n) P A B =
    ap (λ (b : Bool). (P (suc n) && (A (suc n) || B (suc n))) || b) (any_or n P A B)
    ∙ ap (λ (b : Bool). b || (any_to n (λ c. P c && A c) || any_to n (λ c. P c && B c))) (spread (P (suc n)) (A (suc n)) (B (suc n)))
    ∙ regroup (P (suc n) && A (suc n)) (P (suc n) && B (suc n)) (any_to n (λ c. P c && A c)) (any_to n (λ c. P c && B c))
  where
    spread : (p a b : Bool) → (p && (a || b)) ≡ ((p && a) || (p && b))
    spread true a b = refl
    spread false a b = refl

module _ (n : ℕ) (P : ℕ → Bool) (j : ℕ) (l : 1 ≤ j) (h : j ≤ n) where
  -- one of the ranks that pass is j
  any_only : (E : ℕ → Bool) → E j ≡ true → ((c : ℕ) → E c ≡ true → c ≡ j) → any_to n (λ c. P c && E c) ≡ P j
  any_only E own only = go (P j) refl
    where
      go : (b : Bool) → P j ≡ b → any_to n (λ c. P c && E c) ≡ P j
      go true q = any_yes n (λ c. P c && E c) j l h (simp (q, own)) ∙ sym q
      go false q = any_no n (λ c. P c && E c) (λ c a b. miss c (E c) refl) ∙ sym q
        where
          miss : (c : ℕ) (b : Bool) → E c ≡ b → (P c && E c) ≡ false
          miss c true e = simp (ap P (only c e) ∙ q)
          miss c false e = simp (e, and-false)

  module _ (parent : ℕ → ℕ) where
    pub spread_self : spread_of 0 n parent P j ≡ P j
    unfolding spread_of on_axis
    spread_self = any_only (λ c. eqb c j) (eq-eqb j j refl) (λ c e. eqb-true c j e)

    pub spread_below_or_self : spread_of 3 n parent P j ≡ (P j || spread_of 2 n parent P j)
    unfolding spread_of on_axis ancestor_or_self
    spread_below_or_self =
        any_or n P (λ c. eqb c j) (λ c. ancestor_of n parent c j)
        ∙ ap (λ (b : Bool). b || any_to n (λ c. P c && ancestor_of n parent c j)) (any_only (λ c. eqb c j) (eq-eqb j j refl) (λ c e. eqb-true c j e))

    pub spread_above_or_self : spread_of 6 n parent P j ≡ (P j || spread_of 5 n parent P j)
    unfolding spread_of on_axis ancestor_or_self
    spread_above_or_self =
        any_or n P (λ c. eqb j c) (λ c. ancestor_of n parent j c)
        ∙ ap (λ (b : Bool). b || any_to n (λ c. P c && ancestor_of n parent j c)) (any_only (λ c. eqb j c) (eq-eqb j j refl) (λ c e. sym (eqb-true j c e)))

-- ---- the answer

some_and : (A : ℕ → Bool) (b : Bool) (l : List ℕ) → some (λ c. A c && b) l ≡ (some A l && b)
unfolding some
some_and A b [] = refl
some_and A b (c ∷ l) = ap (λ (x : Bool). (A c && b) || x) (some_and A b l) ∙ spread (A c) (some A l) b
  where
    spread : (a s b : Bool) → ((a && b) || (s && b)) ≡ ((a || s) && b)
    spread true true true = refl
    spread true false true = refl
    spread true true false = refl
    spread true false false = refl
    spread false s b = refl

pub spread_answer : (axis n : ℕ) (parent name : ℕ → ℕ) (test : ℕ) (l : List ℕ) (j : ℕ)
    → ((k : ℕ) → k < length l → (1 ≤ get_or l k 0) × (get_or l k 0 ≤ n))
    → (spread_of axis n parent (is_context l) j && passes test (name j)) ≡ in_answer axis n parent name test 0 l j
unfolding spread_of chosen
spread_answer axis n parent name test l j w =
    ap (λ (b : Bool). b && passes test (name j)) (sym (spread_some n (λ c. on_axis axis n parent c j) l w))
    ∙ sym (some_and (λ c. on_axis axis n parent c j) (passes test (name j)) l)
    ∙ some_same _ _ l (λ k g. sym (kept_none axis 0 (chosen axis n parent name test (get_or l k 0)) j refl))
