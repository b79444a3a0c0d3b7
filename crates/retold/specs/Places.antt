-- Bytes by their place in a longer list.
--   at_place, first_at   a byte of what stands from a place on, and its first
--   two_at               two bytes, and what stands after them
use Rattle.std.specs.Prelude.{ℕ, suc, ◌+◌, ◌≤◌, ◌≡◌, List, ◌∷◌, length, get_or, drop}
use Rattle.std.proofs.Common.{ap, ◌∙◌, sym, arith, drop-cons, get_or-drop}

module _ (b : List ℕ) where
  pub at_place : (p i : ℕ) (l : List ℕ) → drop p b ≡ l → get_or b (p + i) 0 ≡ get_or l i 0
  at_place p i l e = sym (get_or-drop p b i 0) ∙ ap (λ (r : List ℕ). get_or r i 0) e

  pub first_at : (p : ℕ) (l : List ℕ) → drop p b ≡ l → get_or b p 0 ≡ get_or l 0 0
  first_at p l e = let q : p ≡ p + 0 = omega arith in ap (λ (x : ℕ). get_or b x 0) q ∙ at_place p 0 l e

  pub two_at : (p : ℕ) → p + 2 ≤ length b → drop p b ≡ get_or b p 0 ∷ get_or b (p + 1) 0 ∷ drop (p + 2) b
  two_at p h =
      let q : suc p ≡ p + 1 = omega arith in
      let r : suc (p + 1) ≡ p + 2 = omega arith in
      drop-cons b p 0 (omega arith)
      ∙ ap (get_or b p 0 ∷◌) (ap (λ (x : ℕ). drop x b) q ∙ drop-cons b (p + 1) 0 (omega arith)
      ∙ ap (λ (x : ℕ). get_or b (p + 1) 0 ∷ drop x b) r)
