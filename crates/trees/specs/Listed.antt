-- A list has the entries of a row exactly if the row's signature stands in it.
--   signature_length     the signature of a row has four numbers for each element
--   listed_holds, holds_listed   one way and the other, for a row that starts at any entry
--   listed_whole, whole_listed   the same for the whole list
use Rattle.std.specs.Prelude.{ℕ, suc, ◌+◌, ◌-◌, ◌*◌, ◌≤◌, ◌<◌, ◌≡◌, refl, length, drop}
use Rattle.std.proofs.Common.{ap, ◌∙◌, arith, add-suc, add-zero, length-append, drop_of_length-le, drop-cons, drop-drop, drop_at, get_or-drop}
use Rattle.std.proofs.Math.Path.{sym}
use mathlib.Core.List.{List, [], ◌∷◌, ◌++◌, append_assoc, append-nil}
use Rattle.std.proofs.Math.ListN.{get_or}
use Rattle.trees.specs.Tree.{Forest, none, elem, size}
use Rattle.trees.specs.Signature.{cell, entries_of, row_signature}
use Rattle.trees.specs.Rows.{Entry, Holds}

-- "In memory a signature is 4×n sixteen-bit numbers"
pub signature_length : (f : Forest) (i up c : ℕ) → length (row_signature f i up c) ≡ 4 * size f
signature_length none i up c = refl
signature_length (elem a k r) i up c =
    simp length-append (omega (arith, signature_length k (i + 1) i c, signature_length r (i + 1 + size k) up (c + size k + 1)))

-- where entry i begins
abbrev from : ℕ → ℕ
from i = 4 * (i - 1)

module _ (s : List ℕ) where
  drop_eq : (j k : ℕ) → j ≡ k → drop j s ≡ drop k s
  drop_eq j k e = ap (λ (x : ℕ). drop x s) e

  cell_drop : (i k : ℕ) → cell 4 s i k ≡ get_or (drop (from i) s) k 0
  unfolding cell
  cell_drop i k = sym (get_or-drop (from i) s k 0)

  step_drop : (i j m : ℕ) → from i + m ≡ from j → drop m (drop (from i) s) ≡ drop (from j) s
  step_drop i j m e = drop-drop m (from i) s ∙ ap (λ (x : ℕ). drop x s) e

  -- ---- where the row's numbers stand in the list, its entries are those of the row

  pub listed_holds : (f : Forest) (i up c : ℕ) (rest : List ℕ) → 1 ≤ i → drop (from i) s ≡ row_signature f i up c ++ rest
      → Holds (entries_of 4 s) f i up c
  listed_holds none i up c rest h e = tt
  listed_holds (elem a k r) i up c rest h e = (
    record {
      name_is = cell_drop i 0 ∙ ap (λ (l : List ℕ). get_or l 0 0) e;
      post_is = cell_drop i 1 ∙ ap (λ (l : List ℕ). get_or l 1 0) e;
      ff_is = cell_drop i 2 ∙ ap (λ (l : List ℕ). get_or l 2 0) e;
      fa_is = cell_drop i 3 ∙ ap (λ (l : List ℕ). get_or l 3 0) e;
    },
    listed_holds k (i + 1) i c (row_signature r (i + 1 + size k) up (c + size k + 1) ++ rest) (omega arith) inner,
    listed_holds r (i + 1 + size k) up (c + size k + 1) rest (omega arith)
        (sym (step_drop (i + 1) (i + 1 + size k) (4 * size k) (omega arith)) ∙ ap (drop (4 * size k)) inner
        ∙ drop_at (row_signature k (i + 1) i c) _ (4 * size k) (signature_length k (i + 1) i c)),
  )
    where
      inner : drop (from (i + 1)) s ≡ row_signature k (i + 1) i c ++ (row_signature r (i + 1 + size k) up (c + size k + 1) ++ rest)
      inner = sym (step_drop i (i + 1) 4 (omega arith)) ∙ ap (drop 4) e ∙ append_assoc (row_signature k (i + 1) i c) _ rest

  -- ---- where the entries are those of the row, its numbers stand in the list

  cons_at : (j t : ℕ) → j + t < length s → drop (j + t) s ≡ get_or s (j + t) 0 ∷ drop (j + suc t) s
  cons_at j t h = rw add-suc (drop-cons s (j + t) 0 h)

  four : (j : ℕ) → j + 4 ≤ length s
      → drop j s ≡ get_or s (j + 0) 0 ∷ get_or s (j + 1) 0 ∷ get_or s (j + 2) 0 ∷ get_or s (j + 3) 0 ∷ drop (j + 4) s
  four j h =
      ap (λ (x : ℕ). drop x s) (sym (add-zero j)) ∙ cons_at j 0 (omega arith)
      ∙ ap (λ (l : List ℕ). get_or s (j + 0) 0 ∷ l) (cons_at j 1 (omega arith)
      ∙ ap (λ (l : List ℕ). get_or s (j + 1) 0 ∷ l) (cons_at j 2 (omega arith)
      ∙ ap (λ (l : List ℕ). get_or s (j + 2) 0 ∷ l) (cons_at j 3 (omega arith))))

  entry_drop : (i a p f u : ℕ) → 1 ≤ i → from i + 4 ≤ length s → Entry (entries_of 4 s) i a p f u
      → drop (from i) s ≡ a ∷ p ∷ f ∷ u ∷ drop (from (i + 1)) s
  unfolding cell
  entry_drop i a p f u h l e =
      four (from i) l
      ∙ rw (← e.name_is, ← e.post_is, ← e.ff_is, ← e.fa_is)
      (ap (λ (l : List ℕ). get_or s (from i + 0) 0 ∷ get_or s (from i + 1) 0 ∷ get_or s (from i + 2) 0 ∷ get_or s (from i + 3) 0 ∷ l)
      (drop_eq (from i + 4) (from (i + 1)) (omega arith)))

  pub holds_listed : (f : Forest) (i up c : ℕ) → 1 ≤ i → from i + 4 * size f ≤ length s → Holds (entries_of 4 s) f i up c
      → drop (from i) s ≡ row_signature f i up c ++ drop (from i + 4 * size f) s
  holds_listed none i up c h l e = drop_eq (from i) (from i + 4 * 0) (omega arith)
  holds_listed (elem a k r) i up c h l e =
      entry_drop i a (c + size k + 1) (i + 1 + size k) up h (omega arith) e.0
      ∙ ap (λ (x : List ℕ). a ∷ (c + size k + 1) ∷ (i + 1 + size k) ∷ up ∷ x)
      (holds_listed k (i + 1) i c (omega arith) (omega arith) e.1
      ∙ ap (λ (x : List ℕ). row_signature k (i + 1) i c ++ x)
      (drop_eq (from (i + 1) + 4 * size k) (from (i + 1 + size k)) (omega arith)
      ∙ holds_listed r (i + 1 + size k) up (c + size k + 1) (omega arith) (omega arith) e.2
      ∙ ap (λ (x : List ℕ). row_signature r (i + 1 + size k) up (c + size k + 1) ++ x)
      (drop_eq (from (i + 1 + size k) + 4 * size r) (from i + 4 * size (elem a k r)) (omega arith)))
      ∙ sym (append_assoc (row_signature k (i + 1) i c) _ _))

  -- ---- the whole list

  pub listed_whole : (f : Forest) → s ≡ row_signature f 1 0 0 → Holds (entries_of 4 s) f 1 0 0
  listed_whole f e = listed_holds f 1 0 0 [] (omega arith) (e ∙ sym (append-nil (row_signature f 1 0 0)))

  pub whole_listed : (f : Forest) → length s ≡ 4 * size f → Holds (entries_of 4 s) f 1 0 0 → s ≡ row_signature f 1 0 0
  whole_listed f e h =
      holds_listed f 1 0 0 (omega arith) (omega arith) h
      ∙ ap (λ (x : List ℕ). row_signature f 1 0 0 ++ x) (drop_of_length-le s {i = from 1 + 4 * size f} (omega arith))
      ∙ append-nil (row_signature f 1 0 0)
