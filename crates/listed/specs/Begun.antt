-- Demand 2 of the start call of preparing, as a predicate over any such call: ours meets it, and wrong ones do not.
--   Starter, Began      any start call, and what it answers and leaves
--   StartTwo call       it hands back n and clears just the 2×n numbers where it can; elsewhere it refuses, and writes nothing
--   ours_start          whatever keeps our promise meets it
--   shut_out_start_…    refusing everything, one fixed answer, clearing nothing, never refusing
use Rattle.std.specs.Prelude.{ℕ, zero, suc, ◌*◌, ◌≤◌, ◌<◌, ◌≡◌, refl, List, [], ◌∷◌, eqb, length, get_or, Ok, Err}
use Rattle.std.proofs.Common.{ap, ◌∙◌, sym, arith, eq-eqb, ne_eqb}
use Rattle.std.proofs.Math.Decide.{ℕ_discrete}
use Rattle.turns.specs.Pick.{pick}
use Rattle.terms.specs.declared.Refusal.{Refusal}
use Rattle.preparing.specs.declared.Prep.{Prep}
use Rattle.preparing.specs.PrepTurn.{StartPromise, Fresh, start_told, start_fault, cleared, prep_at, Started}
use Rattle.preparing.proofs.PrepCases.{start_fine, start_empty, start_sized}
use Rattle.listed.specs.Tables.{clear_length, clear_get}

-- what a start call answers, and the table that it leaves
pub record Began : Type 0 where
  pub says : Started
  pub left : List ℕ

-- given n and the lent table
abbrev pub Starter : Type 0
Starter = ℕ → List ℕ → Began

-- the 2×n numbers are zero, and the rest is as it was
pub record Clear (n : ℕ) (lent left : List ℕ) : Type 0 where
  pub long : length left ≡ length lent
  pub zeros : (i : ℕ) → i < 2 * n → get_or left i 0 ≡ 0
  pub others : (i : ℕ) → 2 * n ≤ i → get_or left i 0 ≡ get_or lent i 0

-- demand 2 of a start call: wherever it can it begins at n and clears just the 2×n numbers; elsewhere it refuses, and where it refuses it writes nothing
pub record StartTwo (call : Starter) : Type 0 where
  pub works : (n : ℕ) (lent : List ℕ) → 1 ≤ n → n ≤ 4096 → 2 * n ≤ length lent
      → ((call n lent).says ≡ Ok (prep_at n)) × Clear n lent (call n lent).left
  pub other : (n : ℕ) (lent : List ℕ) → (1 ≤ n → n ≤ 4096 → 2 * n ≤ length lent → ⊥) → (x : Refusal) × ((call n lent).says ≡ Err x)
  pub refuses : (n : ℕ) (lent : List ℕ) (x : Refusal) → (call n lent).says ≡ Err x → (call n lent).left ≡ lent

-- ---- ours

clear_rest : (k : ℕ) (l : List ℕ) (i : ℕ) → k ≤ i → get_or (cleared k l) i 0 ≡ get_or l i 0
unfolding cleared
clear_rest zero l i h = refl
clear_rest (suc k) [] i h = refl
clear_rest (suc k) (x ∷ l) zero h = absurd (omega arith)
clear_rest (suc k) (x ∷ l) (suc i) h = clear_rest k l i (omega arith)

says_fresh : (n : ℕ) (r : Started) → 1 ≤ n → start_told r ≡ record { number = 0; next = n; entry = 0 } → r ≡ Ok (prep_at n)
says_fresh n (Ok p) l q = let x = ap (λ (f : Fresh). f.next) q in λ i. Ok (record { next = record { 0 = x i } })
says_fresh n (Err x) l q = let z : 0 ≡ n = ap (λ (f : Fresh). f.next) q in absurd (omega arith)

module _ (n : ℕ) (lent : List ℕ) (r : Started) (left : List ℕ) (p : StartPromise n lent r left) where
  works_here : 1 ≤ n → n ≤ 4096 → 2 * n ≤ length lent → (r ≡ Ok (prep_at n)) × Clear n lent left
  works_here a b c =
      let f : start_fault n (length lent) ≡ 0 = start_fine n (length lent) (λ e. omega arith) b c in
      let q : eqb (start_fault n (length lent)) 0 ≡ _ = eq-eqb (start_fault n (length lent)) 0 f in
      let l : left ≡ cleared (2 * n) lent = p.leaves ∙ (rw q refl) in (
        says_fresh n r a (p.answer ∙ told_fine f),
        rw l (record { long = clear_length (2 * n) lent; zeros = clear_get (2 * n) lent; others = clear_rest (2 * n) lent }),
      )
    where
      told_fine : start_fault n (length lent) ≡ 0
          → ◌≡◌ {A = Fresh} (record { number = start_fault n (length lent); next = pick (eqb (start_fault n (length lent)) 0) n 0; entry = 0 })
          (record { number = 0; next = n; entry = 0 })
      told_fine f = rw f

  refuses_here : (x : Refusal) → r ≡ Err x → left ≡ lent
  refuses_here x e = p.leaves ∙ kept (ℕ_discrete (start_fault n (length lent)) 0)
    where
      told : start_told (Err x) ≡ record { number = start_fault n (length lent); next = pick (eqb (start_fault n (length lent)) 0) n 0; entry = 0 }
      told = ap start_told (sym e) ∙ p.answer

      kept : Dec (start_fault n (length lent) ≡ 0) → pick (eqb (start_fault n (length lent)) 0) (cleared (2 * n) lent) lent ≡ lent
      kept (no h) = simp (ne_eqb _ _ h)
      kept (yes h) =
          let z : 0 ≡ n = ap (λ (f : Fresh). f.next) told ∙ ap (λ b. pick b n 0) (eq-eqb _ _ h) in
          absurd (omega (arith, start_empty n (length lent) (sym z), h))

  other_here : (1 ≤ n → n ≤ 4096 → 2 * n ≤ length lent → ⊥) → (x : Refusal) × (r ≡ Err x)
  other_here h = by r refl
    where
      by : (y : Started) → r ≡ y → (x : Refusal) × (r ≡ Err x)
      by (Err x) e = (x, e)
      by (Ok q) e =
          let f : start_fault n (length lent) ≡ 0 = ap (λ (g : Fresh). g.number) (sym p.answer ∙ ap start_told e) in
          let z = start_sized n (length lent) f in absurd (h z.0 z.1 z.2)

pub ours_start : (call : Starter) → ((n : ℕ) (lent : List ℕ) → StartPromise n lent (call n lent).says (call n lent).left) → StartTwo call
ours_start call p = record {
  works = λ n lent a b c. works_here n lent (call n lent).says (call n lent).left (p n lent) a b c;
  other = λ n lent h. other_here n lent (call n lent).says (call n lent).left (p n lent) h;
  refuses = λ n lent x e. refuses_here n lent (call n lent).says (call n lent).left (p n lent) x e;
}

-- ---- wrong ones

-- two lent numbers, for one entry
abbrev nines : List ℕ
nines = 9 ∷ 9 ∷ []

module _ (call : Starter) (d : StartTwo call) where
  one_entry : ((call 1 nines).says ≡ Ok (prep_at 1)) × Clear 1 nines (call 1 nines).left
  one_entry = d.works 1 nines (omega arith) (omega arith) (omega arith)

pub shut_out_start_refusing : (call : Starter) → ((n : ℕ) (lent : List ℕ) → (x : Refusal) × ((call n lent).says ≡ Err x)) → StartTwo call → ⊥
shut_out_start_refusing call h d =
    let q = sym (one_entry call d).0 ∙ (h 1 nines).1 in let z : ◌≡◌ {A = ℕ} 0 1 = cc in omega arith

pub shut_out_start_fixed : (x : Began) → StartTwo (λ n lent. x) → ⊥
shut_out_start_fixed x d =
    let a : x.says ≡ Ok (prep_at 1) = (d.works 1 (9 ∷ 9 ∷ 9 ∷ 9 ∷ []) (omega arith) (omega arith) (omega arith)).0 in
    let b : x.says ≡ Ok (prep_at 2) = (d.works 2 (9 ∷ 9 ∷ 9 ∷ 9 ∷ []) (omega arith) (omega arith) (omega arith)).0 in
    let q : ◌≡◌ {A = ℕ} 1 2 = ap (λ (r : Started). (start_told r).next) (sym a ∙ b) in omega arith

pub shut_out_start_idle : (call : Starter) → ((n : ℕ) (lent : List ℕ) → (call n lent).left ≡ lent) → StartTwo call → ⊥
shut_out_start_idle call h d =
    let q : ◌≡◌ {A = ℕ} 9 0 = ap (λ (l : List ℕ). get_or l 0 0) (sym (h 1 nines)) ∙ (one_entry call d).1.zeros 0 (omega arith) in omega arith

-- any start call that never refuses; a tree of no elements is to be refused
pub shut_out_start_trusting : (call : Starter) → ((n : ℕ) (lent : List ℕ) → (p : Prep) × ((call n lent).says ≡ Ok p)) → StartTwo call → ⊥
shut_out_start_trusting call h d =
    let q = sym (h 0 nines).1 ∙ (d.other 0 nines (λ a b c. omega arith)).1 in let z : ◌≡◌ {A = ℕ} 0 1 = cc in omega arith
