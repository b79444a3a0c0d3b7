-- The step of the check in plain numbers: which case holds under which facts, and that it is a step of the written rule.
--   number_…               what a step comes to, by its number and entry
--   fault_…, opened_…      rule 1, and rule 2
--   close_taken, close_some   a close that is not refused
--   close_names, names_…   the entry that a refused close names
--   step_entry, step_opens, step_closes   the step by rule 1, by rule 2, or by the others
--   step_shuts, step_close   a step that closes, and one that is refused there
--   stuck_…                steps that are refused
--   taken_moved            a step that was taken leads there
--   step_stuck, close_err  a step that is not taken is refused, and by rules 3 and 4 where rule 1 refuses nothing
use Rattle.std.specs.Prelude.{Some, None, Result, Ok, Err}
use Rattle.std.specs.Prelude.{IsErr}
use Prim.Native.Nat.{ℕ, ◌+◌, ◌-◌, ◌≤◌, ◌<◌}
use native.Mathlib.Omega.{arith}
use native.Mathlib.Decide.{ℕ_discrete}
use mathlib.Core.Path.{◌≡◌, refl, ap, sym, ◌∙◌}
use mathlib.Core.Bool.{Bool, true, false, not, ◌&&◌, ◌||◌, false≢true}
use lib.Dec.{ltb, leb, eqb}
use borrow.Author.Tests.{le-leb, lt-leb, eq-eqb, ne_eqb}
use Rattle.turns.specs.Pick.{pick}
use Rattle.turns.specs.Turn.{Next, moved, answered, refused}
use Rattle.trees.specs.Signature.{Entries}
use Rattle.checking.specs.declared.CheckState.{CheckState}
use Rattle.checking.specs.Rule.{at, close_of, step_of, nameless, second_root}
use Rattle.terms.specs.declared.Fault.{Fault}
use Rattle.terms.specs.Faults.{tested}
use Rattle.checking.specs.Plain.{number_of, entry_of, no_parent, entry_fault, opened, close_entry, taken}
use Rattle.checking.proofs.Cases.{close_none}

-- ---- what a step comes to

module _ (x : Next CheckState) where
  pub number_is : (u v : ℕ) → x ≡ refused u v → number_of x ≡ u
  unfolding number_of
  number_is u v q = ap number_of q

  pub number_moved : (to : CheckState) → x ≡ moved to → number_of x ≡ 0
  unfolding number_of
  number_moved to q = ap number_of q

-- a refusal by its number and entry
pub number_refused : (x : Next CheckState) (u v : ℕ) → u ≡ number_of x → v ≡ entry_of x → (u ≡ 0 → ⊥) → x ≡ refused u v
unfolding number_of entry_of
number_refused (moved to) u v p q h = absurd (h p)
number_refused (answered to) u v p q h = absurd (h p)
number_refused (refused a b) u v p q h = let g : u ≡ a = p in let k : v ≡ b = q in cc

-- ---- rule 1

module _ (any : Bool) (n : ℕ) (e : Entries) (i : ℕ) where
  pub fault_past : n < i → entry_fault any n e i ≡ 0
  unfolding entry_fault
  fault_past h = simp (lt-leb _ _ h)

  module _ (h : i ≤ n) (a : ℕ) (p : a ≡ e.name i) where
    pub fault_name : (not any && eqb a 0) ≡ true → entry_fault any n e i ≡ 3
    unfolding entry_fault nameless
    fault_name z = simp (le-leb _ _ h, sym p, z)

    module _ (z : (not any && eqb a 0) ≡ false) (up : ℕ) (q : up ≡ e.fa i) where
      pub fault_parent : (leb i up || (ltb 1 i && eqb up 0)) ≡ true → entry_fault any n e i ≡ 4
      unfolding entry_fault nameless no_parent second_root
      fault_parent t = simp (le-leb _ _ h, sym p, z, sym q, t)

      pub fault_none : (leb i up || (ltb 1 i && eqb up 0)) ≡ false → entry_fault any n e i ≡ 0
      unfolding entry_fault nameless no_parent second_root
      fault_none t = simp (le-leb _ _ h, sym p, z, sym q, t)

-- ---- rule 2

module _ (n : ℕ) (e : Entries) (i top : ℕ) where
  pub opened_past : n < i → false ≡ opened n e i top
  unfolding opened
  opened_past h = simp (lt-leb _ _ h)

  pub opened_there : i ≤ n → (up : ℕ) → up ≡ e.fa i → eqb up top ≡ opened n e i top
  unfolding opened
  opened_there h up q = simp (le-leb _ _ h, q)

-- ---- rules 3 and 4

module _ (e : Entries) (i top closed : ℕ) where
  pub close_taken : number_of (close_of e (at i top closed)) ≡ 0 → close_of e (at i top closed) ≡ moved (at i (e.fa top) (closed + 1))
  unfolding close_of number_of
  close_taken = go (eqb top 0) (eqb closed (i - 1)) (eqb (e.post top) (closed + 1)) (eqb (e.ff top) i) (ltb (e.fa top) top)
    where
      go : (a b c d f : Bool)
          → number_of (pick a (refused 4 i) (pick b (refused 9 0) (pick c (pick d (pick f (moved (at i (e.fa top) (closed + 1))) (refused 4 top)) (refused 6 top)) (refused 5 top)))) ≡ 0
          → pick a (refused 4 i) (pick b (refused 9 0) (pick c (pick d (pick f (moved (at i (e.fa top) (closed + 1))) (refused 4 top)) (refused 6 top)) (refused 5 top)))
          ≡ moved (at i (e.fa top) (closed + 1))
      go true b c d f h = absurd (omega arith)
      go false true c d f h = absurd (omega arith)
      go false false false d f h = absurd (omega arith)
      go false false true false f h = absurd (omega arith)
      go false false true true false h = absurd (omega arith)
      go false false true true true h = refl

  -- a close that is not refused has an element to close
  pub close_some : number_of (close_of e (at i top closed)) ≡ 0 → 1 ≤ top
  close_some z = from (ℕ_discrete top 0)
    where
      from : Dec (top ≡ 0) → 1 ≤ top
      from (no q) = omega (arith, q)
      from (yes q) =
          let w : ◌≡◌ {A = ℕ} 4 0 = sym (number_is _ _ _ (close_none e (at i top closed) q)) ∙ z in
          absurd (omega (arith, w))

  pub close_names : (number_of (close_of e (at i top closed)) ≡ 0 → ⊥) → close_entry i top closed ≡ entry_of (close_of e (at i top closed))
  unfolding close_of number_of entry_of close_entry
  close_names = go (eqb top 0) (eqb closed (i - 1)) (eqb (e.post top) (closed + 1)) (eqb (e.ff top) i) (ltb (e.fa top) top)
    where
      go : (a b c d f : Bool)
          → (number_of (pick a (refused 4 i) (pick b (refused 9 0) (pick c (pick d (pick f (moved (at i (e.fa top) (closed + 1))) (refused 4 top)) (refused 6 top)) (refused 5 top)))) ≡ 0 → ⊥)
          → pick a i (pick b 0 top)
          ≡ entry_of (pick a (refused 4 i) (pick b (refused 9 0) (pick c (pick d (pick f (moved (at i (e.fa top) (closed + 1))) (refused 4 top)) (refused 6 top)) (refused 5 top))))
      go true b c d f h = refl
      go false true c d f h = refl
      go false false false d f h = refl
      go false false true false f h = refl
      go false false true true false h = refl
      go false false true true true h = absurd (h refl)

module _ (i top closed : ℕ) where
  pub names_next : top ≡ 0 → i ≡ close_entry i top closed
  unfolding close_entry
  names_next h = simp (eq-eqb _ _ h)

  pub names_none : (top ≡ 0 → ⊥) → closed ≡ i - 1 → 0 ≡ close_entry i top closed
  unfolding close_entry
  names_none h g = simp (ne_eqb _ _ h, eq-eqb _ _ g)

  pub names_top : (top ≡ 0 → ⊥) → (closed ≡ i - 1 → ⊥) → top ≡ close_entry i top closed
  unfolding close_entry
  names_top h g = simp (ne_eqb _ _ h, ne_eqb _ _ g)

-- ---- the step

-- a step to a state by equal numbers
pub moved_at : {a b c x y z : ℕ} → x ≡ a → y ≡ b → z ≡ c → moved (at a b c) ≡ moved (at x y z)
moved_at p q r = rw p (rw q (rw r refl))

module _ (any : Bool) (n : ℕ) (e : Entries) (i top closed : ℕ) where
  pub step_entry : (f : ℕ) → f ≡ entry_fault any n e i → (f ≡ 0 → ⊥) → step_of any n e (at i top closed) ≡ refused f i
  unfolding step_of entry_fault no_parent
  step_entry = go (leb i n) (nameless any e i) (leb i (e.fa i)) (second_root i (e.fa i)) (eqb (e.fa i) top)
    where
      go : (a b c d o : Bool) (f : ℕ) → f ≡ pick a (pick b 3 (pick (c || d) 4 0)) 0 → (f ≡ 0 → ⊥)
          → pick a (pick b (refused 3 i) (pick c (refused 4 i) (pick d (refused 4 i) (pick o (moved (at (i + 1) i closed)) (close_of e (at i top closed)))))) (close_of e (at i top closed))
          ≡ refused f i
      go false b c d o f p h = absurd (h p)
      go true true c d o f p h = ap (λ (x : ℕ). refused x i) (sym p)
      go true false true d o f p h = ap (λ (x : ℕ). refused x i) (sym p)
      go true false false true o f p h = ap (λ (x : ℕ). refused x i) (sym p)
      go true false false false o f p h = absurd (h p)

  module _ (f : ℕ) (p : f ≡ entry_fault any n e i) (z : f ≡ 0) where
    pub step_opens : (o : Bool) → o ≡ opened n e i top → o ≡ true → step_of any n e (at i top closed) ≡ moved (at (i + 1) i closed)
    unfolding step_of entry_fault no_parent opened
    step_opens o q t = go (leb i n) (nameless any e i) (leb i (e.fa i)) (second_root i (e.fa i)) (eqb (e.fa i) top) (sym p ∙ z) (sym q ∙ t)
      where
        go : (a b c d o : Bool) → ◌≡◌ {A = ℕ} (pick a (pick b 3 (pick (c || d) 4 0)) 0) 0 → (a && o) ≡ true
            → pick a (pick b (refused 3 i) (pick c (refused 4 i) (pick d (refused 4 i) (pick o (moved (at (i + 1) i closed)) (close_of e (at i top closed)))))) (close_of e (at i top closed))
            ≡ moved (at (i + 1) i closed)
        go false b c d o h t = absurd (false≢true t)
        go true true c d o h t = absurd (omega arith)
        go true false true d o h t = absurd (omega arith)
        go true false false true o h t = absurd (omega arith)
        go true false false false false h t = absurd (false≢true t)
        go true false false false true h t = refl

    pub step_closes : (o : Bool) → o ≡ opened n e i top → o ≡ false → step_of any n e (at i top closed) ≡ close_of e (at i top closed)
    unfolding step_of entry_fault no_parent opened
    step_closes o q t = go (leb i n) (nameless any e i) (leb i (e.fa i)) (second_root i (e.fa i)) (eqb (e.fa i) top) (sym p ∙ z) (sym q ∙ t)
      where
        go : (a b c d o : Bool) → ◌≡◌ {A = ℕ} (pick a (pick b 3 (pick (c || d) 4 0)) 0) 0 → (a && o) ≡ false
            → pick a (pick b (refused 3 i) (pick c (refused 4 i) (pick d (refused 4 i) (pick o (moved (at (i + 1) i closed)) (close_of e (at i top closed)))))) (close_of e (at i top closed))
            ≡ close_of e (at i top closed)
        go false b c d o h t = refl
        go true true c d o h t = absurd (omega arith)
        go true false true d o h t = absurd (omega arith)
        go true false false true o h t = absurd (omega arith)
        go true false false false false h t = refl
        go true false false false true h t = absurd (false≢true (sym t))

    -- a step that is refused, and not by rule 1, is refused by rules 3 and 4
    pub step_faulty : (number_of (step_of any n e (at i top closed)) ≡ 0 → ⊥) → step_of any n e (at i top closed) ≡ close_of e (at i top closed)
    step_faulty h = from (opened n e i top) refl
      where
        from : (o : Bool) → o ≡ opened n e i top → step_of any n e (at i top closed) ≡ close_of e (at i top closed)
        from true q = absurd (h (number_moved _ _ (step_opens true q refl)))
        from false q = step_closes false q refl

    -- refused by rules 3 and 4, a step has the number and the entry of the close
    pub step_close : (number_of (step_of any n e (at i top closed)) ≡ 0 → ⊥) → (u v : ℕ) → u ≡ number_of (close_of e (at i top closed)) → v ≡ close_entry i top closed
        → step_of any n e (at i top closed) ≡ refused u v
    step_close h u v a b =
        let q = step_faulty h in
        let g : number_of (close_of e (at i top closed)) ≡ 0 → ⊥ = λ w. h (ap number_of q ∙ w) in
        q ∙ number_refused _ u v a (b ∙ close_names e i top closed g) (λ w. g (sym a ∙ w))

    -- a step that opens nothing, and whose close is not refused, leads where the close does
    pub step_shuts : (o : Bool) → o ≡ opened n e i top → o ≡ false → (u : ℕ) → u ≡ number_of (close_of e (at i top closed)) → u ≡ 0
        → step_of any n e (at i top closed) ≡ moved (at i (e.fa top) (closed + 1))
    step_shuts o q t u a h = step_closes o q t ∙ close_taken e i top closed (sym a ∙ h)

    -- and where it is refused, so is the step
    pub stuck_close : (o : Bool) → o ≡ opened n e i top → o ≡ false → (u : ℕ) → u ≡ number_of (close_of e (at i top closed)) → (u ≡ 0 → ⊥)
        → number_of (step_of any n e (at i top closed)) ≡ 0 → ⊥
    stuck_close o q t u a h w = h (a ∙ ap number_of (sym (step_closes o q t)) ∙ w)

  pub stuck_entry : (f : ℕ) → f ≡ entry_fault any n e i → (f ≡ 0 → ⊥) → number_of (step_of any n e (at i top closed)) ≡ 0 → ⊥
  stuck_entry f p h w = h (sym (number_is _ _ _ (step_entry f p h)) ∙ w)

-- ---- whether a step is taken

pub taken_moved : (x : Next CheckState) (to : CheckState) → taken x ≡ Some to → x ≡ moved to
taken_moved (moved a) to q = let z : Some a ≡ Some to = q in cc
taken_moved (answered a) to q = let z : None ≡ Some to = q in cc
taken_moved (refused u v) to q = let z : None ≡ Some to = q in cc

module _ (any : Bool) (n : ℕ) (e : Entries) (i top closed : ℕ) (h : taken (step_of any n e (at i top closed)) ≡ None) where
  never : (to : CheckState) → step_of any n e (at i top closed) ≡ moved to → ⊥
  never to q = let z : Some to ≡ None = sym (ap taken q) ∙ h in cc

  -- a step that is not taken is refused, with a number
  pub step_stuck : number_of (step_of any n e (at i top closed)) ≡ 0 → ⊥
  step_stuck = by_entry (ℕ_discrete (entry_fault any n e i) 0)
    where
      by_close : entry_fault any n e i ≡ 0 → false ≡ opened n e i top → Dec (number_of (close_of e (at i top closed)) ≡ 0)
          → number_of (step_of any n e (at i top closed)) ≡ 0 → ⊥
      by_close z q (yes y) = λ w. never _ (step_shuts any n e i top closed _ refl z false q refl _ refl y)
      by_close z q (no y) = stuck_close any n e i top closed _ refl z false q refl _ refl y

      by_open : entry_fault any n e i ≡ 0 → (o : Bool) → o ≡ opened n e i top → number_of (step_of any n e (at i top closed)) ≡ 0 → ⊥
      by_open z true q = λ w. never _ (step_opens any n e i top closed _ refl z true q refl)
      by_open z false q = by_close z q (ℕ_discrete (number_of (close_of e (at i top closed))) 0)

      by_entry : Dec (entry_fault any n e i ≡ 0) → number_of (step_of any n e (at i top closed)) ≡ 0 → ⊥
      by_entry (no z) = stuck_entry any n e i top closed _ refl z
      by_entry (yes z) = by_open z (opened n e i top) refl

  -- and where rule 1 refuses nothing, the code's test of the close has found a fault
  pub close_err : (f : ℕ) → f ≡ entry_fault any n e i → f ≡ 0 → (r : Result Unit Fault) → tested r ≡ number_of (close_of e (at i top closed)) → IsErr r
  close_err f p z (Ok x) g = absurd (step_stuck (ap number_of (step_faulty any n e i top closed f p z step_stuck) ∙ sym g))
  close_err f p z (Err x) g = refl
