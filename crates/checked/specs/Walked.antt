-- The check walks the signature of a tree to its end: two steps to an element, one that opens it and one that closes it.
--   Run, one, then      steps of the check, one after the other
--   Fine any e f i up   each entry of the row passes rule 1
--   walk_tree           from the fresh state to the end in exactly 2×n steps
use Rattle.std.specs.Prelude.{ℕ, suc, ◌+◌, ◌*◌, ◌≤◌, ◌<◌, ◌≡◌, refl, ◌⊎◌, Bool, false}
use Rattle.std.proofs.Common.{ap, ◌∙◌, subst, inl, inr, arith}
use Rattle.turns.specs.Turn.{moved, Moves, stay, move}
use Rattle.turns.specs.Counts.{moves_append}
use Rattle.trees.specs.Tree.{Forest, none, elem, size}
use Rattle.trees.specs.Signature.{Entries}
use Rattle.trees.specs.Rows.{Entry, Holds}
use Rattle.checking.specs.declared.CheckState.{CheckState}
use Rattle.checking.specs.Rule.{at, close_of, step_of, accepted, nameless, second_root}
use Rattle.checking.proofs.Cases.{step_open, step_past, step_close, close_moved, accepted_next, accepted_top, root_below}

-- k steps of the check
abbrev pub Run : Bool → ℕ → Entries → ℕ → CheckState → CheckState → Type 0
Run any n e k st to = Moves CheckState (accepted n) (step_of any n e) k st to

pub at_eq : {i j t u c d : ℕ} → i ≡ j → t ≡ u → c ≡ d → at i t c ≡ at j u d
at_eq p q r = cc

-- each entry of the row passes rule 1
abbrev pub Fine : Bool → Entries → Forest → ℕ → ℕ → Type 0
Fine any e none i up = Unit {0}
Fine any e (elem a k r) i up =
    (nameless any e i ≡ false) × (second_root i up ≡ false) × Fine any e k (i + 1) i × Fine any e r (i + 1 + size k) up

module _ (any : Bool) (n : ℕ) (e : Entries) where
  one : {st to : CheckState} → accepted n st ≡ false → step_of any n e st ≡ moved to → Run any n e 1 st to
  one a q = move a q stay

  then : {m k : ℕ} {st mid to : CheckState} → Run any n e m st mid → Run any n e k mid to → Run any n e (m + k) st to
  then q r = moves_append CheckState (accepted n) (step_of any n e) q r

  cast : {m k : ℕ} {st su to tu : CheckState} → m ≡ k → st ≡ su → to ≡ tu → Run any n e m st to → Run any n e k su tu
  cast p q r x = rw (← p, ← q, ← r) x

  -- the entry after a row below q: none, or one that is below an element outside q
  pub record Next (j q : ℕ) : Type 0 where
    pub there : j ≤ n
    pub named : nameless any e j ≡ false
    pub some : 1 ≤ e.fa j
    pub low : e.fa j < q

  -- what comes after the row below q: no entry, or one whose parent was opened before q
  abbrev pub After : ℕ → ℕ → Type 0
  After j q = (n < j) ⊎ Next j q

  -- with q on top and its row done, the rule closes
  pub turns_to_close : (j q c : ℕ) → q < j → After j q → step_of any n e (at j q c) ≡ close_of e (at j q c)
  turns_to_close j q c l (inl h) = step_past any n e (at j q c) h
  turns_to_close j q c l (inr x) =
      step_close any n e (at j q c) x.there x.named (omega arith) (root_below j (e.fa j) (omega arith)) (omega arith)

  -- one element: opened, its row walked, closed
  pub visit : (i up c a p f k : ℕ) → Entry e i a p f up → p ≡ c + k + 1 → f ≡ i + 1 + k
      → nameless any e i ≡ false → second_root i up ≡ false → up < i → c < i → i + k ≤ n
      → After (i + 1 + k) i
      → Run any n e (2 * k) (at (i + 1) i c) (at (i + 1 + k) i (c + k))
      → Run any n e (2 + 2 * k) (at i up c) (at (i + 1 + k) up (c + k + 1))
  visit i up c a p f k y pe fe nm rt l cl fits aft kids =
      cast (omega arith) refl refl
      (then
      (one (accepted_next n (at i up c) (omega arith))
      (step_open any n e (at i up c) (omega arith) nm (omega arith) (ap (second_root i) y.fa_is ∙ rt) y.fa_is))
      (then kids
      (one (accepted_top n (at (i + 1 + k) i (c + k)) (omega arith))
      (turns_to_close (i + 1 + k) i (c + k) (omega arith) aft
      ∙ close_moved e (at (i + 1 + k) i (c + k)) (omega arith) (omega arith) (omega arith) (omega arith) (omega arith)
      ∙ ap (λ (u : ℕ). moved (at (i + 1 + k) u (c + k + 1))) y.fa_is))))

  -- what comes after the row of an element's children: its next sibling, or what comes after it
  seam : (i up c k : ℕ) (r : Forest) → Holds e r (i + 1 + k) up (c + k + 1) → Fine any e r (i + 1 + k) up → 1 ≤ up → up < i
      → i + suc (k + size r) ≤ n + 1 → After (i + suc (k + size r)) up → After (i + 1 + k) i
  seam i up c k none h g u l fits (inl x) = inl (omega arith)
  seam i up c k none h g u l fits (inr x) =
      subst (λ (j : ℕ). After j i) (omega arith) (inr (record { there = x.there; named = x.named; some = x.some; low = omega arith }))
  seam i up c k (elem b k' r') h g u l fits x =
      inr (record { there = omega arith; named = g.0; some = omega (arith, h.0.fa_is); low = omega (arith, h.0.fa_is) })

  -- a row below an element
  pub walk : (f : Forest) (i up c : ℕ) → Holds e f i up c → Fine any e f i up → 1 ≤ up → up < i → c < i → i + size f ≤ n + 1
      → After (i + size f) up
      → Run any n e (2 * size f) (at i up c) (at (i + size f) up (c + size f))
  walk none i up c h g u l cl fits aft = cast refl refl (at_eq (omega arith) refl (omega arith)) stay
  walk (elem a k r) i up c h g u l cl fits aft =
      cast (omega arith) refl (at_eq (omega arith) refl (omega arith))
      (then
      (visit i up c a _ _ (size k) h.0 refl refl g.0 g.1 l cl (omega arith) (seam i up c (size k) r h.2 g.3 u l fits aft)
      (walk k (i + 1) i c h.1 g.2 (omega arith) (omega arith) (omega arith) (omega arith) (seam i up c (size k) r h.2 g.3 u l fits aft)))
      (walk r (i + 1 + size k) up (c + size k + 1) h.2 g.3 u (omega arith) (omega arith) (omega arith)
      (subst (λ (j : ℕ). After j up) (omega arith) aft)))

  -- a whole tree, from the fresh state
  pub walk_tree : (a : ℕ) (k : Forest) → Holds e (elem a k none) 1 0 0 → Fine any e (elem a k none) 1 0 → size (elem a k none) ≡ n
      → Run any n e (2 * n) (at 1 0 0) (at (n + 1) 0 n)
  walk_tree a k h g z =
      cast (omega arith) refl (at_eq (omega arith) refl (omega arith))
      (visit 1 0 0 a _ _ (size k) h.0 refl refl g.0 g.1 (omega arith) (omega arith) (omega arith) (inl (omega arith))
      (walk k 2 1 0 h.1 g.2 (omega arith) (omega arith) (omega arith) (omega arith) (inl (omega arith))))
