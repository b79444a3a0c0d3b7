-- An accepted run has read a tree: the elements that it opened and closed, in the order of their entries.
--   accepted_is      an accepted state, taken apart
--   Read             the tree that an accepted run has read, and the run's 2×n steps
--   accepted_read    an accepted run from the fresh state has read a tree
use Rattle.std.specs.Prelude.{ℕ, zero, suc, ◌+◌, ◌*◌, ◌≤◌, ◌≡◌, refl, ◌⊎◌, Bool, true, false, ◌&&◌, eqb}
use Rattle.std.proofs.Common.{ap, ◌∙◌, sym, subst, inl, inr, arith, eqb-true}
use Rattle.std.proofs.lemmas.Bool.{false≢true}
use Rattle.turns.specs.Turn.{stay, move}
use Rattle.trees.specs.Tree.{Forest, none, elem, size}
use Rattle.trees.specs.Signature.{Entries}
use Rattle.trees.specs.Rows.{Entry, Holds}
use Rattle.checking.specs.declared.CheckState.{CheckState}
use Rattle.checking.specs.Rule.{at, step_of, accepted, nameless, second_root}
use Rattle.checking.proofs.Cases.{root_second}
use Rattle.checking.proofs.Inverse.{Opens, Closes, step_inverse}
use Rattle.checked.specs.Walked.{Run, Fine, at_eq}

-- an accepted state, taken apart
pub accepted_is : (n : ℕ) (st : CheckState) → accepted n st ≡ true → (st.next.0 ≡ n + 1) × (st.top.0 ≡ 0)
unfolding accepted
accepted_is n st = go (eqb st.next.0 (n + 1)) (eqb st.top.0 0) refl refl
  where
    go : (a b : Bool) → eqb st.next.0 (n + 1) ≡ a → eqb st.top.0 0 ≡ b → (a && b) ≡ true → (st.next.0 ≡ n + 1) × (st.top.0 ≡ 0)
    go true true p q h = (eqb-true _ _ p, eqb-true _ _ q)
    go true false p q h = absurd (false≢true h)
    go false b p q h = absurd (false≢true h)

module _ (any : Bool) (n : ℕ) (es : Entries) where
  -- what is left of a run where a row ends: nothing, or first the close of the element above
  pub data Rest : ℕ → CheckState → CheckState → Type 0 where
    ended : {st : CheckState} → Rest zero st st
    closing : {m : ℕ} {st mid to : CheckState} → Closes es st mid → Run any n es m mid to → Rest (suc m) st to

  -- a run of m steps that begins with a whole row
  pub record Parsed (m i up c : ℕ) (to : CheckState) : Type 0 where
    pub row : Forest
    pub holds : Holds es row i up c
    pub fine : Fine any es row i up
    pub left : ℕ
    pub count : m ≡ 2 * size row + left
    pub rest : Rest left (at (i + size row) up (c + size row)) to

  abbrev Parser : ℕ → Type 0
  Parser fuel = (m i up c : ℕ) (st to : CheckState) → m ≤ fuel → st ≡ at i up c → Run any n es m st to → accepted n to ≡ true → Parsed m i up c to

  -- an empty row
  nothing : (m i up c : ℕ) (to : CheckState) → Rest m (at i up c) to → Parsed m i up c to
  nothing m i up c to r = record {
    row = none;
    holds = tt;
    fine = tt;
    left = m;
    count = omega arith;
    rest = subst (λ (st : CheckState). Rest m st to) (at_eq (omega arith) refl (omega arith)) r;
  }

  -- an element, its row and the rest of the row
  joined : (m l i up c : ℕ) (k r : Forest) (left : ℕ) (to : CheckState)
      → Entry es i (es.name i) (c + size k + 1) (i + 1 + size k) up → nameless any es i ≡ false → second_root i up ≡ false
      → Holds es k (i + 1) i c → Fine any es k (i + 1) i → m ≡ 2 * size k + suc l
      → Holds es r (i + 1 + size k) up (c + size k + 1) → Fine any es r (i + 1 + size k) up → l ≡ 2 * size r + left
      → Rest left (at (i + 1 + size k + size r) up (c + size k + 1 + size r)) to
      → Parsed (suc m) i up c to
  joined m l i up c k r left to e nm rt hk gk mk hr gr mr rest = record {
    row = elem (es.name i) k r;
    holds = (e, hk, hr);
    fine = (nm, rt, gk, gr);
    left = left;
    count = omega arith;
    rest = subst (λ (st : CheckState). Rest left st to) (at_eq (omega arith) refl (omega arith)) rest;
  }

  -- after an element was opened and its row read, it is closed, and the rest of the row follows
  parse_kids : (fuel : ℕ) → Parser fuel → (m i up c : ℕ) (to : CheckState) → m ≤ fuel → {mid : CheckState} → Opens any n es (at i up c) mid
      → (k : Forest) → Holds es k (i + 1) i c → Fine any es k (i + 1) i → (left : ℕ) → m ≡ 2 * size k + left
      → (st : CheckState) → st ≡ at (i + 1 + size k) i (c + size k) → Rest left st to → accepted n to ≡ true → Parsed (suc m) i up c to
  parse_kids fuel ih m i up c to l o k hk gk left mk st e ended t =
      absurd (let z : i ≡ 0 = ap (λ (x : CheckState). x.top.0) (sym e) ∙ (accepted_is n st t).1 in omega (arith, o.low))
  parse_kids fuel ih m i up c to l o k hk gk left mk st e (closing {m = m'} {mid = mid'} cl r) t =
      let cl' = subst (λ (x : CheckState). Closes es x mid') e cl in
      let p = ih m' (i + 1 + size k) up (c + size k + 1) mid' to (omega arith) (cl'.is ∙ at_eq refl o.here refl) r t in
      joined m m' i up c k p.row p.left to
      (record { name_is = refl; post_is = cl'.post_is; ff_is = cl'.ff_is; fa_is = o.here })
      o.named (ap (second_root i) (sym o.here) ∙ o.one_root) hk gk mk p.holds p.fine p.count p.rest

  parse_more : (fuel : ℕ) → Parser fuel → (m i up c : ℕ) (mid to : CheckState) → m ≤ fuel
      → Opens any n es (at i up c) mid ⊎ Closes es (at i up c) mid → Run any n es m mid to → accepted n to ≡ true → Parsed (suc m) i up c to
  parse_more fuel ih m i up c mid to l (inr cl) r t = nothing (suc m) i up c to (closing cl r)
  parse_more fuel ih m i up c mid to l (inl o) r t =
      let p = ih m (i + 1) i c mid to l o.is r t in
      parse_kids fuel ih m i up c to l o p.row p.holds p.fine p.left p.count _ refl p.rest t

  parse_zero : Parser zero
  parse_zero m i up c st to l e stay t = nothing 0 i up c st (subst (λ (x : CheckState). Rest 0 x st) e ended)
  parse_zero m i up c st to l e (move a x r) t = absurd (omega arith)

  parse_next : (fuel : ℕ) → Parser fuel → Parser (suc fuel)
  parse_next fuel ih m i up c st to l e stay t = nothing 0 i up c st (subst (λ (x : CheckState). Rest 0 x st) e ended)
  parse_next fuel ih m i up c st to l e (move {k = m'} {mid = mid} a x r) t =
      parse_more fuel ih m' i up c mid to (omega arith)
      (step_inverse any n es (at i up c) mid (ap (step_of any n es) (sym e) ∙ x)) r t

  parse : (fuel : ℕ) → Parser fuel
  parse zero = parse_zero
  parse (suc fuel) = parse_next fuel (parse fuel)

  -- the tree that an accepted run has read
  pub record Read (m : ℕ) (to : CheckState) : Type 0 where
    pub label : ℕ
    pub kids : Forest
    pub holds : Holds es (elem label kids none) 1 0 0
    pub fine : Fine any es (elem label kids none) 1 0
    pub whole : size (elem label kids none) ≡ n
    pub count : m ≡ 2 * n
    pub last : to ≡ at (n + 1) 0 n

  one_root : (m : ℕ) (to : CheckState) (f : Forest) → 1 ≤ n → Holds es f 1 0 0 → Fine any es f 1 0 → (left : ℕ) → m ≡ 2 * size f + left
      → (st : CheckState) → st ≡ at (1 + size f) 0 (0 + size f) → Rest left st to → accepted n to ≡ true → Read m to
  one_root m to f h hf gf left mf st e (closing cl r) t = absurd (cl.some_open (ap (λ (x : CheckState). x.top.0) e))
  one_root m to none h hf gf left mf st e ended t =
      absurd (let z : 1 + 0 ≡ n + 1 = ap (λ (x : CheckState). x.next.0) (sym e) ∙ (accepted_is n st t).0 in omega arith)
  one_root m to (elem a k none) h hf gf left mf st e ended t =
      let z : 1 + suc (size k + 0) ≡ n + 1 = ap (λ (x : CheckState). x.next.0) (sym e) ∙ (accepted_is n st t).0 in
      record { label = a; kids = k; holds = hf; fine = gf; whole = omega arith; count = omega arith; last = e ∙ at_eq (omega arith) refl (omega arith) }
  one_root m to (elem a k (elem b k' r)) h hf gf left mf st e ended t =
      absurd (false≢true (sym gf.3.1 ∙ root_second (1 + 1 + size k) 0 (omega arith) refl))

  pub accepted_read : (m : ℕ) (to : CheckState) → 1 ≤ n → Run any n es m (at 1 0 0) to → accepted n to ≡ true → Read m to
  accepted_read m to h r t =
      let p = parse m m 1 0 0 (at 1 0 0) to (omega arith) refl r t in
      one_root m to p.row h p.holds p.fine p.left p.count _ refl p.rest t
