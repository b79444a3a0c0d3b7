-- The rule of preparing on a tree: the steps from an entry on, and what a step keeps.
--   Finished t table   the steps of the rule from entry t on, and the table that they leave
--   prep_moves         on a tree there are just t of them, and they leave a right table
--   Ready n st         what a public turn asks of its state and table
--   ready_kept         every step keeps it
--   fault_room         a start call that worked was lent 2×n numbers
use Rattle.std.specs.Prelude.{ℕ, zero, suc, ◌-◌, ◌*◌, ◌≤◌, ◌≡◌, refl, Bool, ◌&&◌, ◌||◌, List, eqb, leb, ltb, length}
use Rattle.std.proofs.Common.{ap, ◌∙◌, subst, arith, ne_eqb, lt-ltb, le-ltb, leb-true}
use Rattle.std.proofs.Math.Bool.{true, false}
use Rattle.std.proofs.Math.Decide.{dec_le}
use Rattle.std.proofs.lemmas.Bool.{lt-leb}
use Rattle.turns.specs.Pick.{pick}
use Rattle.turns.specs.Turn.{Next, moved, answered, refused, Moves, stay, move, Step, on, found}
use Rattle.trees.specs.Signature.{Entries}
use Rattle.trees.specs.Facts.{Facts}
use Rattle.preparing.specs.Preparing.{Preparing, prepared, bad_parent, step_table, prep_step}
use Rattle.preparing.specs.PrepTurn.{start_fault}
use Rattle.listed.specs.Tables.{Parented, step_length}
use Rattle.listed.specs.Rightly.{Right}
use Rattle.listed.specs.Keeping.{step_right}

-- ---- the rule

parent_fine : (e : Entries) (t : ℕ) → Parented e t → bad_parent e t ≡ false
unfolding bad_parent
parent_fine e t p = by (dec_le t 1)
  where
    by : Dec (t ≤ 1) → (ltb 1 t && (eqb (e.fa t) 0 || leb t (e.fa t))) ≡ false
    by (yes l) = rw (le-ltb 1 t l)
    by (no l) =
        let a = p.low (omega arith) in
        let b = p.high (omega arith) in
        rw (lt-ltb 1 t (omega arith), ne_eqb (e.fa t) 0 (λ z. omega arith), lt-leb t (e.fa t) b)

step_moves : (e w : Entries) (m t : ℕ) (table : List ℕ) → Parented e t
    → prep_step e w m (record { next = t; table = table }) ≡ moved (record { next = t - 1; table = step_table e w m table t })
unfolding prep_step
step_moves e w m t table p = rw (parent_fine e t p)

module _ (n m : ℕ) (e w : Entries) (tree : Facts n e) where
  parented : (t : ℕ) → 1 ≤ t → t ≤ n → Parented e t
  parented t a b = record { low = λ l. tree.inner t l b; high = λ l. (tree.each t a b).fa_high }

  -- the steps from entry t on, and the table that they leave
  pub record Finished (t : ℕ) (table : List ℕ) : Type 0 where
    pub left : List ℕ
    pub moves : Moves Preparing prepared (prep_step e w m) t (record { next = t; table = table }) (record { next = 0; table = left })
    pub right : Right n m e w left 0
    pub long : length left ≡ length table

  pub prep_moves : (t : ℕ) (table : List ℕ) → t ≤ n → 2 * n ≤ length table → Right n m e w table t → Finished t table
  prep_moves zero table a l ok = record { left = table; moves = stay; right = ok; long = refl }
  prep_moves (suc t) table a l ok =
      let p = parented (suc t) (omega arith) a in
      let after = step_table e w m table (suc t) in
      let k : length after ≡ length table = step_length e w m table (suc t) in
      let z : suc t - 1 ≡ t = omega arith in
      let r : Right n m e w after t = subst (Right n m e w after) z
      (step_right n m e w tree table (suc t) (omega arith) a ok (omega arith) p) in
      let f = prep_moves t after (omega arith) (omega arith) r in
      let q : prep_step e w m (record { next = suc t; table = table }) ≡ moved (record { next = t; table = after })
      = step_moves e w m (suc t) table p ∙ ap (λ (x : ℕ). moved (record { next = x; table = after })) z in
      record { left = f.left; moves = move (ne_eqb (suc t) 0 (λ y. omega arith)) q f.moves; right = f.right; long = f.long ∙ k }

-- ---- what a public turn asks of its state

-- "any t over n is out of range"; a table of 2×n numbers or more
pub record Ready (n : ℕ) (st : Preparing) : Type 0 where
  pub next_high : st.next ≤ n
  pub room : 2 * n ≤ length st.table

module _ (n m : ℕ) (e w : Entries) where
  -- what a step comes to
  abbrev Stepped : Preparing → Next Preparing → Type 0
  Stepped st (moved to) = (to.next ≡ st.next - 1) × (to.table ≡ step_table e w m st.table st.next)
  Stepped st (answered to) = ⊥
  Stepped st (refused number entry) = Unit

  stepped : (st : Preparing) → Stepped st (prep_step e w m st)
  unfolding prep_step
  stepped st = by (bad_parent e st.next)
    where
      by : (b : Bool)
          → Stepped st (pick b (refused 11 0) (moved (record { next = st.next - 1; table = step_table e w m st.table st.next })))
      by true = tt
      by false = (refl, refl)

  pub ready_kept : (a b : Preparing) → Ready n a → Step Preparing prepared (prep_step e w m) a b → Ready n b
  ready_kept a b i (on h f) =
      let s = subst (Stepped a) f (stepped a) in
      record {
        next_high = omega (arith, s.0, i.next_high);
        room = omega (arith, i.room, ap length s.1, step_length e w m a.table a.next);
      }
  ready_kept a b i (found h f) = absurd (subst (Stepped a) f (stepped a))

-- ---- the start call

pub fault_room : (k room : ℕ) → start_fault k room ≡ 0 → 2 * k ≤ room
unfolding start_fault
fault_room k room h = by (eqb k 0) (leb k 4096) (leb (2 * k) room) refl h
  where
    by : (a b c : Bool) → leb (2 * k) room ≡ c → ◌≡◌ {A = ℕ} (pick a 1 (pick b (pick c 0 10) 7)) 0 → 2 * k ≤ room
    by true b c q z = absurd (omega arith)
    by false false c q z = absurd (omega arith)
    by false true false q z = absurd (omega arith)
    by false true true q z = leb-true (2 * k) room q
