-- Two results that a promise allows are equal.
--   level_apart, place_apart    the numbers of an answer tell it apart from every other
--   one_level, one_place, one_block, one_axis   one result for each public call
--   refused_writes_nothing      an axis call that refuses leaves the room as it was
--   block_at_place, refused_block_empty, told_block_some   block is the part that block_place tells; empty exactly if that refuses
use Rattle.std.specs.Prelude.{ℕ, ◌≤◌, List, [], Bool, length, take, drop, leb, Ok, Err}
use Rattle.std.proofs.Math.Path.{◌≡◌, refl, ap}
use Rattle.std.proofs.Common.{◌∙◌, sym, arith, length-drop, length-take-le}
use Rattle.std.proofs.Math.Logic.{⊎_elim}
use Rattle.std.proofs.Math.Bool.{true, false}
use Rattle.std.proofs.Math.Dec.{eqb}
use Rattle.turns.specs.Pick.{pick}
use Rattle.trees.specs.Signature.{entries}
use Rattle.terms.specs.declared.Kind.{Kind}
use Rattle.terms.specs.declared.Refusal.{Refusal}
use Rattle.terms.specs.Stops.{Answered, Written}
use Rattle.checking.specs.Whole.{whole_of, WholePromise}
use Rattle.checked.specs.Apart.{refusal_same, answered_apart}
use Rattle.blocks.specs.Checked.{after_check, is_rank}
use Rattle.blocks.specs.Level.{Leveled, level_told, LevelPromise, LevelAnswer}
use Rattle.blocks.specs.Block.{Placed, place_told, place_refused, place_within, place_answer, PlacePromise, part_at, BlockPromise, PlaceAnswer}
use Rattle.terms.specs.Room.{room_for, refused_left, written_left}
use Rattle.marks.specs.Axis.{axis_answer, axis_within, arguments_fine, answer_in, AxisPromise}
use Rattle.blocks.proofs.Calls.{rank_inverse, ready_of, after_accepted, accepted_or_not, place_yes, place_no, place_inside}

-- ---- the numbers tell answers apart

pub level_apart : (a b : LevelAnswer) → level_told a ≡ level_told b → a ≡ b
level_apart (Ok l) (Ok m) q = ap (λ (x : ℕ). Ok x) (ap (λ (t : Leveled). t.level) q)
level_apart (Ok l) (Err b) q = let z : ◌≡◌ {A = ℕ} 0 1 = ap (λ (t : Leveled). t.refused) q in absurd (omega arith)
level_apart (Err a) (Ok m) q = let z : ◌≡◌ {A = ℕ} 1 0 = ap (λ (t : Leveled). t.refused) q in absurd (omega arith)
level_apart (Err a) (Err b) q =
    ap (λ (r : Refusal). Err r) (refusal_same a b (ap (λ (t : Leveled). t.number) q) (ap (λ (t : Leveled). t.entry) q))

pub place_apart : (a b : PlaceAnswer) → place_told a ≡ place_told b → a ≡ b
place_apart (Ok (f, c)) (Ok (g, d)) q =
    let x = ap (λ (t : Placed). t.first) q in
    let y = ap (λ (t : Placed). t.count) q in
    λ i. Ok ((x i), (y i))
place_apart (Ok (f, c)) (Err b) q = let z : ◌≡◌ {A = ℕ} 0 1 = ap (λ (t : Placed). t.refused) q in absurd (omega arith)
place_apart (Err a) (Ok (g, d)) q = let z : ◌≡◌ {A = ℕ} 1 0 = ap (λ (t : Placed). t.refused) q in absurd (omega arith)
place_apart (Err a) (Err b) q =
    ap (λ (r : Refusal). Err r) (refusal_same a b (ap (λ (t : Placed). t.number) q) (ap (λ (t : Placed). t.entry) q))

-- ---- one result

pub one_level : (s : List ℕ) (i : ℕ) (r q : LevelAnswer) → LevelPromise s i r → LevelPromise s i q → r ≡ q
one_level s i r q a b = level_apart r q (a ∙ sym b)

pub one_place : (s : List ℕ) (i : ℕ) (r q : PlaceAnswer) → PlacePromise s i r → PlacePromise s i q → r ≡ q
one_place s i r q a b = place_apart r q (a ∙ sym b)

pub one_block : (s : List ℕ) (i : ℕ) (r q : List ℕ) → BlockPromise s i r → BlockPromise s i q → r ≡ q
one_block s i r q a b = a ∙ sym b

module _ (s contexts : List ℕ) (axis name p : ℕ) (room : List ℕ) where
  pub one_axis : (r q : Written) (x y : List ℕ) → AxisPromise s contexts axis name p room r x → AxisPromise s contexts axis name p room q y
      → (r ≡ q) × (x ≡ y)
  one_axis r q x y a b = (answered_apart r q (a.told ∙ sym b.told), a.left ∙ sym b.left)

  -- ---- a refusal writes nothing

  within_kept : (axis_within s contexts axis name p room).answer.refused ≡ 1 → (axis_within s contexts axis name p room).room ≡ room
  unfolding axis_within room_for
  within_kept = go (arguments_fine axis (entries s) contexts) (leb (length (answer_in s contexts axis name p)) (length room))
    where
      go : (a b : Bool)
          → ◌≡◌ {A = ℕ} (pick a (pick b (written_left room (answer_in s contexts axis name p)) (refused_left room 10 0)) (refused_left room 8 0)).answer.refused 1
          → (pick a (pick b (written_left room (answer_in s contexts axis name p)) (refused_left room 10 0)) (refused_left room 8 0)).room ≡ room
      go true true h = absurd (omega arith)
      go true false h = refl
      go false b h = refl

  axis_kept : (axis_answer s contexts axis name p room).answer.refused ≡ 1 → (axis_answer s contexts axis name p room).room ≡ room
  unfolding after_check
  axis_kept = go (eqb (whole_of Kind.Data s).reason 1)
    where
      go : (a : Bool)
          → (pick a (axis_within s contexts axis name p room) (refused_left room (whole_of Kind.Data s).number (whole_of Kind.Data s).entry)).answer.refused ≡ 1
          → (pick a (axis_within s contexts axis name p room) (refused_left room (whole_of Kind.Data s).number (whole_of Kind.Data s).entry)).room ≡ room
      go true h = within_kept h
      go false h = refl

  pub refused_writes_nothing : (r : Refusal) (x : List ℕ) → AxisPromise s contexts axis name p room (Err r) x → x ≡ room
  refused_writes_nothing r x a = a.left ∙ axis_kept (sym (ap (λ (t : Answered). t.refused) a.told))

-- ---- block and block_place

module _ (s : List ℕ) (i : ℕ) where
  -- the part at the place that is told
  pub block_at_place : (first count : ℕ) (b : List ℕ) → PlacePromise s i (Ok (first, count)) → BlockPromise s i b
      → b ≡ take count (drop first s)
  block_at_place first count b p q = q ∙ ap (part_at s) (sym p)

  pub refused_block_empty : (r : Refusal) (b : List ℕ) → PlacePromise s i (Err r) → BlockPromise s i b → b ≡ []
  refused_block_empty r b p q = q ∙ ap (part_at s) (sym p)

  -- a block that is told has at least one entry
  some_count : (x : Placed) → x ≡ place_answer s i → x.refused ≡ 0 → 4 ≤ x.count
  unfolding after_check
  some_count x e z =
      ⊎_elim
      (λ (a : WholePromise Kind.Data s (Ok tt)). inner a (is_rank (entries s) i) refl
      (e ∙ after_accepted s place_refused (place_within s i) (Ok tt) a refl))
      (λ (n : eqb (whole_of Kind.Data s).reason 1 ≡ false).
      let q : place_answer s i ≡ place_refused (whole_of Kind.Data s).number (whole_of Kind.Data s).entry = simp n in
      absurd (omega (arith, ap (λ (t : Placed). t.refused) (e ∙ q))))
      (accepted_or_not s)
    where
      inner : WholePromise Kind.Data s (Ok tt) → (b : Bool) → is_rank (entries s) i ≡ b → x ≡ place_within s i → 4 ≤ x.count
      inner a true h q =
          let k = rank_inverse (entries s) i h in
          let f = (ready_of s (Ok tt) a refl).facts.each i k.low k.high in
          omega (arith, ap (λ (t : Placed). t.count) (q ∙ place_yes s i h), f.ff_low)
      inner a false h q = absurd (omega (arith, ap (λ (t : Placed). t.refused) (q ∙ place_no s i h)))

  pub told_block_some : (first count : ℕ) (b : List ℕ) → PlacePromise s i (Ok (first, count)) → BlockPromise s i b → 4 ≤ length b
  told_block_some first count b p q =
      let w = place_inside s i in
      let f = ap (λ (t : Placed). t.first) p in
      let c = ap (λ (t : Placed). t.count) p in
      omega (
        arith,
        ap length (block_at_place first count b p q),
        length-take-le count (drop first s) (omega (arith, length-drop first s)),
        some_count (place_told (Ok (first, count))) p refl,
      )
