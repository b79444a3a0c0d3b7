-- What the calls have in common: the whole check first, then the arguments.
--   ready_of, ready   what an accepted signature gives; the same of one that the code carries with its number of entries
--   after_accepted, after_refused   which case of after_check holds
--   rank_…            whether a rank is one of an entry
--   level_…, place_…  which case of an answer holds
--   part_…            the part that a place tells
use Rattle.std.specs.Prelude.{Ok, Err}
use Prim.Native.Nat.{ℕ, ◌+◌, ◌*◌, ◌≤◌}
use native.Mathlib.Omega.{arith}
use mathlib.Core.Path.{◌≡◌, refl, ap, ◌∙◌, sym, subst}
use mathlib.Core.List.{List, []}
use mathlib.Core.Logic.{◌⊎◌, inl, inr, ⊎_elim}
use mathlib.Core.Bool.{Bool, true, false, ◌&&◌, false≢true}
use lib.ListN.{length, take, drop}
use lib.Dec.{leb, eqb}
use borrow.Author.Tests.{le-leb, leb-true}
use Rattle.turns.specs.Pick.{pick}
use Rattle.trees.specs.Tree.{whole}
use Rattle.trees.specs.Signature.{entries_of, width, entries}
use Rattle.trees.specs.Listed.{signature_length}
use Rattle.terms.specs.declared.Kind.{Kind}
use Rattle.terms.specs.declared.Refusal.{Refusal}
use Rattle.turns.specs.Turn.{Halt}
use Rattle.terms.specs.Kinds.{most}
use Rattle.checking.specs.Rule.{fresh}
use Rattle.checking.specs.Turn.{turn_of}
use Rattle.terms.specs.Stops.{Told, verdict_told, halt_told, Verdict}
use Rattle.checking.specs.Whole.{whole_of, WholePromise}
use Rattle.checked.specs.Wholly.{accepted_tree}
use Rattle.xpath.specs.Axes.{level_of}
use Rattle.blocks.specs.Checked.{after_check, is_rank, Ready}
use Rattle.blocks.specs.Level.{level_worked, level_refused, level_within}
use Rattle.blocks.specs.Block.{Placed, place_told, place_refused, block_place, place_within, place_answer, PlacePromise, part_at, PlaceAnswer}

pub ready_of : (s : List ℕ) (v : Verdict) → WholePromise Kind.Data s v → v ≡ Ok tt → Ready s (entries s)
ready_of s v p e =
    let x = accepted_tree Kind.Data s (subst (WholePromise Kind.Data s) e p) in
    record {
      sized = omega (arith, ap length x.of.is, signature_length (whole x.tree) 1 0 0, x.of.count);
      small = x.small;
      facts = x.of.facts;
    }

pub ready : (s : List ℕ) (n : ℕ) → WholePromise Kind.Data s (Ok tt) → n ≡ entries s → Ready s n
ready s n p q = subst (Ready s) (sym q) (ready_of s (Ok tt) p refl)

-- ---- after the check

module _ {A : Type 0} (s : List ℕ) (refuse : ℕ → ℕ → A) (a : A) where
  pub after_accepted : (v : Verdict) → WholePromise Kind.Data s v → v ≡ Ok tt → after_check s refuse a ≡ a
  unfolding after_check
  after_accepted v p e =
      ap (λ (t : Told). pick (eqb t.reason 1) a (refuse t.number t.entry)) (sym p ∙ ap verdict_told e)

  pub after_refused : (v : Verdict) (r : Refusal) → WholePromise Kind.Data s v → v ≡ Err r
      → after_check s refuse a ≡ refuse r.number r.entry.0
  unfolding after_check
  after_refused v r p e =
      ap (λ (t : Told). pick (eqb t.reason 1) a (refuse t.number t.entry)) (sym p ∙ ap verdict_told e)

-- ---- ranks

module _ (n i : ℕ) where
  pub rank_yes : 1 ≤ i → i ≤ n → is_rank n i ≡ true
  unfolding is_rank
  rank_yes h g = simp (le-leb _ _ h, le-leb _ _ g)

  -- a rank from 1 to n
  pub record Ranked : Type 0 where
    pub low : 1 ≤ i
    pub high : i ≤ n

  pub rank_inverse : is_rank n i ≡ true → Ranked
  unfolding is_rank
  rank_inverse = go (leb 1 i) (leb i n) refl refl
    where
      go : (a b : Bool) → leb 1 i ≡ a → leb i n ≡ b → (a && b) ≡ true → Ranked
      go true true p q h = record { low = leb-true _ _ p; high = leb-true _ _ q }
      go true false p q h = absurd (false≢true h)
      go false b p q h = absurd (false≢true h)

-- ---- the answers

module _ (s : List ℕ) (i : ℕ) where
  pub level_yes : is_rank (entries s) i ≡ true
      → level_within s i ≡ level_worked (level_of (entries s) (entries_of width s).fa i)
  unfolding level_within
  level_yes h = simp h

  pub level_no : is_rank (entries s) i ≡ false → level_within s i ≡ level_refused 8 0
  unfolding level_within
  level_no h = simp h

  pub place_yes : is_rank (entries s) i ≡ true → place_within s i ≡ block_place s i
  unfolding place_within
  place_yes h = simp h

  pub place_no : is_rank (entries s) i ≡ false → place_within s i ≡ place_refused 8 0
  unfolding place_within
  place_no h = simp h

-- ---- where a block lies

-- the whole check accepts, or its stop is no end
accepted_or : (h : Halt) → (verdict_told (Ok tt) ≡ halt_told h) ⊎ (eqb (halt_told h).reason 1 ≡ false)
accepted_or Halt.answer = inr refl
accepted_or Halt.end = inl refl
accepted_or Halt.budget = inr refl
accepted_or (Halt.refusal number entry) = inr refl

pub accepted_or_not : (s : List ℕ) → WholePromise Kind.Data s (Ok tt) ⊎ (eqb (whole_of Kind.Data s).reason 1 ≡ false)
accepted_or_not s = accepted_or (turn_of Kind.Data s (2 * most Kind.Data + 1) fresh).halt

module _ (s : List ℕ) (i : ℕ) where
  -- the block ends within the numbers
  block_inside : Ready s (entries s) → Ranked (entries s) i → (block_place s i).first + (block_place s i).count ≤ length s
  block_inside r k = let e = r.facts.each i k.low k.high in omega (arith, r.sized, e.ff_low, e.ff_high, k.low)

  place_ends : (b : Bool) → is_rank (entries s) i ≡ b → Ready s (entries s) → (place_within s i).first + (place_within s i).count ≤ length s
  place_ends true h r = rw (place_yes s i h) (block_inside r (rank_inverse (entries s) i h))
  place_ends false h r = rw (place_no s i h) (omega arith)

  pub place_inside : (place_answer s i).first + (place_answer s i).count ≤ length s
  unfolding after_check
  place_inside =
      ⊎_elim
      (λ (p : WholePromise Kind.Data s (Ok tt)).
      rw (after_accepted s place_refused (place_within s i) (Ok tt) p refl)
      (place_ends (is_rank (entries s) i) refl (ready_of s (Ok tt) p refl)))
      (λ (n : eqb (whole_of Kind.Data s).reason 1 ≡ false). simp n (omega arith))
      (accepted_or_not s)

  pub part_of : (r : PlaceAnswer) (first count : ℕ) → PlacePromise s i r → r ≡ Ok (first, count)
      → take count (drop first s) ≡ part_at s (place_answer s i)
  part_of r first count p e = ap (part_at s) (ap place_told (sym e) ∙ p)

  pub part_inside : (r : PlaceAnswer) (first count : ℕ) → PlacePromise s i r → r ≡ Ok (first, count) → first + count ≤ length s
  part_inside r first count p e =
      let q = ap place_told (sym e) ∙ p in
      omega (arith, place_inside, ap (λ (x : Placed). x.first) q, ap (λ (x : Placed). x.count) q)

  pub part_none : (r : PlaceAnswer) (why : Refusal) → PlacePromise s i r → r ≡ Err why → [] ≡ part_at s (place_answer s i)
  part_none r why p e = ap (part_at s) (ap place_told (sym e) ∙ p)
