-- Demand 2 of the level and block calls, over any call: ours meets it, and document 01's wrong programs do not, with Ten as witness.
--   Element s i              a tree yields the list, and i is the rank of an element of it
--   DemandLevel, DemandPlace, DemandBlock   for an element: the tree's level; the place of it and all below it; that part. For nothing else an answer
--   ours_…                   whatever keeps our promise meets it
--   refusing_…, fixed_…, idle_…   refusing everything; one fixed answer; handing back what was given
--   trusting_…, outside_…    answering on the entries of two roots; answering for a rank of 0 or over n
--   ten_…                    the theorems with a premise, used once on Ten
use Rattle.std.specs.Prelude.{ℕ, ◌+◌, ◌*◌, ◌-◌, ◌≤◌, ◌≡◌, refl, Bool, true, ◌⊎◌, List, [], length, take, drop, Ok, Err}
use Rattle.std.proofs.Common.{ap, ◌∙◌, sym, arith}
use Rattle.std.proofs.Math.Bool.{false}
use Rattle.std.proofs.Math.Logic.{⊎_elim}
use Rattle.std.proofs.Math.Dec.{eqb}
use Rattle.turns.specs.Turn.{run}
use Rattle.trees.specs.Tree.{whole, size}
use Rattle.trees.specs.Nodes.{Node, here, under, Ancestor, ancestors, level_of}
use Rattle.trees.specs.Ranks.{pre, held_by}
use Rattle.trees.specs.NodeRanks.{pre_low, pre_high, node_at}
use Rattle.trees.specs.Signature.{cell, entries}
use Rattle.terms.specs.declared.Kind.{Kind}
use Rattle.terms.specs.declared.Refusal.{Refusal}
use Rattle.checking.specs.Rule.{step_of, close_of, accepted, nameless, second_root, in_range}
use Rattle.checking.specs.Turn.{turn_within}
use Rattle.terms.specs.Length.{length_fault}
use Rattle.checking.specs.Whole.{whole_of, WholePromise}
use Rattle.checked.specs.Yields.{Words, Yields}
use Rattle.checked.specs.Accepted.{tree_of}
use Rattle.checked.specs.Wholly.{whole_exactly}
use Rattle.checked.specs.Menus.{ten, two_roots}
use Rattle.checked.specs.ShutOut.{small, small_words, two_none}
use Rattle.xpath.specs.Select.{up_to}
use Rattle.xpath.specs.Axes.{met, parent_of, on_axis}
use Rattle.xpath.specs.Axes as Axes
use Rattle.xpath.specs.OnNodes.{Lists}
use Rattle.blocks.specs.Checked.{after_check, is_rank}
use Rattle.blocks.specs.Level.{level_told, level_refused, level_within, LevelPromise, LevelAnswer}
use Rattle.blocks.specs.Block.{place_told, place_refused, place_within, PlacePromise, part_at, BlockPromise, PlaceAnswer}
use Rattle.blocks.proofs.Calls.{after_accepted, accepted_or_not, rank_inverse, level_no, place_no}
use Rattle.axes_told.specs.OneResult.{level_apart, place_apart}
use Rattle.axes_told.specs.Xpath.{EntryIn, level_is_ancestors, block_is_subtree}
use Rattle.axes_told.specs.Pinned.{level_is_level_of, place_is_subtree, block_is_part}
use Rattle.worked.specs.Instances.{ten_tree, ten_yields, ten_words}

-- ---- the demands

-- "an entry rank" that is not "0 or over n": of an element of the tree that yields the list
pub record Element (s : List ℕ) (i : ℕ) : Type 0 where
  pub yields : Yields Kind.Data s
  pub element : Node (whole yields.tree)
  pub rank : pre element ≡ i

-- the call gives each element of a tree "the number of its ancestors", and refuses all else
pub record DemandLevel (call : List ℕ → ℕ → LevelAnswer) : Type 0 where
  pub answers : (s : List ℕ) (w : Words s) (y : Yields Kind.Data s) (x : Node (whole y.tree)) → call s (pre x) ≡ Ok (level_of x)
  pub other : (s : List ℕ) → Words s → (i : ℕ) → (Element s i → ⊥) → (why : Refusal) × (call s i ≡ Err why)

-- the call gives the place of the numbers of each element of a tree and all below it, and refuses all else
pub record DemandPlace (call : List ℕ → ℕ → PlaceAnswer) : Type 0 where
  pub answers : (s : List ℕ) (w : Words s) (y : Yields Kind.Data s) (x : Node (whole y.tree))
      → call s (pre x) ≡ Ok ((4 * (pre x - 1)), (4 * (1 + held_by x)))
  pub other : (s : List ℕ) → Words s → (i : ℕ) → (Element s i → ⊥) → (why : Refusal) × (call s i ≡ Err why)

-- the call "hands back that part of the lent numbers"; "When it refuses, the part is empty."
pub record DemandBlock (call : List ℕ → ℕ → List ℕ) : Type 0 where
  pub answers : (s : List ℕ) (w : Words s) (y : Yields Kind.Data s) (x : Node (whole y.tree)) → call s (pre x) ≡ take (4 * (1 + held_by x)) (drop (4 * (pre x - 1)) s)
  pub other : (s : List ℕ) → Words s → (i : ℕ) → (Element s i → ⊥) → call s i ≡ []

-- ---- ours

module _ (s : List ℕ) (w : Words s) (i : ℕ) (n : Element s i → ⊥) where
  -- an accepted list has an element of each rank from 1 to its number of entries
  no_rank : WholePromise Kind.Data s (Ok tt) → is_rank (entries s) i ≡ true → ⊥
  no_rank p q =
      let y = (whole_exactly Kind.Data s w (Ok tt) p).sound refl in
      let k = rank_inverse (entries s) i q in
      let x = node_at {f = whole y.tree} i k.low (omega (arith, k.high, (tree_of s y.tree y.is).count)) in
      n (record { yields = y; element = x.0; rank = x.1 })

  -- so what the check or the rank refuses is refused
  refused_other : {A : Type 0} (refuse : ℕ → ℕ → A) (a : A) → (is_rank (entries s) i ≡ false → a ≡ refuse 8 0)
      → (number : ℕ) × (entry : ℕ) × (after_check s refuse a ≡ refuse number entry)
  unfolding after_check
  refused_other {A} refuse a h = ⊎_elim accepts refuses (accepted_or_not s)
    where
      refuses : eqb (whole_of Kind.Data s).reason 1 ≡ false → (number : ℕ) × (entry : ℕ) × (after_check s refuse a ≡ refuse number entry)
      refuses q = ((whole_of Kind.Data s).number, (whole_of Kind.Data s).entry, simp q)

      accepts : WholePromise Kind.Data s (Ok tt) → (number : ℕ) × (entry : ℕ) × (after_check s refuse a ≡ refuse number entry)
      accepts p = go (is_rank (entries s) i) refl
        where
          go : (b : Bool) → is_rank (entries s) i ≡ b → (number : ℕ) × (entry : ℕ) × (after_check s refuse a ≡ refuse number entry)
          go true q = absurd (no_rank p q)
          go false q = (8, 0, after_accepted s refuse a (Ok tt) p refl ∙ h q)

  other_level : (r : LevelAnswer) → LevelPromise s i r → (why : Refusal) × (r ≡ Err why)
  other_level r p =
      let q = refused_other level_refused (level_within s i) (level_no s i) in
      let why : Refusal = record { number = q.0; entry = record { 0 = q.1 } } in (why, level_apart r (Err why) (p ∙ q.2))

  other_place : (r : PlaceAnswer) → PlacePromise s i r → (why : Refusal) × (r ≡ Err why)
  other_place r p =
      let q = refused_other place_refused (place_within s i) (place_no s i) in
      let why : Refusal = record { number = q.0; entry = record { 0 = q.1 } } in (why, place_apart r (Err why) (p ∙ q.2))

  other_block : (b : List ℕ) → BlockPromise s i b → b ≡ []
  other_block b p = p ∙ ap (part_at s) (refused_other place_refused (place_within s i) (place_no s i)).2

pub ours_level : (call : List ℕ → ℕ → LevelAnswer) → ((s : List ℕ) (i : ℕ) → LevelPromise s i (call s i)) → DemandLevel call
ours_level call h = record {
  answers = λ s w y x. level_is_level_of s w y x (call s (pre x)) (h s (pre x));
  other = λ s w i n. other_level s w i n (call s i) (h s i);
}

pub ours_place : (call : List ℕ → ℕ → PlaceAnswer) → ((s : List ℕ) (i : ℕ) → PlacePromise s i (call s i)) → DemandPlace call
ours_place call h = record {
  answers = λ s w y x. place_is_subtree s w y x (call s (pre x)) (h s (pre x));
  other = λ s w i n. other_place s w i n (call s i) (h s i);
}

pub ours_block : (call : List ℕ → ℕ → List ℕ) → ((s : List ℕ) (i : ℕ) → BlockPromise s i (call s i)) → DemandBlock call
ours_block call h = record {
  answers = λ s w y x. block_is_part s w y x (call s (pre x)) (h s (pre x));
  other = λ s w i n. other_block s w i n (call s i) (h s i);
}

-- ---- what Ten's root and its element 2 ask for

abbrev root : Node (whole ten_tree)
root = here

abbrev two : Node (whole ten_tree)
two = under here

root_level : level_of root ≡ 0
unfolding level_of ancestors
root_level = refl

two_level : level_of two ≡ 1
unfolding level_of ancestors
two_level = refl

root_pre : pre root ≡ 1
unfolding pre
root_pre = refl

two_pre : pre two ≡ 2
unfolding pre
two_pre = refl

root_held : held_by root ≡ 9
unfolding held_by
root_held = refl

two_held : held_by two ≡ 4
unfolding held_by
two_held = refl

-- ---- the wrong programs

level_number : (a : LevelAnswer) (l : ℕ) → a ≡ Ok l → ((level_told a).refused ≡ 0) × ((level_told a).level ≡ l)
level_number a l e = (ap (λ (x : LevelAnswer). (level_told x).refused) e, ap (λ (x : LevelAnswer). (level_told x).level) e)

pub refusing_level : (why : List ℕ → ℕ → Refusal) → DemandLevel (λ s i. Err (why s i)) → ⊥
refusing_level why d =
    let q = level_number (Err (why ten (pre root))) (level_of root) (d.answers ten ten_words ten_yields root) in
    let z : ◌≡◌ {A = ℕ} 1 0 = q.0 in omega arith

pub fixed_level : (a : LevelAnswer) → DemandLevel (λ s i. a) → ⊥
fixed_level a d =
    let p = (level_number a (level_of root) (d.answers ten ten_words ten_yields root)).1 in
    let q = (level_number a (level_of two) (d.answers ten ten_words ten_yields two)).1 in
    omega (arith, p, q, root_level, two_level)

pub idle_level : DemandLevel (λ s i. Ok i) → ⊥
idle_level d =
    let q = (level_number (Ok (pre root)) (level_of root) (d.answers ten ten_words ten_yields root)).1 in
    omega (arith, q, root_level, root_pre)

place_number : (a : PlaceAnswer) (f c : ℕ) → a ≡ Ok (f, c) → ((place_told a).refused ≡ 0) × ((place_told a).count ≡ c)
place_number a f c e = (ap (λ (x : PlaceAnswer). (place_told x).refused) e, ap (λ (x : PlaceAnswer). (place_told x).count) e)

pub refusing_place : (why : List ℕ → ℕ → Refusal) → DemandPlace (λ s i. Err (why s i)) → ⊥
refusing_place why d =
    let q = place_number (Err (why ten (pre root))) _ _ (d.answers ten ten_words ten_yields root) in
    let z : ◌≡◌ {A = ℕ} 1 0 = q.0 in omega arith

pub fixed_place : (a : PlaceAnswer) → DemandPlace (λ s i. a) → ⊥
fixed_place a d =
    let p = (place_number a (4 * (pre root - 1)) (4 * (1 + held_by root)) (d.answers ten ten_words ten_yields root)).1 in
    let q = (place_number a (4 * (pre two - 1)) (4 * (1 + held_by two)) (d.answers ten ten_words ten_yields two)).1 in
    omega (arith, p, q, root_held, two_held)

pub idle_place : DemandPlace (λ s i. Ok (0, (length s))) → ⊥
idle_place d =
    let q = (place_number (Ok (0, (length ten))) (4 * (pre two - 1)) (4 * (1 + held_by two)) (d.answers ten ten_words ten_yields two)).1 in
    let z : ◌≡◌ {A = ℕ} 40 (4 * (1 + held_by two)) = q in omega (arith, z, two_held)

-- the parts of Ten
ten_part : (x : Node (whole ten_tree)) (p h : ℕ) → pre x ≡ p → held_by x ≡ h → take (4 * (1 + held_by x)) (drop (4 * (pre x - 1)) ten) ≡ take (4 * (1 + h)) (drop (4 * (p - 1)) ten)
ten_part x p h e g = ap (λ (k : ℕ). take (4 * (1 + k)) (drop (4 * (pre x - 1)) ten)) g ∙ ap (λ (k : ℕ). take (4 * (1 + h)) (drop (4 * (k - 1)) ten)) e

pub refusing_block : DemandBlock (λ s i. []) → ⊥
refusing_block d =
    let z : ◌≡◌ {A = ℕ} 0 20 = ap length (d.answers ten ten_words ten_yields two ∙ ten_part two 2 4 two_pre two_held) in omega arith

pub fixed_block : (b : List ℕ) → DemandBlock (λ s i. b) → ⊥
fixed_block b d =
    let p : length b ≡ 40 = ap length (d.answers ten ten_words ten_yields root ∙ ten_part root 1 9 root_pre root_held) in
    let q : length b ≡ 20 = ap length (d.answers ten ten_words ten_yields two ∙ ten_part two 2 4 two_pre two_held) in
    omega (arith, p, q)

pub idle_block : DemandBlock (λ s i. s) → ⊥
idle_block d =
    let z : ◌≡◌ {A = ℕ} 40 20 = ap length (d.answers ten ten_words ten_yields two ∙ ten_part two 2 4 two_pre two_held) in omega arith

-- ---- answering for what is no element

-- what is no rank from 1 to 10 is that of no element of Ten
no_element : (i : ℕ) → (1 ≤ i → i ≤ 10 → ⊥) → Element ten i → ⊥
no_element i h e =
    let n : size (whole e.yields.tree) ≡ 10 = (tree_of ten e.yields.tree e.yields.is).count in
    h (omega (arith, pre_low e.element, e.rank)) (omega (arith, pre_high e.element, e.rank, n))

-- any call that answers on the entries of two roots, which no tree yields: one that trusts every fa
pub trusting_level : (call : List ℕ → ℕ → LevelAnswer) (i l : ℕ) → call two_roots i ≡ Ok l → DemandLevel call → ⊥
unfolding small
trusting_level call i l e d =
    let q = d.other two_roots (small_words two_roots refl) i (λ x. two_none x.yields) in
    let z : ◌≡◌ {A = ℕ} 0 1 = ap (λ (x : LevelAnswer). (level_told x).refused) (sym e ∙ q.1) in omega arith

pub trusting_place : (call : List ℕ → ℕ → PlaceAnswer) (i f c : ℕ) → call two_roots i ≡ Ok (f, c) → DemandPlace call → ⊥
unfolding small
trusting_place call i f c e d =
    let q = d.other two_roots (small_words two_roots refl) i (λ x. two_none x.yields) in
    let z : ◌≡◌ {A = ℕ} 0 1 = ap (λ (x : PlaceAnswer). (place_told x).refused) (sym e ∙ q.1) in omega arith

pub trusting_block : (call : List ℕ → ℕ → List ℕ) (i : ℕ) → 1 ≤ length (call two_roots i) → DemandBlock call → ⊥
unfolding small
trusting_block call i l d = omega (arith, ap length (d.other two_roots (small_words two_roots refl) i (λ x. two_none x.yields)))

-- any call that answers for a rank of 0 or over n, on Ten
pub outside_level : (call : List ℕ → ℕ → LevelAnswer) (i l : ℕ) → (1 ≤ i → i ≤ 10 → ⊥) → call ten i ≡ Ok l → DemandLevel call → ⊥
outside_level call i l h e d =
    let q = d.other ten ten_words i (no_element i h) in
    let z : ◌≡◌ {A = ℕ} 0 1 = ap (λ (x : LevelAnswer). (level_told x).refused) (sym e ∙ q.1) in omega arith

pub outside_place : (call : List ℕ → ℕ → PlaceAnswer) (i f c : ℕ) → (1 ≤ i → i ≤ 10 → ⊥) → call ten i ≡ Ok (f, c) → DemandPlace call → ⊥
outside_place call i f c h e d =
    let q = d.other ten ten_words i (no_element i h) in
    let z : ◌≡◌ {A = ℕ} 0 1 = ap (λ (x : PlaceAnswer). (place_told x).refused) (sym e ∙ q.1) in omega arith

pub outside_block : (call : List ℕ → ℕ → List ℕ) (i : ℕ) → (1 ≤ i → i ≤ 10 → ⊥) → 1 ≤ length (call ten i) → DemandBlock call → ⊥
outside_block call i h l d = omega (arith, l, ap length (d.other ten ten_words i (no_element i h)))

-- ---- the theorems on Ten

level_promise : LevelPromise ten (pre two) (Ok 1)
unfolding pre run turn_within length_fault in_range step_of close_of nameless second_root accepted cell
    up_to met parent_of on_axis Axes.level_of after_check is_rank level_within
level_promise = refl

pub ten_level : (l : List (Node (whole ten_tree))) × Lists (λ z. Ancestor z two) l × ◌≡◌ {A = LevelAnswer} (Ok 1) (Ok (length l))
ten_level = level_is_ancestors ten ten_words ten_yields two (Ok 1) level_promise

place_promise : PlacePromise ten (pre two) (Ok (4, 20))
unfolding pre run turn_within length_fault in_range step_of close_of nameless second_root accepted cell after_check is_rank place_within
place_promise = refl

pub ten_block : (first : ℕ) × (count : ℕ) × ◌≡◌ {A = PlaceAnswer} (Ok (4, 20)) (Ok (first, count))
    × ((z : Node (whole ten_tree)) → EntryIn ten ten_words ten_yields z first count → (two ≡ z) ⊎ Ancestor two z)
    × ((z : Node (whole ten_tree)) → (two ≡ z) ⊎ Ancestor two z → EntryIn ten ten_words ten_yields z first count)
ten_block = block_is_subtree ten ten_words ten_yields two (Ok (4, 20)) place_promise
