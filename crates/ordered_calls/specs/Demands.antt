-- Demand 2 of the ordered call, over any call: whatever keeps our promise meets it.
--   Done, Call         any call: signature, twig, tuple and room to an answer and what the room holds
--   Asked s w g        a twig and a data tree yield the two lists, and the tuple fits them
--   Demand call        demand 2: where that is asked, the call is as meant; elsewhere it refuses, and writes nothing
--   ours               the promise meets it
use Rattle.std.specs.Prelude.{ℕ, zero, suc, ◌+◌, ◌*◌, ◌≤◌, ◌≡◌, refl, Bool, true, false, ◌&&◌, ◌⊎◌, List, [], ◌∷◌, eqb, leb, length, get_or, Ok, Err}
use Rattle.std.proofs.Common.{ap, sym, ◌∙◌, inl, inr, arith, le-leb, leb-true, eq-eqb, eqb-true}
use Rattle.std.proofs.lemmas.Bool.{false≢true}
use Rattle.turns.specs.Turn.{Halt}
use Rattle.trees.specs.Tree.{whole, size}
use Rattle.trees.specs.Signature.{entries}
use Rattle.terms.specs.declared.Kind.{Kind}
use Rattle.terms.specs.declared.Refusal.{Refusal}
use Rattle.terms.specs.Kinds.{most}
use Rattle.checking.specs.Rule.{fresh}
use Rattle.checking.specs.Turn.{turn_of}
use Rattle.terms.specs.Stops.{verdict_told, halt_told, refused_as, answered, Written}
use Rattle.checking.specs.Whole.{whole_of}
use Rattle.terms.specs.Room.{Left, refused_left}
use Rattle.checked.specs.Yields.{Words, Yields}
use Rattle.checked.specs.Accepted.{tree_of}
use Rattle.checked.specs.Apart.{answered_apart}
use Rattle.checked.specs.Wholly.{yields_accepted, whole_exactly, accepted_reason}
use Rattle.ordered_given.specs.Judged.{all_up_to, tuple_fits}
use Rattle.ordered.specs.Promise.{ordered_of, OrderedPromise}
use Rattle.ordered_calls.specs.Exactly.{Accepts, Meant, ordered_order, ordered_exactly, fault_tuple}

-- what a call says and leaves
pub record Done : Type 0 where
  pub says : Written
  pub after : List ℕ

-- any ordered call: given signature, twig, tuple and room
abbrev pub Call : Type 0
Call = List ℕ → List ℕ → List ℕ → List ℕ → Done

-- a twig, a data tree, and "m numbers, each 0 to n"
pub record Asked (s w g : List ℕ) : Type 0 where
  pub twig : Yields Kind.Twig w
  pub menu : Yields Kind.Data s
  pub count : length g ≡ size (whole twig.tree)
  pub each : (i : ℕ) → get_or g i 0 ≤ size (whole menu.tree)

-- demand 2 of any call: as meant where it is asked so; else it refuses, and a refused call "writes nothing"
pub record Demand (call : Call) : Type 0 where
  pub answers : (s w g room : List ℕ) → Asked s w g → Meant s w g room (answered (call s w g room).says) (call s w g room).after
  pub other : (s w g room : List ℕ) → Words s → Words w → (Asked s w g → ⊥)
      → (why : Refusal) × ((call s w g room).says ≡ Err why) × ((call s w g room).after ≡ room)

-- ---- a call that keeps the promise meets it

all_fit : (n : ℕ) (g : List ℕ) → ((i : ℕ) → get_or g i 0 ≤ n) → all_up_to n g ≡ true
unfolding all_up_to
all_fit n [] h = refl
all_fit n (x ∷ g) h = rw (le-leb x n (h 0)) (all_fit n g (λ i. h (suc i)))

fit_all : (n : ℕ) (g : List ℕ) → all_up_to n g ≡ true → (i : ℕ) → get_or g i 0 ≤ n
unfolding all_up_to
fit_all n [] h i = omega arith
fit_all n (x ∷ g) h i = go (leb x n) refl h (λ q. fit_all n g q) i
  where
    go : (b : Bool) → leb x n ≡ b → (b && all_up_to n g) ≡ true → (all_up_to n g ≡ true → (i : ℕ) → get_or g i 0 ≤ n) → (i : ℕ) → get_or (x ∷ g) i 0 ≤ n
    go true e q ih zero = leb-true x n e
    go true e q ih (suc i) = ih q i
    go false e q ih i = absurd (false≢true q)

tuple_fits_law : (n m : ℕ) (g : List ℕ) → length g ≡ m → ((i : ℕ) → get_or g i 0 ≤ n) → tuple_fits n m g ≡ true
unfolding tuple_fits
tuple_fits_law n m g c h = simp (eq-eqb (length g) m c, all_fit n g h)

fits_tuple : (n m : ℕ) (g : List ℕ) → tuple_fits n m g ≡ true → (length g ≡ m) × ((i : ℕ) → get_or g i 0 ≤ n)
unfolding tuple_fits
fits_tuple n m g h = go (eqb (length g) m) refl h
  where
    go : (b : Bool) → eqb (length g) m ≡ b → (b && all_up_to n g) ≡ true → (length g ≡ m) × ((i : ℕ) → get_or g i 0 ≤ n)
    go true e q = (eqb-true (length g) m e, fit_all n g q)
    go false e q = absurd (false≢true q)

-- the whole check accepts, or its stop is no end
accepts_or : (k : Kind) (s : List ℕ) → Accepts k s ⊎ (eqb (whole_of k s).reason 1 ≡ false)
accepts_or k s = by (turn_of k s (2 * most k + 1) fresh).halt
  where
    by : (h : Halt) → (verdict_told (Ok tt) ≡ halt_told h) ⊎ (eqb (halt_told h).reason 1 ≡ false)
    by Halt.answer = inr refl
    by Halt.end = inl refl
    by Halt.budget = inr refl
    by (Halt.refusal number entry) = inr refl

module _ (s w g room : List ℕ) (r : Written) (after : List ℕ) (p : OrderedPromise s w g room r after) where
  promised_answers : Asked s w g → Meant s w g room (answered r) after
  promised_answers a =
      let m = (tree_of w a.twig.tree a.twig.is).count in
      let n = (tree_of s a.menu.tree a.menu.is).count in
      ordered_exactly s w g room r after p (yields_accepted Kind.Twig w a.twig) (yields_accepted Kind.Data s a.menu)
      (tuple_fits_law (entries s) (entries w) g (a.count ∙ m) (λ i. omega (arith, a.each i, n)))

  -- as refused, whatever the number
  as_refused : {number entry : ℕ} → (answered r ≡ refused_as number entry) × (after ≡ room) → (why : Refusal) × (r ≡ Err why) × (after ≡ room)
  as_refused {number} {entry} q =
      let why : Refusal = record { number = number; entry = record { 0 = entry } } in (why, answered_apart r (Err why) q.0, q.1)

  refuses : {number entry : ℕ} → ordered_of s w g room ≡ refused_left room number entry → (why : Refusal) × (r ≡ Err why) × (after ≡ room)
  refuses o = as_refused (p.told ∙ ap (λ (l : Left). l.answer) o, p.left ∙ ap (λ (l : Left). l.room) o)

  twig_not : eqb (whole_of Kind.Twig w).reason 1 ≡ false → ordered_of s w g room ≡ refused_left room (whole_of Kind.Twig w).number (whole_of Kind.Twig w).entry
  twig_not q = ordered_order s w g room ∙ simp q

  data_not : Accepts Kind.Twig w → eqb (whole_of Kind.Data s).reason 1 ≡ false
      → ordered_of s w g room ≡ refused_left room (whole_of Kind.Data s).number (whole_of Kind.Data s).entry
  data_not a q = ordered_order s w g room ∙ simp (accepted_reason Kind.Twig w a, q)

  promised_other : Words s → Words w → (Asked s w g → ⊥) → (why : Refusal) × (r ≡ Err why) × (after ≡ room)
  promised_other ws ww n = by_twig (accepts_or Kind.Twig w)
    where
      by_tuple : Accepts Kind.Twig w → Accepts Kind.Data s → (b : Bool) → tuple_fits (entries s) (entries w) g ≡ b
          → (why : Refusal) × (r ≡ Err why) × (after ≡ room)
      by_tuple a d false f = as_refused (fault_tuple s w g room r after p a d f)
      by_tuple a d true f =
          let x = (whole_exactly Kind.Twig w ww (Ok tt) a).sound refl in
          let y = (whole_exactly Kind.Data s ws (Ok tt) d).sound refl in
          let k = fits_tuple (entries s) (entries w) g f in
          absurd (n (record {
            twig = x;
            menu = y;
            count = k.0 ∙ sym (tree_of w x.tree x.is).count;
            each = λ i. omega (arith, k.1 i, (tree_of s y.tree y.is).count);
          }))

      by_data : Accepts Kind.Twig w → Accepts Kind.Data s ⊎ (eqb (whole_of Kind.Data s).reason 1 ≡ false) → (why : Refusal) × (r ≡ Err why) × (after ≡ room)
      by_data a (inl d) = by_tuple a d (tuple_fits (entries s) (entries w) g) refl
      by_data a (inr q) = refuses (data_not a q)

      by_twig : Accepts Kind.Twig w ⊎ (eqb (whole_of Kind.Twig w).reason 1 ≡ false) → (why : Refusal) × (r ≡ Err why) × (after ≡ room)
      by_twig (inl a) = by_data a (accepts_or Kind.Data s)
      by_twig (inr q) = refuses (twig_not q)

pub ours : (call : Call) → ((s w g room : List ℕ) → OrderedPromise s w g room (call s w g room).says (call s w g room).after) → Demand call
ours call p = record {
  answers = λ s w g room a. promised_answers s w g room (call s w g room).says (call s w g room).after (p s w g room) a;
  other = λ s w g room ws ww n. promised_other s w g room (call s w g room).says (call s w g room).after (p s w g room) ws ww n;
}
