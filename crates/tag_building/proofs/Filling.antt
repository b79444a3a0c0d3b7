-- Reading a tree into the room: which case of the promise holds.
--   reading_tags, reading_length   what stands in the bytes where nothing is refused
--   filled_refused, filled_given   the two cases: a tag is refused, or what was built is given
--   one_filled                     two results that the promise allows are equal
use Prim.Native.Nat.{ℕ, ◌*◌}
use mathlib.Core.Path.{◌≡◌, refl, ap, ◌∙◌, sym, subst}
use mathlib.Core.Bool.{Bool}
use mathlib.Core.List.{List}
use native.Mathlib.Omega.{arith}
use lib.ListN.{length, take, drop}
use lib.Seq.{take_at}
use Rattle.turns.specs.Turn.{Turned}
use Rattle.trees.specs.Tree.{whole}
use Rattle.trees.specs.Listed.{signature_length}
use Rattle.trees.specs.Tags.{WholeTags}
use Rattle.terms.specs.Kinds.{any_name, most}
use Rattle.terms.specs.declared.Kind.{Kind}
use Rattle.bytes_read.specs.Scans.{Scan, halt_number}
use Rattle.terms.specs.Room.{Left, left_by}
use Rattle.bytes_read.proofs.Rooms.{refused_is}
use Rattle.tag_scan.specs.TagLists.{tree_scan, tags_from, numbers_in}
use Rattle.tag_scan.proofs.Judging.{read_whole}
use Rattle.tag_building.specs.Filled.{Filled, FilledPromise, BuiltPromise}
use Rattle.tag_building.proofs.Build.{whole_numbers}

-- what stands in the bytes where nothing is refused; n elements were read
module _ (all any : Bool) (m : ℕ) (b : List ℕ) (p n : ℕ) (en : n ≡ (tree_scan all any m b p).state.count)
    (ez : halt_number (tree_scan all any m b p).halt ≡ 0) where
  pub reading_tags : WholeTags (tags_from b (2 * n) p)
  reading_tags = subst (λ (x : ℕ). WholeTags (tags_from b (2 * x) p)) (sym en) (read_whole all any m b p ez).2.tags

  pub reading_length : length (numbers_in b p n) ≡ 4 * n
  reading_length =
      let t = whole_numbers b p n reading_tags in
      ap length t.numbers ∙ omega (arith, signature_length (whole t.tree) 1 0 0, t.many)

-- the two cases: f, at and n are what the pass over the tags came to, own what it built
module _ (all : Bool) (k : Kind) (b : List ℕ) (p : ℕ) (room : List ℕ) (any : Bool) (m : ℕ) (ea : any ≡ any_name k) (em : m ≡ most k)
    (own₀ : List ℕ) (f at n : ℕ) (own : List ℕ) (h : BuiltPromise all any m b p own₀ f at n own) where
  same : tree_scan all any m b p ≡ tree_scan all (any_name k) (most k) b p
  same = ap (λ (x : Bool). tree_scan all x m b p) ea ∙ ap (λ (x : ℕ). tree_scan all (any_name k) x b p) em

  promised : (g l : ℕ) (after : List ℕ) → Filled f at (4 * n) (numbers_in b p n) room g at l after → FilledPromise all k b p room g at l after
  promised g l after r =
      let e₁ = h.number ∙ ap (λ (t : Turned Scan). halt_number t.halt) same in
      let e₂ = h.place ∙ ap (λ (t : Turned Scan). t.state.at) same in
      let e₃ = h.count ∙ ap (λ (t : Turned Scan). t.state.count) same in
      subst (λ (x : ℕ). Filled (halt_number (tree_scan all (any_name k) (most k) b p).halt) (tree_scan all (any_name k) (most k) b p).state.at (4 * x) (numbers_in b p x) room g at l after) e₃
      (subst (λ (x : ℕ). Filled (halt_number (tree_scan all (any_name k) (most k) b p).halt) x (4 * n) (numbers_in b p n) room g at l after) e₂
      (subst (λ (x : ℕ). Filled x at (4 * n) (numbers_in b p n) room g at l after) e₁ r))

  pub filled_refused : (f ≡ 0 → ⊥) → FilledPromise all k b p room f at (4 * n) room
  filled_refused z =
      let q = refused_is f 0 (numbers_in b p n) room z in
      promised f (4 * n) room (record {
        told = ap (λ (x : Left). x.answer.number) (sym q);
        left = ap (λ (x : Left). x.room) (sym q);
        ended = refl;
        sized = refl;
        long = λ w. absurd (z w);
      })

  pub filled_given : f ≡ 0 → (j : ℕ) → j ≡ n → (g : ℕ) (after : List ℕ) → g ≡ (left_by 0 0 (take (4 * j) own) room).answer.number
      → after ≡ (left_by 0 0 (take (4 * j) own) room).room → FilledPromise all k b p room g at (4 * n) after
  filled_given z j c g after u v =
      let e = reading_length all any m b p n h.count (sym h.number ∙ z) in
      let q = ap (λ (x : ℕ). take (4 * x) own) c ∙ ap (take (4 * n)) (h.built z) ∙ take_at (numbers_in b p n) (drop (length (numbers_in b p n)) own₀) (4 * n) e in
      let w = ap (λ (l : List ℕ). left_by 0 0 l room) q ∙ ap (λ (x : ℕ). left_by x 0 (numbers_in b p n) room) (sym z) in
      promised g (4 * n) after (record {
        told = u ∙ ap (λ (x : Left). x.answer.number) w;
        left = v ∙ ap (λ (x : Left). x.room) w;
        ended = refl;
        sized = refl;
        long = λ y. sym e;
      })

-- the promise leaves one result
pub one_filled : (all : Bool) (k : Kind) (b : List ℕ) (p : ℕ) (room : List ℕ) (f at l : ℕ) (after : List ℕ) (f₂ at₂ l₂ : ℕ) (after₂ : List ℕ)
    → FilledPromise all k b p room f at l after → FilledPromise all k b p room f₂ at₂ l₂ after₂ → (f ≡ f₂) × (at ≡ at₂) × (l ≡ l₂) × (after ≡ after₂)
one_filled all k b p room f at l after f₂ at₂ l₂ after₂ x y =
    (x.told ∙ sym y.told, x.ended ∙ sym y.ended, x.sized ∙ sym y.sized, x.left ∙ sym y.left)
