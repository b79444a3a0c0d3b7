-- Back to a tag list: which case of the promise holds.
--   signature_long                four numbers for each element
--   accepted_back                 an accepted signature has a tree
--   back_written, back_refused    the two answers
use Rattle.std.specs.Prelude.{Ok, Err}
use Prim.Native.Nat.{ℕ, ◌*◌, ◌≤◌}
use mathlib.Core.Path.{◌≡◌, refl, ap, ◌∙◌, sym, subst}
use mathlib.Core.List.{List}
use native.Mathlib.Omega.{arith}
use lib.ListN.{length}
use borrow.Author.Tests.{eq-eqb, ne_eqb}
use Rattle.trees.specs.Tree.{Tree, size, whole}
use Rattle.trees.specs.Signature.{signature}
use Rattle.trees.specs.Listed.{signature_length}
use Rattle.terms.specs.Stops.{Told, verdict_told, answered, refused_as, Verdict, Written}
use Rattle.checking.specs.Whole.{whole_of, WholePromise}
use Rattle.terms.specs.declared.Kind.{Kind}
use Rattle.terms.specs.declared.Refusal.{Refusal}
use Rattle.terms.proofs.Lengths.{most_small}
use Rattle.checked.specs.Wholly.{accepted_tree}
use Rattle.terms.specs.Room.{Left, left_by, Leaves}
use Rattle.tag_writing.specs.TagsBack.{back_bytes, back_left, BackPromise}

pub signature_long : (s : List ℕ) (t : Tree) → s ≡ signature t → length s ≡ 4 * size (whole t)
signature_long s t e = ap length e ∙ signature_length (whole t) 1 0 0

pub left_as : (x y : Left) (w : Written) (after : List ℕ) → x ≡ y → Leaves y w after → Leaves x w after
left_as x y w after q p = record { told = p.told ∙ ap (λ (l : Left). l.answer) (sym q); left = p.left ∙ ap (λ (l : Left). l.room) (sym q) }

module _ (k : Kind) (s : List ℕ) (v : Verdict) (p : WholePromise k s v) where
  pub accepted_back : v ≡ Ok tt → (t : Tree) × (s ≡ signature t) × (size (whole t) ≤ 4096)
  accepted_back q =
      let x = accepted_tree k s (subst (WholePromise k s) q p) in
      (x.tree, x.of.is, omega (arith, x.of.count, x.small, most_small k))

  reason_is : (n : ℕ) → (verdict_told v).reason ≡ n → (whole_of k s).reason ≡ n
  reason_is n q = ap (λ (t : Told). t.reason) (sym p) ∙ q

  accepted_left : (room : List ℕ) → (whole_of k s).reason ≡ 1 → back_left k s room ≡ left_by 0 0 (back_bytes s) room
  unfolding back_left
  accepted_left room h = simp (eq-eqb _ _ h)

  refused_left_law : (room : List ℕ) → ((whole_of k s).reason ≡ 1 → ⊥)
      → back_left k s room ≡ record { answer = refused_as (whole_of k s).number (whole_of k s).entry; room = room }
  unfolding back_left
  refused_left_law room h = simp (ne_eqb _ _ h)

  pub back_written : (room : List ℕ) (w : Written) (after : List ℕ) → v ≡ Ok tt → Leaves (left_by 0 0 (back_bytes s) room) w after
      → BackPromise k s room w after
  back_written room w after q h =
      left_as _ _ w after (accepted_left room (reason_is 1 (ap (λ (x : Verdict). (verdict_told x).reason) q))) h

  pub back_refused : (room : List ℕ) (w : Written) (r : Refusal) → v ≡ Err r → w ≡ Err r → BackPromise k s room w room
  back_refused room w r q e =
      let three = reason_is 3 (ap (λ (x : Verdict). (verdict_told x).reason) q) in
      let same : verdict_told (Err r) ≡ whole_of k s = ap verdict_told (sym q) ∙ p in
      left_as _ _ w room (refused_left_law room (λ z. omega arith))
      (record { told = ap answered e ∙ ap (λ (t : Told). refused_as t.number t.entry) same; left = refl })
