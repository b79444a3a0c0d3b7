-- Names: the entries of a row pass rule 1 exactly if its names are allowed.
--   named_fine       allowed names pass
--   fine_named       names that pass are allowed, in a list of sixteen-bit numbers
use Rattle.std.specs.Prelude.{ℕ, ◌+◌, ◌≤◌, ◌<◌, ◌≡◌, refl, Bool, true, false}
use Rattle.std.proofs.Common.{◌∙◌, sym, subst, arith}
use Rattle.std.proofs.lemmas.Bool.{false≢true}
use Rattle.trees.specs.Tree.{Forest, none, elem, size, NotZero, Named}
use Rattle.trees.specs.Signature.{Entries}
use Rattle.trees.specs.Rows.{Holds}
use Rattle.checking.specs.Rule.{nameless}
use Rattle.checking.proofs.Cases.{nameless_any, nameless_other, nameless_zero, root_below, root_first}
use Rattle.checked.specs.Walked.{Fine}

passes : (any : Bool) (e : Entries) (i a : ℕ) → e.name i ≡ a → NotZero any a → nameless any e i ≡ false
passes true e i a q p = nameless_any true e i refl
passes false e i a q p = nameless_other false e i (λ z. p (sym q ∙ z))

passed : (any : Bool) (e : Entries) (i a : ℕ) → e.name i ≡ a → nameless any e i ≡ false → NotZero any a
passed true e i a q p = tt
passed false e i a q p = λ z. false≢true (sym p ∙ nameless_zero false e i refl (q ∙ z))

module _ (any : Bool) (e : Entries) where
  pub named_fine : (f : Forest) (i up c : ℕ) → 1 ≤ up → 1 ≤ i → Holds e f i up c → Named any f → Fine any e f i up
  named_fine none i up c u l h g = tt
  named_fine (elem a k r) i up c u l h g = (
    passes any e i a h.0.name_is g.0.some,
    root_below i up (omega arith),
    named_fine k (i + 1) i c l (omega arith) h.1 g.1,
    named_fine r (i + 1 + size k) up (c + size k + 1) u (omega arith) h.2 g.2,
  )

  -- the root, which has no parent
  pub root_fine : (a : ℕ) (k : Forest) → Holds e (elem a k none) 1 0 0 → Named any (elem a k none) → Fine any e (elem a k none) 1 0
  root_fine a k h g = (
    passes any e 1 a h.0.name_is g.0.some,
    root_first 1 0 (omega arith),
    named_fine k 2 1 0 (omega arith) (omega arith) h.1 g.1,
    tt,
  )

  pub fine_named : ((i : ℕ) → e.name i < 65536) → (f : Forest) (i up c : ℕ) → Holds e f i up c → Fine any e f i up → Named any f
  fine_named w none i up c h g = tt
  fine_named w (elem a k r) i up c h g = (
    record { code = subst (λ (x : ℕ). x < 65536) h.0.name_is (w i); some = passed any e i a h.0.name_is g.0 },
    fine_named w k (i + 1) i c h.1 g.2,
    fine_named w r (i + 1 + size k) up (c + size k + 1) h.2 g.3,
  )
