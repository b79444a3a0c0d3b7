-- A list is the signature of at most one tree.
--   row_unique           entries from one place on are those of at most one row of a given size
--   signature_unique     two trees with one signature are one tree
use Rattle.std.specs.Prelude.{ℕ, ◌+◌, ◌≡◌, refl, length}
use Rattle.std.proofs.Common.{ap, ◌∙◌, sym, subst, arith}
use Rattle.trees.specs.Tree.{Forest, none, elem, size, Tree, whole}
use Rattle.trees.specs.Signature.{Entries, signature}
use Rattle.trees.specs.Rows.{Holds}
use Rattle.trees.specs.Listed.{listed_whole, signature_length}

elem_eq : {a b : ℕ} {k l r q : Forest} → a ≡ b → k ≡ l → r ≡ q → elem a k r ≡ elem b l q
elem_eq p q r = cc

-- post tells the size of what is below, so that the two rows part into the same pieces
pub row_unique : (e : Entries) (f g : Forest) (i up c : ℕ) → Holds e f i up c → Holds e g i up c → size f ≡ size g → f ≡ g
row_unique e none none i up c h k z = refl
row_unique e none (elem a l r) i up c h k z = absurd (omega arith)
row_unique e (elem a l r) none i up c h k z = absurd (omega arith)
row_unique e (elem a l r) (elem b m q) i up c h k z =
    let y : size l ≡ size m = omega (arith, h.0.post_is, k.0.post_is) in
    elem_eq (sym h.0.name_is ∙ k.0.name_is) (row_unique e l m (i + 1) i c h.1 k.1 y)
    (row_unique e r q (i + 1 + size l) up (c + size l + 1) h.2
    (subst (λ (x : ℕ). Holds e q (i + 1 + x) up (c + x + 1)) (sym y) k.2) (omega arith))

whole_unique : (t u : Tree) → whole t ≡ whole u → t ≡ u
whole_unique t u e =
    let n : t.name ≡ u.name = cc in
    let b : t.below ≡ u.below = cc in
    λ i. record { name = n i; below = b i }

-- a signature is that of one tree
pub signature_unique : (t u : Tree) → signature t ≡ signature u → t ≡ u
signature_unique t u e =
    whole_unique t u
    (row_unique _ (whole t) (whole u) 1 0 0 (listed_whole (signature t) (whole t) refl) (listed_whole (signature t) (whole u) e)
    (omega (arith, signature_length (whole t) 1 0 0, signature_length (whole u) 1 0 0, ap length e)))
