-- The tags that stand from a place on: how many, and by the mark there the first of them.
use Prim.Native.Nat.{ℕ, zero, suc, ◌+◌}
use mathlib.Core.Path.{◌≡◌, refl, ap}
use mathlib.Core.Bool.{Bool, true, false}
use mathlib.Core.List.{List, [], ◌∷◌}
use native.Mathlib.Omega.{arith}
use lib.ListN.{length}
use Rattle.turns.specs.Pick.{pick}
use Rattle.trees.specs.Tags.{opens, closes}
use Rattle.bytes_read.specs.Bytes.{number_at}
use Rattle.tag_scan.specs.TagLists.{opening, tags_from}

module _ (b : List ℕ) where
  pub tags_length_from : (k p : ℕ) → length (tags_from b k p) ≡ k
  unfolding tags_from
  tags_length_from zero p = refl
  tags_length_from (suc k) p = go (opening b p) (tags_length_from k (p + 4)) (tags_length_from k (p + 2))
    where
      go : (t : Bool) → length (tags_from b k (p + 4)) ≡ k → length (tags_from b k (p + 2)) ≡ k
          → length (pick t (opens (number_at b (p + 2)) ∷ tags_from b k (p + 4)) (closes ∷ tags_from b k (p + 2))) ≡ suc k
      go true u v = ap suc u
      go false u v = ap suc v

  pub tags_open : (k p : ℕ) → opening b p ≡ true → tags_from b (suc k) p ≡ opens (number_at b (p + 2)) ∷ tags_from b k (p + 4)
  unfolding tags_from
  tags_open k p h = simp h

  pub tags_close : (k p : ℕ) → opening b p ≡ false → tags_from b (suc k) p ≡ closes ∷ tags_from b k (p + 2)
  unfolding tags_from
  tags_close k p h = simp h

  pub tags_none : (k p : ℕ) → k ≡ 0 → tags_from b k p ≡ []
  unfolding tags_from
  tags_none zero p h = refl
  tags_none (suc k) p h = absurd (omega arith)
