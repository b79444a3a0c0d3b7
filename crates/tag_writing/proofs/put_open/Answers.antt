-- The mark and the name, copied one behind the other.
use mathlib.Core.Path.{refl, ap, ◌∙◌}
use mathlib.Core.List.{List, [], ◌∷◌, ◌++◌}
use Prim.Native.Nat.{ℕ}
use native.Mathlib.Omega.{arith}
use Rattle.std.proofs.lemmas.List.{drop_all}
use Rattle.bytes_read.specs.Bytes.{low, high}
use Rattle.bytes_read.proofs.Rooms.{front_sets, put_sets, put_next, two_bytes}
use Rattle.tag_writing.proofs.put_open.Goals as goal

pub returns : goal.returns
returns c =
    let a = c.args in
    let r = a.tag.now in
    let all : List ℕ = 79 ∷ 80 ∷ low a.name ∷ high a.name ∷ [] in
    put_next r _ 0 2 2 (79 ∷ 80 ∷ []) _ (low a.name ∷ high a.name ∷ [])
    (put_sets r 0 0 2 (79 ∷ 80 ∷ []) _ refl c.copy_from_slice.ensures.after refl (omega arith))
    (c.copy_from_slice-2.ensures.after ∙ c.to_le_bytes.ensures ∙ two_bytes a.name (omega arith)) refl refl (omega arith)
    ∙ front_sets all r (omega arith) ∙ ap (all ++◌) (drop_all 4 r (omega arith))
