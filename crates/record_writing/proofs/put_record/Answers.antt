-- The mark and four numbers, each copied behind what was before.
use Prim.Native.Nat.{ℕ}
use mathlib.Core.Path.{refl, ap, ◌∙◌}
use mathlib.Core.List.{List, [], ◌∷◌, ◌++◌}
use native.Mathlib.Omega.{arith}
use Rattle.std.proofs.lemmas.List.{drop_all}
use Rattle.bytes_read.specs.Bytes.{low, high}
use Rattle.bytes_read.proofs.Rooms.{front_sets, put_sets, put_next, two_bytes}
use Rattle.record_writing.proofs.put_record.Goals as goal

pub returns : goal.returns
returns c =
    let a = c.args in
    let r = a.record.now in
    let n : ℕ → List ℕ = λ v. low v ∷ high v ∷ [] in
    let all : List ℕ = 83 ∷ 69 ∷ (n a.name ++ n a.post ++ n a.ff ++ n a.fa) in
    put_next r _ 0 8 2 (83 ∷ 69 ∷ (n a.name ++ n a.post ++ n a.ff)) _ (n a.fa)
    (put_next r _ 0 6 2 (83 ∷ 69 ∷ (n a.name ++ n a.post)) _ (n a.ff)
    (put_next r _ 0 4 2 (83 ∷ 69 ∷ n a.name) _ (n a.post)
    (put_next r _ 0 2 2 (83 ∷ 69 ∷ []) _ (n a.name)
    (put_sets r 0 0 2 (83 ∷ 69 ∷ []) _ refl c.copy_from_slice.ensures.after refl (omega arith))
    (c.copy_from_slice-2.ensures.after ∙ c.to_le_bytes.ensures ∙ two_bytes a.name (omega arith)) refl refl (omega arith))
    (c.copy_from_slice-3.ensures.after ∙ c.to_le_bytes-2.ensures ∙ two_bytes a.post (omega arith)) refl refl (omega arith))
    (c.copy_from_slice-4.ensures.after ∙ c.to_le_bytes-3.ensures ∙ two_bytes a.ff (omega arith)) refl refl (omega arith))
    (c.copy_from_slice-5.ensures.after ∙ c.to_le_bytes-4.ensures ∙ two_bytes a.fa (omega arith)) refl refl (omega arith)
    ∙ front_sets all r (omega arith) ∙ ap (all ++◌) (drop_all 10 r (omega arith))
