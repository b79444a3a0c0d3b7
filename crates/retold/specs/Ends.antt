-- A whole list that is read without a refusal is read to the end of the bytes.
--   whole_ends   where the reader stands then
use Rattle.std.specs.Prelude.{ℕ, ◌≡◌, refl, ◌⊎◌, Bool, true, false, ◌&&◌, ◌||◌, List, length, eqb}
use Rattle.std.proofs.Common.{◌∙◌, sym, inl, inr, arith, eqb-true}
use Rattle.bytes_read.specs.Scans.{Scan, begin, halt_number}
use Rattle.tag_scan.specs.TagLists.{root_closed, tag_fault, tag_next, tree_end, tree_scan}
use Rattle.tag_scan.proofs.Judging.{tag_passes}
use Rattle.bytes_read.proofs.Scanning.{Ended, Faulty, scan_comes}

end_at_law : (b : List ℕ) (st : Scan) → tree_end true b st ≡ true → st.at ≡ length b
unfolding tree_end
end_at_law b st = go (root_closed st) (eqb st.at (length b)) refl
  where
    go : (t e : Bool) → eqb st.at (length b) ≡ e → (t && (false || e)) ≡ true → st.at ≡ length b
    go true true u h = eqb-true _ _ u
    go true false u h = let z : ◌≡◌ {A = ℕ} 0 1 = cc in absurd (omega arith)
    go false e u h = let z : ◌≡◌ {A = ℕ} 0 1 = cc in absurd (omega arith)

pub whole_ends : (any : Bool) (most : ℕ) (b : List ℕ) (p : ℕ) → halt_number (tree_scan true any most b p).halt ≡ 0
    → (tree_scan true any most b p).state.at ≡ length b
whole_ends any most b p h = go (scan_comes (tree_end true b) (tag_fault any most b) (tag_next b) (length b) (tag_passes true any most b) (begin p))
  where
    go : Ended (tree_end true b) (tag_fault any most b) (tag_next b) (length b) (tag_passes true any most b) (begin p)
        ⊎ Faulty (tree_end true b) (tag_fault any most b) (tag_next b) (length b) (tag_passes true any most b) (begin p)
        → (tree_scan true any most b p).state.at ≡ length b
    go (inl e) = end_at_law b _ e.done
    go (inr e) = absurd (e.some (sym e.number_is ∙ h))
