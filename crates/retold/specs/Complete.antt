-- The bytes of a tree's tag list are read without a refusal, to their end.
--   open_passes, close_passes   a tag that stands in the bytes is passed
--   row_passes                  nested tags are passed
--   scan_complete               so is the tag list of a tree of the kind
--   numbers_there               and its numbers are the tree's signature
use Prim.Native.Nat.{ℕ, zero, suc, ◌+◌, ◌-◌, ◌*◌, ◌≤◌, ◌<◌}
use Rattle.std.specs.Prelude.{◌≡◌, Bool, true, false, length, get_or}
use Rattle.std.proofs.Math.Path.{refl, ap}
use Rattle.std.proofs.Common.{◌∙◌, sym, subst, length-drop, drop-drop}
use mathlib.Core.List.{List, [], ◌∷◌, ◌++◌}
use native.Mathlib.Omega.{arith}
use Rattle.std.proofs.Math.ListN.{drop}
use Rattle.turns.specs.Turn.{moved, stay, move, Turned}
use Rattle.trees.specs.Tree.{Tree, size, whole, NotZero, Allowed, Grown}
use Rattle.trees.specs.Signature.{signature}
use Rattle.trees.specs.Tags.{Tag, opens, closes, tags_of, tree_tags, tree_of, Nested}
use Rattle.trees.specs.TagLaws.{tags_length, tags_read}
use Rattle.trees.specs.Nesting.{tree_nested}
use Rattle.bytes_read.specs.Bytes.{number_at, low, high}
use Rattle.bytes_read.specs.Scans.{Scan, begin, step_by, halt_number}
use Rattle.tag_scan.specs.TagLists.{opening, root_closed, nameless_at, tag_fault, tag_next, tree_end, tree_scan, tag_bytes, tags_from, tree_numbers, numbers_in}
use Rattle.bytes_read.proofs.Marks.{marked_yes, marked_first}
use Rattle.bytes_read.proofs.Scanning.{step_passed, passed_grow, scan_ended}
use Rattle.tag_scan.proofs.TagFaults.{closed_open, closed_none, closed_yes, end_open, end_here, end_last, nameless_any, nameless_other, open_fine, close_fine, next_open, next_close}
use Rattle.tag_scan.proofs.Judging.{Tagged, tag_passes}
use Rattle.tag_writing.proofs.Emit.{tag_bytes_length}
use Rattle.tag_scan.proofs.TagsFrom.{tags_open, tags_close, tags_none}
use Rattle.retold.specs.Places.{at_place, first_at}
use Rattle.retold.specs.Names.{TagNames, opens_in, opens_row, row_names}

module _ (b : List ℕ) where
  long : (p : ℕ) (l : List ℕ) → drop p b ≡ l → 1 ≤ length l → p + length l ≡ length b
  long p l e h = omega (arith, ap length e, length-drop p b)

  later : (p k : ℕ) (l : List ℕ) → drop p b ≡ l → drop (p + k) b ≡ drop k l
  later p k l e = sym (drop-drop k p b) ∙ ap (drop k) e

  -- the tag that stands there
  opens_there : (p a : ℕ) (r : List ℕ) → drop p b ≡ 79 ∷ 80 ∷ low a ∷ high a ∷ r → (opening b p ≡ true) × (number_at b (p + 2) ≡ a)
  opens_there p a r e =
      let two : get_or b (p + 2) 0 ≡ low a = at_place b p 2 _ e in
      let q : p + 2 + 1 ≡ p + 3 = omega arith in
      let three : get_or b (p + 2 + 1) 0 ≡ high a = ap (λ (x : ℕ). get_or b x 0) q ∙ at_place b p 3 _ e in
      (marked_yes b p 79 80 (first_at b p _ e) (at_place b p 1 _ e), omega arith)

  closes_there : (p : ℕ) (r : List ℕ) → drop p b ≡ 67 ∷ 76 ∷ r → opening b p ≡ false
  closes_there p r e = let x = first_at b p _ e in marked_first b p 79 80 (λ z. omega (arith, x))

  -- the tags that stand there are read as these tags
  pub tags_there : (l : List Tag) (p : ℕ) (rest : List ℕ) → drop p b ≡ tag_bytes l ++ rest → tags_from b (length l) p ≡ l
  unfolding tag_bytes
  tags_there [] p rest e = tags_none b 0 p refl
  tags_there (opens a ∷ l) p rest e =
      let o = opens_there p a (tag_bytes l ++ rest) e in
      tags_open b (length l) p o.0 ∙ ap (λ (x : ℕ). opens x ∷ tags_from b (length l) (p + 4)) o.1
      ∙ ap (opens a ∷◌) (tags_there l (p + 4) rest (later p 4 _ e))
  tags_there (closes ∷ l) p rest e =
      tags_close b (length l) p (closes_there p (tag_bytes l ++ rest) e) ∙ ap (closes ∷◌) (tags_there l (p + 2) rest (later p 2 _ e))

  -- the tag list of a tree, read, is its signature
  pub numbers_there : (t : Tree) (p : ℕ) (rest : List ℕ) → drop p b ≡ tag_bytes (tree_tags t) ++ rest → numbers_in b p (size (whole t)) ≡ signature t
  numbers_there t p rest e =
      ap (λ (x : ℕ). tree_numbers (tree_of (tags_from b x p))) (sym (tags_length (whole t)))
      ∙ ap (λ (l : List Tag). tree_numbers (tree_of l)) (tags_there (tree_tags t) p rest e) ∙ ap tree_numbers (tags_read t)

module _ (all any : Bool) (most : ℕ) (b : List ℕ) where
  -- the name that opens is allowed
  named : (p a : ℕ) → number_at b (p + 2) ≡ a → NotZero any a → nameless_at any b p ≡ false
  named p a e h = go any refl h
    where
      go : (t : Bool) → any ≡ t → NotZero t a → nameless_at any b p ≡ false
      go true q h = nameless_any any b p q
      go false q h = nameless_other any b p (λ z. h (sym e ∙ z))

  pub open_passes : (st : Scan) (a : ℕ) (r : List ℕ) → drop st.at b ≡ 79 ∷ 80 ∷ low a ∷ high a ∷ r → Allowed any a → root_closed st ≡ false
      → st.count < most → step_by (tag_fault any most b) (tag_next b) st ≡ moved (record { at = st.at + 4; depth = st.depth + 1; count = st.count + 1 })
  open_passes st a r e h n f =
      let o = marked_yes b st.at 79 80 (first_at b st.at _ e) (at_place b st.at 1 _ e) in
      let l = long b st.at _ e (omega arith) in
      let two : get_or b (st.at + 2) 0 ≡ low a = at_place b st.at 2 _ e in
      let three : get_or b (st.at + 2 + 1) 0 ≡ high a = (let q : st.at + 2 + 1 ≡ st.at + 3 = omega arith in ap (λ (x : ℕ). get_or b x 0) q ∙ at_place b st.at 3 _ e) in
      let number : number_at b (st.at + 2) ≡ a = omega arith in
      step_passed (tag_fault any most b) (tag_next b) st
      (open_fine any most b st (omega arith) (omega arith) o (omega arith) (named st.at a number h.some) n f)
      ∙ ap moved (next_open any most b st o)

  pub close_passes : (st : Scan) (r : List ℕ) → drop st.at b ≡ 67 ∷ 76 ∷ r → (st.depth ≡ 0 → ⊥)
      → step_by (tag_fault any most b) (tag_next b) st ≡ moved (record { at = st.at + 2; depth = st.depth - 1; count = st.count })
  close_passes st r e h =
      let x = first_at b st.at _ e in
      let o = marked_first b st.at 79 80 (λ z. omega (arith, x)) in
      let k = marked_yes b st.at 67 76 x (at_place b st.at 1 _ e) in
      let l = long b st.at _ e (omega arith) in
      step_passed (tag_fault any most b) (tag_next b) st (close_fine any most b st (omega arith) (omega arith) o k h)
      ∙ ap moved (next_close any most b st o)

  -- where the tags l from st on lead
  pub record Leads (l : List Tag) (st : Scan) (rest : List ℕ) : Type 0 where
    pub to : Scan
    pub passed : Tagged all any most b (length l) st to
    pub depth_is : to.depth ≡ 0
    pub count_is : to.count ≡ st.count + opens_in l
    pub at_is : to.at ≡ st.at + length (tag_bytes l)
    pub rest_is : drop to.at b ≡ rest

  not_ended : (st : Scan) → root_closed st ≡ false → tree_end all b st ≡ false
  not_ended st h = end_open all b st h

  leads_open : (l : List Tag) (st : Scan) (a : ℕ) (rest : List ℕ) → drop st.at b ≡ tag_bytes (opens a ∷ l) ++ rest → Allowed any a
      → root_closed st ≡ false → st.count < most
      → Leads l (record { at = st.at + 4; depth = st.depth + 1; count = st.count + 1 }) rest → Leads (opens a ∷ l) st rest
  unfolding tag_bytes
  leads_open l st a rest e h n f g = record {
    to = g.to;
    passed = move (not_ended st n) (open_passes st a (tag_bytes l ++ rest) e h n f) g.passed;
    depth_is = g.depth_is;
    count_is = omega (arith, g.count_is);
    at_is = omega (arith, g.at_is);
    rest_is = g.rest_is;
  }

  leads_close : (l : List Tag) (st : Scan) (rest : List ℕ) → drop st.at b ≡ tag_bytes (closes ∷ l) ++ rest → (st.depth ≡ 0 → ⊥)
      → Leads l (record { at = st.at + 2; depth = st.depth - 1; count = st.count }) rest → Leads (closes ∷ l) st rest
  unfolding tag_bytes
  leads_close l st rest e h g = record {
    to = g.to;
    passed = move (not_ended st (closed_open st h)) (close_passes st (tag_bytes l ++ rest) e h) g.passed;
    depth_is = g.depth_is;
    count_is = g.count_is;
    at_is = omega (arith, g.at_is);
    rest_is = g.rest_is;
  }

  pub row_passes : (l : List Tag) (d p c : ℕ) (rest : List ℕ) → Nested d l → TagNames any l → c + opens_in l ≤ most
      → drop p b ≡ tag_bytes l ++ rest → Leads l (record { at = p; depth = d; count = c }) rest
  unfolding tag_bytes
  row_passes [] zero p c rest n h f e = record {
    to = record { at = p; depth = 0; count = c };
    passed = stay;
    depth_is = refl;
    count_is = omega arith;
    at_is = omega arith;
    rest_is = e;
  }
  row_passes [] (suc d) p c rest n h f e = absurd n
  row_passes (x ∷ l) zero p c rest n h f e = absurd n
  row_passes (opens a ∷ l) (suc d) p c rest n h f e =
      let q : suc (suc d) ≡ suc d + 1 = omega arith in
      leads_open l (record { at = p; depth = suc d; count = c }) a rest e h.0 (closed_open (record { at = p; depth = suc d; count = c }) (λ z. omega arith)) (omega arith)
      (subst (λ (x : ℕ). Leads l (record { at = p + 4; depth = x; count = c + 1 }) rest) q
      (row_passes l (suc (suc d)) (p + 4) (c + 1) rest n h.1 (omega arith) (later b p 4 _ e)))
  row_passes (closes ∷ l) (suc d) p c rest n h f e =
      let q : d ≡ suc d - 1 = omega arith in
      leads_close l (record { at = p; depth = suc d; count = c }) rest e (λ z. omega arith)
      (subst (λ (x : ℕ). Leads l (record { at = p + 2; depth = x; count = c }) rest) q
      (row_passes l d (p + 2) c rest n h f (later b p 2 _ e)))

  -- the tag list of a tree
  tree_leads : (t : Tree) (p : ℕ) (rest : List ℕ) → Grown any most t → drop p b ≡ tag_bytes (tree_tags t) ++ rest → Leads (tree_tags t) (begin p) rest
  unfolding tags_of tag_bytes
  tree_leads t p rest g e =
      leads_open (tags_of t.below ++ closes ∷ []) (begin p) t.name rest e g.named.0 (closed_none (begin p) (omega arith)) (omega (arith, g.small))
      (row_passes (tags_of t.below ++ closes ∷ []) 1 (p + 4) 1 rest (tree_nested t) (row_names any (whole t) g.named).1
      (omega (arith, opens_row (whole t), g.small)) (later b p 4 _ e))

  -- what the scan comes to
  pub record Scanned (t : Tree) (p : ℕ) (rest : List ℕ) : Type 0 where
    pub number_is : halt_number (tree_scan all any most b p).halt ≡ 0
    pub count_is : (tree_scan all any most b p).state.count ≡ size (whole t)
    pub at_is : (tree_scan all any most b p).state.at ≡ p + 6 * size (whole t)
    pub rest_is : drop (tree_scan all any most b p).state.at b ≡ rest

  -- a whole list has nothing after it
  abbrev pub Last : Bool → List ℕ → Type 0
  Last true rest = rest ≡ []
  Last false rest = Unit {0}

  last_at : (p : ℕ) → p ≤ length b → drop p b ≡ [] → p ≡ length b
  last_at p h e = omega (arith, ap length e, length-drop p b)

  ends : (w : Bool) → w ≡ all → (to : Scan) (rest : List ℕ) → Last w rest → root_closed to ≡ true → to.at ≤ length b → drop to.at b ≡ rest → tree_end all b to ≡ true
  ends true q to rest h c l e = end_last all b to c (sym q) (last_at to.at l (e ∙ h))
  ends false q to rest h c l e = end_here all b to c (sym q)

  pub scan_complete : (t : Tree) (p : ℕ) (rest : List ℕ) → Grown any most t → Last all rest → drop p b ≡ tag_bytes (tree_tags t) ++ rest → Scanned t p rest
  unfolding tags_of
  scan_complete t p rest g h e =
      let x = tree_leads t p rest g e in
      let grow = passed_grow (tree_end all b) (tag_fault any most b) (tag_next b) (length b) (tag_passes all any most b) x.passed in
      let many = opens_row (whole t) in
      let wide = tag_bytes_length (whole t) in
      let closed = closed_yes x.to x.depth_is (omega (arith, x.count_is)) in
      let s = scan_ended (tree_end all b) (tag_fault any most b) (tag_next b) (length b) (tag_passes all any most b) x.passed
      (ends all refl x.to rest h closed (grow.1 (omega arith)) x.rest_is) in
      record {
        number_is = ap (λ (y : Turned Scan). halt_number y.halt) s;
        count_is = ap (λ (y : Turned Scan). y.state.count) s ∙ omega (arith, x.count_is);
        at_is = ap (λ (y : Turned Scan). y.state.at) s ∙ omega (arith, x.at_is);
        rest_is = ap (λ (y : Turned Scan). drop y.state.at b) s ∙ x.rest_is;
      }
