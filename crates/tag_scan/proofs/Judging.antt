-- A tag list that is judged to its end is one whole tree.
--   tag_passes         a tag without refusal goes on, within the bytes
--   passed_nested      tags passed until the root is closed are nested
--   Whole, read_whole  from the beginning on they are one whole tree: its size, and its bytes
use Prim.Native.Nat.{ℕ, zero, suc, ◌+◌, ◌-◌, ◌*◌, ◌≤◌}
use mathlib.Core.Path.{◌≡◌, refl, ap, ◌∙◌, sym, subst}
use mathlib.Core.Logic.{◌⊎◌, inl, inr}
use mathlib.Core.Bool.{Bool, true, false}
use mathlib.Core.List.{List, [], ◌∷◌}
use native.Mathlib.Omega.{arith}
use lib.ListN.{length}
use Rattle.turns.specs.Turn.{moved, Moves, stay, move}
use Rattle.trees.specs.Tags.{Tag, opens, closes, Nested, WholeTags}
use Rattle.bytes_read.specs.Bytes.{number_at}
use Rattle.bytes_read.specs.Scans.{Scan, begin, step_by, halt_number}
use Rattle.tag_scan.specs.TagLists.{root_closed, tag_fault, tag_next, tree_end, tree_scan, tags_from}
use Rattle.bytes_read.proofs.Scanning.{step_inverse, Ended, Faulty, scan_comes}
use Rattle.tag_scan.proofs.TagFaults.{closed_yes, closed_is, end_closed, Opened, Closed, tag_passed, tag_moved}
use Rattle.tag_scan.proofs.TagsFrom.{tags_open, tags_close, tags_none}

nested_open : (d a : ℕ) (l : List Tag) → 1 ≤ d → Nested (d + 1) l → Nested d (opens a ∷ l)
nested_open zero a l h n = absurd (omega arith)
nested_open (suc d) a l h n = let q : suc d + 1 ≡ suc (suc d) = omega arith in subst (λ (x : ℕ). Nested x l) q n

nested_close : (d : ℕ) (l : List Tag) → 1 ≤ d → Nested (d - 1) l → Nested d (closes ∷ l)
nested_close zero l h n = absurd (omega arith)
nested_close (suc d) l h n = let q : suc d - 1 ≡ d = omega arith in subst (λ (x : ℕ). Nested x l) q n

-- an element is open where some were opened and the root is not closed
open_some : (st : Scan) → 1 ≤ st.count → root_closed st ≡ false → 1 ≤ st.depth
open_some st h r = go st.depth refl
  where
    go : (d : ℕ) → st.depth ≡ d → 1 ≤ d
    go zero e = let q = closed_yes st e (omega arith) in let z : ◌≡◌ {A = ℕ} 0 1 = cc in absurd (omega arith)
    go (suc d) e = omega arith

module _ (whole any : Bool) (most : ℕ) (b : List ℕ) where
  abbrev pub Tagged : ℕ → Scan → Scan → Type 0
  Tagged k st to = Moves Scan (tree_end whole b) (step_by (tag_fault any most b) (tag_next b)) k st to

  pub tag_passes : (st : Scan) → tag_fault any most b st ≡ 0 → (st.at + 2 ≤ (tag_next b st).at) × ((tag_next b st).at ≤ length b)
  tag_passes st h = tag_moved any most b st h

  -- a step that was taken opened or closed an element
  pub stepped : (st to : Scan) → step_by (tag_fault any most b) (tag_next b) st ≡ moved to
      → (Opened any most b st × (to ≡ record { at = st.at + 4; depth = st.depth + 1; count = st.count + 1 }))
      ⊎ (Closed any most b st × (to ≡ record { at = st.at + 2; depth = st.depth - 1; count = st.count }))
  stepped st to q =
      let i = step_inverse (tree_end whole b) (tag_fault any most b) (tag_next b) (length b) tag_passes st to q in
      elim (tag_passed any most b st i.0) [ inl o ↦ inl (o, i.1 ∙ o.is) | inr c ↦ inr (c, i.1 ∙ c.is) ]

  -- what tags passed from st to to are
  pub record Nests (k : ℕ) (st to : Scan) : Type 0 where
    pub nested : Nested st.depth (tags_from b k st.at)
    pub steps : k + 2 * st.count ≡ 2 * to.count + st.depth
    pub places : to.at + 2 * st.count ≡ st.at + 2 * k + 2 * to.count
    pub few : st.count ≤ most → to.count ≤ most

  nests_open : {k : ℕ} (st to : Scan) → 1 ≤ st.depth → Opened any most b st
      → Nests k (record { at = st.at + 4; depth = st.depth + 1; count = st.count + 1 }) to → Nests (suc k) st to
  nests_open {k} st to h o n = record {
    nested = rw (tags_open b k st.at o.opens_here) (nested_open st.depth (number_at b (st.at + 2)) (tags_from b k (st.at + 4)) h n.nested);
    steps = omega (arith, n.steps);
    places = omega (arith, n.places);
    few = λ z. n.few (omega (arith, o.few));
  }

  nests_close : {k : ℕ} (st to : Scan) → Closed any most b st
      → Nests k (record { at = st.at + 2; depth = st.depth - 1; count = st.count }) to → Nests (suc k) st to
  nests_close {k} st to c n = record {
    nested = rw (tags_close b k st.at c.opens_not) (nested_close st.depth (tags_from b k (st.at + 2)) c.some_open n.nested);
    steps = omega (arith, n.steps, c.some_open);
    places = omega (arith, n.places);
    few = λ z. n.few z;
  }

  pub passed_nested : {k : ℕ} {st to : Scan} → 1 ≤ st.count → Tagged k st to → root_closed to ≡ true → Nests k st to
  passed_nested {st = st} h stay r =
      let z = closed_is st r in
      record {
        nested = rw (tags_none b 0 st.at refl) (subst (λ (d : ℕ). Nested d []) (sym z.0) tt);
        steps = omega (arith, z.0);
        places = omega arith;
        few = λ w. w;
      }
  passed_nested {st = st} {to = to} h (move {k = k} {mid = mid} f q m) r = go (stepped st mid q) (λ w. passed_nested {st = mid} {to = to} w m r)
    where
      go : ((Opened any most b st × (mid ≡ record { at = st.at + 4; depth = st.depth + 1; count = st.count + 1 }))
          ⊎ (Closed any most b st × (mid ≡ record { at = st.at + 2; depth = st.depth - 1; count = st.count })))
          → (1 ≤ mid.count → Nests k mid to) → Nests (suc k) st to
      go (inl o) ih =
          let c_is = ap (λ (s : Scan). s.count) o.1 in
          nests_open st to (open_some st h o.0.nested) o.0 (subst (λ (s : Scan). Nests k s to) o.1 (ih (omega (arith, c_is))))
      go (inr c) ih =
          let c_is = ap (λ (s : Scan). s.count) c.1 in
          nests_close st to c.0 (subst (λ (s : Scan). Nests k s to) c.1 (ih (omega (arith, c_is))))

  -- from the beginning on: one whole tree
  pub record Whole (p : ℕ) (k : ℕ) (to : Scan) : Type 0 where
    pub tags : WholeTags (tags_from b (2 * to.count) p)
    pub steps : k ≡ 2 * to.count
    pub places : to.at ≡ p + 6 * to.count
    pub some : 1 ≤ to.count
    pub few : to.count ≤ most

  pub passed_whole : {k p : ℕ} {to : Scan} → Tagged k (begin p) to → root_closed to ≡ true → Whole p k to
  passed_whole {p = p} stay r = let z = closed_is (begin p) r in absurd (omega (arith, z.1))
  passed_whole {p = p} {to = to} (move {k = k} {mid = mid} f q m) r =
      go (stepped (begin p) mid q) (λ w. passed_nested {st = mid} {to = to} w m r)
    where
      go : ((Opened any most b (begin p) × (mid ≡ record { at = p + 4; depth = 0 + 1; count = 0 + 1 }))
          ⊎ (Closed any most b (begin p) × (mid ≡ record { at = p + 2; depth = 0 - 1; count = 0 })))
          → (1 ≤ mid.count → Nests k mid to) → Whole p (suc k) to
      go (inr c) ih = absurd (omega (arith, c.0.some_open))
      go (inl o) ih =
          let c_is = ap (λ (s : Scan). s.count) o.1 in
          let n = subst (λ (s : Scan). Nests k s to) o.1 (ih (omega (arith, c_is))) in
          let many : suc k ≡ 2 * to.count = omega (arith, n.steps) in
          record {
            tags = subst (λ (x : ℕ). WholeTags (tags_from b x p)) many (rw (tags_open b k p o.0.opens_here) n.nested);
            steps = many;
            places = omega (arith, n.places, n.steps);
            some = omega (arith, n.steps);
            few = n.few (omega (arith, o.0.few));
          }

  -- bytes that are read without a refusal
  pub read_whole : (p : ℕ) → halt_number (tree_scan whole any most b p).halt ≡ 0
      → (k : ℕ) × Tagged k (begin p) (tree_scan whole any most b p).state × Whole p k (tree_scan whole any most b p).state
  read_whole p h = go (scan_comes (tree_end whole b) (tag_fault any most b) (tag_next b) (length b) tag_passes (begin p))
    where
      go : Ended (tree_end whole b) (tag_fault any most b) (tag_next b) (length b) tag_passes (begin p)
          ⊎ Faulty (tree_end whole b) (tag_fault any most b) (tag_next b) (length b) tag_passes (begin p)
          → (k : ℕ) × Tagged k (begin p) (tree_scan whole any most b p).state × Whole p k (tree_scan whole any most b p).state
      go (inl e) = (e.many, e.passed, passed_whole e.passed (end_closed whole b _ e.done))
      go (inr e) = absurd (e.some (sym e.number_is ∙ h))
