-- Bytes that are read without a refusal are the bytes of a tree's tag list.
--   passed_names       the names of tags that were passed are allowed
--   passed_bytes       the tags that were passed are the bytes that stand there
--   Read, scan_sound   what a scan that refused nothing has read
use Rattle.std.specs.Prelude.{ℕ, suc, ◌+◌, ◌-◌, ◌*◌, ◌≤◌, ◌<◌, ◌≡◌, refl, ◌⊎◌, Bool, true, false, length, get_or}
use Rattle.std.proofs.Math.Path.{ap}
use Rattle.std.proofs.Common.{◌∙◌, sym, subst, inl, inr, arith}
use mathlib.Core.List.{List, ◌∷◌, ◌++◌}
use Rattle.std.proofs.Math.ListN.{drop}
use Rattle.std.proofs.lemmas.Bool.{eqb-false}
use Rattle.turns.specs.Turn.{stay, move}
use Rattle.trees.specs.Tree.{Tree, size, whole, NotZero, Allowed, Grown}
use Rattle.trees.specs.Signature.{signature}
use Rattle.trees.specs.Tags.{Tag, tree_tags}
use Rattle.bytes_read.specs.Bytes.{number_at, low, high}
use Rattle.bytes_read.specs.Scans.{Scan, halt_number}
use Rattle.tag_scan.specs.TagLists.{opening, closing, nameless_at, tree_scan, tag_bytes, tags_from, numbers_in}
use Rattle.bytes_read.proofs.Marks.{marked_is}
use Rattle.tag_scan.proofs.TagFaults.{Opened, Closed}
use Rattle.tag_scan.proofs.TagsFrom.{tags_open, tags_close, tags_none}
use Rattle.tag_building.proofs.Build.{whole_numbers}
use Rattle.tag_scan.proofs.Judging.{Tagged, stepped, read_whole}
use Rattle.retold.specs.Taken.{Bytes}
use Rattle.retold.specs.Places.{two_at}
use Rattle.retold.specs.Names.{TagNames, names_row}

-- two bytes make a number, and it has these two bytes
number_low : (x y : ℕ) → x < 256 → y < 256 → low (x + 256 * y) ≡ x
number_low x y h k = omega arith

number_high : (x y : ℕ) → x < 256 → y < 256 → high (x + 256 * y) ≡ y
number_high x y h k = omega arith

not_zero : (any : Bool) (b : List ℕ) (p : ℕ) → nameless_at any b p ≡ false → NotZero any (number_at b (p + 2))
unfolding nameless_at
not_zero true b p h = tt
not_zero false b p h = eqb-false _ _ h

module _ (all any : Bool) (most : ℕ) (b : List ℕ) (bytes : Bytes b) where
  allowed : (p : ℕ) → nameless_at any b p ≡ false → Allowed any (number_at b (p + 2))
  allowed p h = record { code = omega (arith, bytes (p + 2), bytes (p + 2 + 1)); some = not_zero any b p h }

  pub passed_names : {k : ℕ} {st to : Scan} → Tagged all any most b k st to → TagNames any (tags_from b k st.at)
  passed_names {st = st} stay = rw (tags_none b 0 st.at refl) tt
  passed_names {st = st} {to = to} (move {k = k} {mid = mid} f q m) = go (stepped all any most b st mid q) (passed_names m)
    where
      go : ((Opened any most b st × (mid ≡ record { at = st.at + 4; depth = st.depth + 1; count = st.count + 1 }))
          ⊎ (Closed any most b st × (mid ≡ record { at = st.at + 2; depth = st.depth - 1; count = st.count })))
          → TagNames any (tags_from b k mid.at) → TagNames any (tags_from b (suc k) st.at)
      go (inl o) ih =
          rw (tags_open b k st.at o.0.opens_here)
          (allowed st.at o.0.named, subst (λ (s : Scan). TagNames any (tags_from b k s.at)) o.1 ih)
      go (inr c) ih =
          rw (tags_close b k st.at c.0.opens_not) (subst (λ (s : Scan). TagNames any (tags_from b k s.at)) c.1 ih)

  -- the record of an element that opens, and of one that closes
  open_bytes : (p : ℕ) (rest : List ℕ) → opening b p ≡ true → p + 4 ≤ length b → drop (p + 4) b ≡ rest
      → drop p b ≡ 79 ∷ 80 ∷ low (number_at b (p + 2)) ∷ high (number_at b (p + 2)) ∷ rest
  open_bytes p rest h l e =
      let m = marked_is b p 79 80 h in
      let q : p + 2 + 2 ≡ p + 4 = omega arith in
      two_at b p (omega arith)
      ∙ ap (λ (x : ℕ). x ∷ get_or b (p + 1) 0 ∷ drop (p + 2) b) m.0 ∙ ap (λ (x : ℕ). 79 ∷ x ∷ drop (p + 2) b) m.1
      ∙ ap (λ (r : List ℕ). 79 ∷ 80 ∷ r) (two_at b (p + 2) (omega arith)
      ∙ ap (λ (x : ℕ). x ∷ get_or b (p + 2 + 1) 0 ∷ drop (p + 2 + 2) b) (sym (number_low _ _ (bytes (p + 2)) (bytes (p + 2 + 1))))
      ∙ ap (λ (x : ℕ). low (number_at b (p + 2)) ∷ x ∷ drop (p + 2 + 2) b) (sym (number_high _ _ (bytes (p + 2)) (bytes (p + 2 + 1))))
      ∙ ap (λ (r : List ℕ). low (number_at b (p + 2)) ∷ high (number_at b (p + 2)) ∷ r) (ap (λ (x : ℕ). drop x b) q ∙ e))

  close_bytes : (p : ℕ) (rest : List ℕ) → closing b p ≡ true → p + 2 ≤ length b → drop (p + 2) b ≡ rest → drop p b ≡ 67 ∷ 76 ∷ rest
  close_bytes p rest h l e =
      let m = marked_is b p 67 76 h in
      two_at b p l ∙ ap (λ (x : ℕ). x ∷ get_or b (p + 1) 0 ∷ drop (p + 2) b) m.0 ∙ ap (λ (x : ℕ). 67 ∷ x ∷ drop (p + 2) b) m.1
      ∙ ap (λ (r : List ℕ). 67 ∷ 76 ∷ r) e

  pub passed_bytes : {k : ℕ} {st to : Scan} → Tagged all any most b k st to
      → drop st.at b ≡ tag_bytes (tags_from b k st.at) ++ drop to.at b
  unfolding tag_bytes
  passed_bytes {st = st} stay = ap (λ (l : List Tag). tag_bytes l ++ drop st.at b) (sym (tags_none b 0 st.at refl))
  passed_bytes {st = st} {to = to} (move {k = k} {mid = mid} f q m) = go (stepped all any most b st mid q) (passed_bytes m)
    where
      go : ((Opened any most b st × (mid ≡ record { at = st.at + 4; depth = st.depth + 1; count = st.count + 1 }))
          ⊎ (Closed any most b st × (mid ≡ record { at = st.at + 2; depth = st.depth - 1; count = st.count })))
          → drop mid.at b ≡ tag_bytes (tags_from b k mid.at) ++ drop to.at b
          → drop st.at b ≡ tag_bytes (tags_from b (suc k) st.at) ++ drop to.at b
      go (inl o) ih =
          open_bytes st.at _ o.0.opens_here o.0.body
          (subst (λ (s : Scan). drop s.at b ≡ tag_bytes (tags_from b k s.at) ++ drop to.at b) o.1 ih)
          ∙ ap (λ (l : List Tag). tag_bytes l ++ drop to.at b) (sym (tags_open b k st.at o.0.opens_here))
      go (inr c) ih =
          close_bytes st.at _ c.0.closes_here c.0.mark
          (subst (λ (s : Scan). drop s.at b ≡ tag_bytes (tags_from b k s.at) ++ drop to.at b) c.1 ih)
          ∙ ap (λ (l : List Tag). tag_bytes l ++ drop to.at b) (sym (tags_close b k st.at c.0.opens_not))

  -- what a scan that refused nothing has read
  pub record Read (p : ℕ) (to : Scan) : Type 0 where
    pub tree : Tree
    pub grown : Grown any most tree
    pub many : size (whole tree) ≡ to.count
    pub bytes_are : drop p b ≡ tag_bytes (tree_tags tree) ++ drop to.at b
    pub ends : to.at ≡ p + 6 * to.count
    pub numbers : numbers_in b p to.count ≡ signature tree

  pub scan_sound : (p : ℕ) → halt_number (tree_scan all any most b p).halt ≡ 0 → Read p (tree_scan all any most b p).state
  scan_sound p h =
      let r = read_whole all any most b p h in
      let w = r.2 in
      let to : Scan = (tree_scan all any most b p).state in
      let t = whole_numbers b p to.count w.tags in
      let tags_are : tree_tags t.tree ≡ tags_from b r.0 p = t.tags ∙ ap (λ (x : ℕ). tags_from b x p) (sym w.steps) in
      record {
        tree = t.tree;
        grown = record {
          named = names_row any (whole t.tree) (subst (TagNames any) (sym tags_are) (passed_names r.1));
          small = omega (arith, t.many, w.few);
        };
        many = t.many;
        bytes_are = passed_bytes r.1 ∙ ap (λ (l : List Tag). tag_bytes l ++ drop to.at b) (sym tags_are);
        ends = w.places;
        numbers = t.numbers;
      }
