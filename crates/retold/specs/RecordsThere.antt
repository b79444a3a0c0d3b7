-- Signature records there and back.
--   Readable, records_read   records that are read without a refusal: how many, all with names, and written back the same bytes
--   records_written          a signature that is written without a refusal, read back, is the same numbers
use Prim.Native.Nat.{ℕ, zero, suc, ◌+◌, ◌*◌, ◌≤◌, ◌<◌}
use Rattle.std.proofs.Math.Path.{◌≡◌, refl, ap, subst}
use Rattle.std.proofs.Common.{◌∙◌, sym, inl, inr, arith, drop-drop}
use Rattle.std.specs.Prelude.{◌⊎◌, Bool, ◌||◌, ◌&&◌, get_or}
use Rattle.std.proofs.Math.Bool.{true, false}
use mathlib.Core.List.{List, [], ◌∷◌, ◌++◌, append-nil}
use Rattle.std.proofs.Math.ListN.{length, drop, length-drop}
use Rattle.std.proofs.Math.Seq.{drop-length}
use Rattle.std.proofs.Math.Dec.{eqb, ltb}
use borrow.Author.Tests.{ne_eqb, eqb-true, eqb-false, ltb-true}
use Rattle.turns.specs.Turn.{moved, Moves, stay, move, Turned}
use Rattle.bytes_read.specs.Bytes.{number_at, low, high, marked}
use Rattle.bytes_read.specs.Scans.{Scan, begin, step_by, halt_number}
use Rattle.records.specs.Records.{record_fault, record_next, records_end, records_scan, numbers_from, entry_bytes, bytes_from, nameless_from}
use Rattle.bytes_read.proofs.Marks.{marked_is, marked_yes}
use Rattle.records.proofs.Faults.{Passed, record_passed, record_fine, records_end_law, records_more}
use Rattle.bytes_read.proofs.Scanning.{step_passed, step_inverse, Ended, Faulty, scan_comes, scan_ended}
use Rattle.retold.specs.Taken.{Bytes}
use Rattle.retold.specs.Places.{at_place, first_at, two_at}

-- ---- two bytes and a number

module _ (b : List ℕ) where
  -- the number that stands there, as bytes
  number_bytes : Bytes b → (p q : ℕ) → p + 2 ≤ length b → p + 2 ≡ q → drop p b ≡ low (number_at b p) ∷ high (number_at b p) ∷ drop q b
  number_bytes h p q l e =
      let x = h p in
      let y = h (p + 1) in
      let u : get_or b p 0 ≡ low (number_at b p) = omega arith in
      let v : get_or b (p + 1) 0 ≡ high (number_at b p) = omega arith in
      two_at b p l ∙ ap (λ (z : ℕ). z ∷ get_or b (p + 1) 0 ∷ drop (p + 2) b) u ∙ ap (λ (z : ℕ). low (number_at b p) ∷ z ∷ drop (p + 2) b) v
      ∙ ap (λ (z : ℕ). low (number_at b p) ∷ high (number_at b p) ∷ drop z b) e

  -- a record that stands there
  record_bytes : Bytes b → (p : ℕ) → p + 10 ≤ length b → marked b p 83 69 ≡ true
      → drop p b ≡ entry_bytes (number_at b (p + 2)) (number_at b (p + 4)) (number_at b (p + 6)) (number_at b (p + 8)) (drop (p + 10) b)
  record_bytes h p l m =
      let k = marked_is b p 83 69 m in
      two_at b p (omega arith) ∙ ap (λ (z : ℕ). z ∷ get_or b (p + 1) 0 ∷ drop (p + 2) b) k.0 ∙ ap (λ (z : ℕ). 83 ∷ z ∷ drop (p + 2) b) k.1
      ∙ ap (λ (r : List ℕ). 83 ∷ 69 ∷ r) (number_bytes h (p + 2) (p + 4) (omega arith) (omega arith)
      ∙ ap (λ (r : List ℕ). low (number_at b (p + 2)) ∷ high (number_at b (p + 2)) ∷ r) (number_bytes h (p + 4) (p + 6) (omega arith) (omega arith)
      ∙ ap (λ (r : List ℕ). low (number_at b (p + 4)) ∷ high (number_at b (p + 4)) ∷ r) (number_bytes h (p + 6) (p + 8) (omega arith) (omega arith)
      ∙ ap (λ (r : List ℕ). low (number_at b (p + 6)) ∷ high (number_at b (p + 6)) ∷ r) (number_bytes h (p + 8) (p + 10) (omega arith) (omega arith)))))

-- ---- entries further on in a longer list

bytes_shift : (x y z w : ℕ) (s : List ℕ) (k n : ℕ) → bytes_from (x ∷ y ∷ z ∷ w ∷ s) (k + 4) n ≡ bytes_from s k n
unfolding bytes_from
bytes_shift x y z w s k zero = refl
bytes_shift x y z w s k (suc n) =
    let a : k + 4 ≡ suc (suc (suc (suc k))) = omega arith in
    let b : k + 4 + 1 ≡ suc (suc (suc (suc (k + 1)))) = omega arith in
    let c : k + 4 + 2 ≡ suc (suc (suc (suc (k + 2)))) = omega arith in
    let d : k + 4 + 3 ≡ suc (suc (suc (suc (k + 3)))) = omega arith in
    let l : List ℕ = x ∷ y ∷ z ∷ w ∷ s in
    ap (λ (i : ℕ). entry_bytes (get_or l i 0) (get_or l (k + 4 + 1) 0) (get_or l (k + 4 + 2) 0) (get_or l (k + 4 + 3) 0) (bytes_from l (k + 4 + 4) n)) a
    ∙ ap (λ (i : ℕ). entry_bytes (get_or s k 0) (get_or l i 0) (get_or l (k + 4 + 2) 0) (get_or l (k + 4 + 3) 0) (bytes_from l (k + 4 + 4) n)) b
    ∙ ap (λ (i : ℕ). entry_bytes (get_or s k 0) (get_or s (k + 1) 0) (get_or l i 0) (get_or l (k + 4 + 3) 0) (bytes_from l (k + 4 + 4) n)) c
    ∙ ap (λ (i : ℕ). entry_bytes (get_or s k 0) (get_or s (k + 1) 0) (get_or s (k + 2) 0) (get_or l i 0) (bytes_from l (k + 4 + 4) n)) d
    ∙ ap (entry_bytes (get_or s k 0) (get_or s (k + 1) 0) (get_or s (k + 2) 0) (get_or s (k + 3) 0)) (bytes_shift x y z w s (k + 4) n)

nameless_shift : (x y z w : ℕ) (s : List ℕ) (k n : ℕ) → nameless_from (x ∷ y ∷ z ∷ w ∷ s) (k + 4) n ≡ nameless_from s k n
unfolding nameless_from
nameless_shift x y z w s k zero = refl
nameless_shift x y z w s k (suc n) =
    let a : k + 4 ≡ suc (suc (suc (suc k))) = omega arith in
    let l : List ℕ = x ∷ y ∷ z ∷ w ∷ s in
    ap (λ (i : ℕ). eqb (get_or l i 0) 0 || nameless_from l (k + 4 + 4) n) a
    ∙ ap (λ (t : Bool). eqb (get_or s k 0) 0 || t) (nameless_shift x y z w s (k + 4) n)

-- ---- read, then written

module _ (b : List ℕ) where
  pub record_passes : (st : Scan) → record_fault b st ≡ 0 → (st.at + 2 ≤ (record_next st).at) × ((record_next st).at ≤ length b)
  record_passes st h = let p = record_passed b st h in (omega arith, p.whole)

  abbrev Recorded : ℕ → Scan → Scan → Type 0
  Recorded k st to = Moves Scan (records_end b) (step_by (record_fault b) record_next) k st to

  stepped : (st to : Scan) → step_by (record_fault b) record_next st ≡ moved to → Passed b st × (to ≡ record_next st)
  stepped st to q = let i = step_inverse (records_end b) (record_fault b) record_next (length b) record_passes st to q in (record_passed b st i.0, i.1)

  -- the numbers of the records passed, as bytes, are the bytes that stand there
  record Stands (k : ℕ) (st to : Scan) : Type 0 where
    bytes_are : drop st.at b ≡ bytes_from (numbers_from b st.at k) 0 k ++ drop to.at b
    count_is : to.count ≡ st.count + k
    named : nameless_from (numbers_from b st.at k) 0 k ≡ false
    few : st.count ≤ 4096 → to.count ≤ 4096

  passed_stands : Bytes b → {k : ℕ} {st to : Scan} → Recorded k st to → Stands k st to
  unfolding numbers_from bytes_from nameless_from
  passed_stands h stay = record { bytes_are = refl; count_is = omega arith; named = refl; few = λ z. z }
  passed_stands h {st = st} {to = to} (move {k = k} {mid = mid} f q m) = go (stepped st mid q) (passed_stands h m)
    where
      go : Passed b st × (mid ≡ record_next st) → Stands k mid to → Stands (suc k) st to
      go p ih =
          let n = subst (λ (s : Scan). Stands k s to) p.1 ih in
          record {
            bytes_are = record_bytes b h st.at p.0.whole p.0.known
                ∙ ap (entry_bytes (number_at b (st.at + 2)) (number_at b (st.at + 4)) (number_at b (st.at + 6)) (number_at b (st.at + 8)))
                (n.bytes_are ∙ ap (λ (r : List ℕ). r ++ drop to.at b)
                (sym (bytes_shift (number_at b (st.at + 2)) (number_at b (st.at + 4)) (number_at b (st.at + 6)) (number_at b (st.at + 8))
                (numbers_from b (st.at + 10) k) 0 k)));
            count_is = omega (arith, n.count_is);
            named = ap (λ (t : Bool). t || nameless_from (numbers_from b st.at (suc k)) (0 + 4) k) (ne_eqb _ _ p.0.named)
                ∙ nameless_shift (number_at b (st.at + 2)) (number_at b (st.at + 4)) (number_at b (st.at + 6)) (number_at b (st.at + 8)) (numbers_from b (st.at + 10) k) 0 k
                ∙ n.named;
            few = λ z. n.few (omega (arith, p.0.room));
          }

  end_at_law : (st : Scan) → records_end b st ≡ true → (st.at ≡ length b) × (0 < st.count)
  unfolding records_end
  end_at_law st = go (eqb st.at (length b)) (ltb 0 st.count) refl refl
    where
      go : (t c : Bool) → eqb st.at (length b) ≡ t → ltb 0 st.count ≡ c → (t && c) ≡ true → (st.at ≡ length b) × (0 < st.count)
      go true true u v h = (eqb-true _ _ u, ltb-true _ _ v)
      go true false u v h = let z : ◌≡◌ {A = ℕ} 0 1 = cc in absurd (omega arith)
      go false c u v h = let z : ◌≡◌ {A = ℕ} 0 1 = cc in absurd (omega arith)

  -- n records that are read without a refusal; written back, they are the same bytes
  pub record Readable (n : ℕ) : Type 0 where
    pub some : 1 ≤ n
    pub few : n ≤ 4096
    pub named : nameless_from (numbers_from b 0 n) 0 n ≡ false
    pub same : bytes_from (numbers_from b 0 n) 0 n ≡ b

  pub records_read : Bytes b → halt_number (records_scan b).halt ≡ 0 → Readable (records_scan b).state.count
  records_read h z = go (scan_comes (records_end b) (record_fault b) record_next (length b) record_passes (begin 0))
    where
      to : Scan
      to = (records_scan b).state

      go : Ended (records_end b) (record_fault b) record_next (length b) record_passes (begin 0)
          ⊎ Faulty (records_end b) (record_fault b) record_next (length b) record_passes (begin 0) → Readable (records_scan b).state.count
      go (inr e) = absurd (e.some (sym e.number_is ∙ z))
      go (inl e) =
          let s = passed_stands h e.passed in
          let last = end_at_law to e.done in
          let k : e.many ≡ to.count = omega (arith, s.count_is) in
          subst Readable k (record {
            some = omega (arith, k, last.1);
            few = omega (arith, k, s.few (omega arith));
            named = s.named;
            same = sym (s.bytes_are
                ∙ ap (λ (p : ℕ). bytes_from (numbers_from b 0 e.many) 0 e.many ++ drop p b) last.0
                ∙ ap (λ (r : List ℕ). bytes_from (numbers_from b 0 e.many) 0 e.many ++ r) (drop-length b)
                ∙ append-nil (bytes_from (numbers_from b 0 e.many) 0 e.many));
          })

-- ---- written, then read

-- the numbers of n entries, from number k on
unfoldable entries_from : List ℕ → ℕ → ℕ → List ℕ
entries_from s k zero = []
entries_from s k (suc n) = get_or s k 0 ∷ get_or s (k + 1) 0 ∷ get_or s (k + 2) 0 ∷ get_or s (k + 3) 0 ∷ entries_from s (k + 4) n

entries_all : (s : List ℕ) (k n : ℕ) → k + 4 * n ≡ length s → entries_from s k n ≡ drop k s
unfolding entries_from
entries_all s k zero e = let q : k ≡ length s = omega arith in sym (ap (λ (x : ℕ). drop x s) q ∙ drop-length s)
entries_all s k (suc n) e =
    let a : k + 1 + 1 ≡ k + 2 = omega arith in
    let c : k + 2 + 1 ≡ k + 3 = omega arith in
    let d : k + 2 + 2 ≡ k + 4 = omega arith in
    sym (two_at s k (omega arith)
    ∙ ap (λ (r : List ℕ). get_or s k 0 ∷ get_or s (k + 1) 0 ∷ r) (two_at s (k + 2) (omega arith)
    ∙ ap (λ (x : ℕ). get_or s (k + 2) 0 ∷ get_or s x 0 ∷ drop (k + 2 + 2) s) c
    ∙ ap (λ (x : ℕ). get_or s (k + 2) 0 ∷ get_or s (k + 3) 0 ∷ drop x s) d
    ∙ ap (λ (r : List ℕ). get_or s (k + 2) 0 ∷ get_or s (k + 3) 0 ∷ r) (sym (entries_all s (k + 4) n (omega arith)))))

module _ (s b : List ℕ) (words : (i : ℕ) → get_or s i 0 < 65536) where
  -- the four numbers of a record that stands there
  number_there : (p i j a : ℕ) (l : List ℕ) → drop p b ≡ l → get_or l i 0 ≡ low a → get_or l j 0 ≡ high a → j ≡ i + 1 → a < 65536
      → number_at b (p + i) ≡ a
  number_there p i j a l e u v q h =
      let x = at_place b p i l e ∙ u in
      let r : p + i + 1 ≡ p + j = omega arith in
      let y = ap (λ (z : ℕ). get_or b z 0) r ∙ at_place b p j l e ∙ v in
      omega arith

  record Written (m : ℕ) (st : Scan) (k : ℕ) : Type 0 where
    to : Scan
    passed : Recorded b m st to
    count_is : to.count ≡ st.count + m
    at_is : to.at ≡ length b
    numbers : numbers_from b st.at m ≡ entries_from s k m

  named_here : (k m : ℕ) → nameless_from s k (suc m) ≡ false → (get_or s k 0 ≡ 0 → ⊥) × (nameless_from s (k + 4) m ≡ false)
  unfolding nameless_from
  named_here k m = go (eqb (get_or s k 0) 0) refl
    where
      go : (t : Bool) → eqb (get_or s k 0) 0 ≡ t → (t || nameless_from s (k + 4) m) ≡ false → (get_or s k 0 ≡ 0 → ⊥) × (nameless_from s (k + 4) m ≡ false)
      go true u h = let z : ◌≡◌ {A = ℕ} 0 1 = cc in absurd (omega arith)
      go false u h = (eqb-false _ _ u, h)

  written_passes : (m k p c : ℕ) → p ≤ length b → drop p b ≡ bytes_from s k m → nameless_from s k m ≡ false → c + m ≤ 4096
      → Written m (record { at = p; depth = 0; count = c }) k
  unfolding bytes_from numbers_from entries_from
  written_passes zero k p c l e n f =
      record {
        to = record { at = p; depth = 0; count = c };
        passed = stay;
        count_is = omega arith;
        at_is = omega (arith, ap length e, length-drop p b);
        numbers = refl;
      }
  written_passes (suc m) k p c l e n f = go (written_passes m (k + 4) (p + 10) (c + 1))
    where
      long : length b ≡ p + 10 + length (bytes_from s (k + 4) m)
      long = omega (arith, ap length e, length-drop p b)

      start : Scan
      start = record { at = p; depth = 0; count = c }

      first : get_or b p 0 ≡ 83
      first = first_at b p _ e

      name_is : number_at b (p + 2) ≡ get_or s k 0
      name_is = number_there p 2 3 (get_or s k 0) _ e refl refl refl (words k)

      fine : record_fault b start ≡ 0
      fine = record_fine b start (omega (arith, long)) (marked_yes b p 83 69 first (at_place b p 1 _ e)) (omega (arith, long))
          (λ z. (named_here k m n).0 (sym name_is ∙ z)) (omega arith)

      go : (p + 10 ≤ length b → drop (p + 10) b ≡ bytes_from s (k + 4) m → nameless_from s (k + 4) m ≡ false → c + 1 + m ≤ 4096
          → Written m (record { at = p + 10; depth = 0; count = c + 1 }) (k + 4)) → Written (suc m) start k
      go ih =
          let g = ih (omega (arith, long)) (sym (drop-drop 10 p b) ∙ ap (drop 10) e) (named_here k m n).1 (omega arith) in
          let two = number_there p 4 5 (get_or s (k + 1) 0) _ e refl refl refl (words (k + 1)) in
          let three = number_there p 6 7 (get_or s (k + 2) 0) _ e refl refl refl (words (k + 2)) in
          let four = number_there p 8 9 (get_or s (k + 3) 0) _ e refl refl refl (words (k + 3)) in
          record {
            to = g.to;
            passed = move (records_more b start (λ z. omega (arith, long))) (step_passed (record_fault b) record_next start fine) g.passed;
            count_is = omega (arith, g.count_is);
            at_is = g.at_is;
            numbers = cc (name_is, two, three, four, g.numbers);
          }

-- a signature that is written without a refusal, read back, is the same numbers
pub records_written : (s : List ℕ) (n : ℕ) → ((i : ℕ) → get_or s i 0 < 65536) → 4 * n ≡ length s → 1 ≤ n → n ≤ 4096 → nameless_from s 0 n ≡ false
    → (halt_number (records_scan (bytes_from s 0 n)).halt ≡ 0) × (numbers_from (bytes_from s 0 n) 0 (records_scan (bytes_from s 0 n)).state.count ≡ s)
records_written s n w l some few h =
    let b : List ℕ = bytes_from s 0 n in
    let x = written_passes s b w n 0 0 0 (omega arith) refl h (omega arith) in
    let e = scan_ended (records_end b) (record_fault b) record_next (length b) (record_passes b) x.passed
    (records_end_law b x.to x.at_is (omega (arith, x.count_is))) in
    let c : (records_scan b).state.count ≡ n = ap (λ (t : Turned Scan). t.state.count) e ∙ omega (arith, x.count_is) in (
      ap (λ (t : Turned Scan). halt_number t.halt) e,
      ap (numbers_from b 0) c ∙ x.numbers ∙ entries_all s 0 n (omega arith),
    )
