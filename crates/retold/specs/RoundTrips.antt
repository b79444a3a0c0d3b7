-- There and back, over the promises of both calls: the numbers or bytes that one call says it wrote at the front of its room, handed to the other call,
-- come back as they were. The part handed on is any s with the told length that the room begins with.
--   tags_there_and_back, tags_back_and_there          tag lists
--   records_there_and_back, records_back_and_there    signature records
--   ended_accepted, back_accepted                     a whole check that ends has accepted; so has that of a signature that was written as a tag list
use Rattle.std.specs.Prelude.{ℕ, ◌+◌, ◌*◌, ◌/◌, ◌≤◌, ◌≡◌, refl, Bool, true, false, List, [], ◌∷◌, ◌++◌, length, eqb, Ok}
use Rattle.std.proofs.Common.{ap, ◌∙◌, sym, subst, arith, eqb-true}
use Rattle.std.proofs.Math.Decide.{ℕ_discrete}
use Rattle.std.proofs.lemmas.Bool.{eqb-false}
use Rattle.turns.specs.Pick.{pick}
use Rattle.turns.specs.Turn.{Halt}
use Rattle.trees.specs.Signature.{width}
use Rattle.terms.specs.Kinds.{most}
use Rattle.checking.specs.Rule.{fresh}
use Rattle.terms.specs.Stops.{Answered, halt_told, verdict_told, Written}
use Rattle.checking.specs.Turn.{turn_of}
use Rattle.terms.specs.Length.{length_fault}
use Rattle.checking.specs.Whole.{whole_of}
use Rattle.terms.specs.declared.Kind.{Kind}
use Rattle.terms.proofs.Lengths.{length_sized, length_fine}
use Rattle.checked.specs.Yields.{Words}
use Rattle.checked.specs.Wholly.{whole_exactly}
use Rattle.terms.specs.Room.{Left, front_with}
use Rattle.records.specs.Records.{records_scan, numbers_from, bytes_from, nameless_from, write_fault, ReadPromise, WritePromise}
use Rattle.records.proofs.Faults.{write_fine}
use Rattle.records.proofs.Filling.{numbers_length}
use Rattle.tag_lists.specs.Readers.{TagsPromise}
use Rattle.tag_writing.specs.TagsBack.{back_bytes, BackPromise}
use Rattle.tag_writing.proofs.Back.{left_as}
use Rattle.retold.specs.Rooms.{front_of_room, fits_written}
use Rattle.retold.specs.Taken.{Bytes}
use Rattle.retold.specs.Exact.{fine_taken}
use Rattle.retold.specs.There.{accepted_left, back_and_there, there_and_back}
use Rattle.retold.specs.RecordsThere.{Readable, records_read, records_written}
use Rattle.retold.specs.Calls.{back_unaccepted}

-- two fronts of one list that are equally long are equal
front_same : (s r x y : List ℕ) → length s ≡ length r → s ++ x ≡ r ++ y → s ≡ r
front_same [] [] x y l e = refl
front_same [] (c ∷ r) x y l e = absurd (omega arith)
front_same (a ∷ s) [] x y l e = absurd (omega arith)
front_same (a ∷ s) (c ∷ r) x y l e =
    let h : a ≡ c = cc in
    let t : s ++ x ≡ r ++ y = cc in
    let m = front_same s r x y (omega arith) t in
    cc

-- ---- tag lists

-- bytes to numbers to bytes
pub tags_there_and_back : (k : Kind) (b : List ℕ) → Bytes b → (room after : List ℕ) (n : ℕ) → TagsPromise k b room (Ok n) after
    → (s rest : List ℕ) → after ≡ s ++ rest → length s ≡ n → (space : List ℕ) (w : Written) (out : List ℕ) → BackPromise k s space w out
    → length b ≤ length space → (w ≡ Ok (length b)) × (out ≡ front_with b space)
tags_there_and_back k b bytes room after n p s rest e m space w out q l =
    let f = front_of_room _ 0 _ room (Ok n) after p n refl in
    let y = fine_taken k b bytes f.fine in
    let same = front_same s _ rest _ (m ∙ f.long) (sym e ∙ f.left) ∙ y.1 in
    there_and_back k b y.0 space w out (subst (λ (x : List ℕ). BackPromise k x space w out) same q) l

-- a whole check that ends has accepted
pub ended_accepted : (h : Halt) → (halt_told h).reason ≡ 1 → verdict_told (Ok tt) ≡ halt_told h
ended_accepted Halt.answer q = absurd (omega arith)
ended_accepted Halt.end q = refl
ended_accepted Halt.budget q = absurd (omega arith)
ended_accepted (Halt.refusal number place) q = absurd (omega arith)

-- a signature that was written as a tag list is one that the check accepts
pub back_accepted : (k : Kind) (s room after : List ℕ) (n : ℕ) → BackPromise k s room (Ok n) after → (whole_of k s).reason ≡ 1
back_accepted k s room after n p = go (ℕ_discrete (whole_of k s).reason 1)
  where
    go : Dec ((whole_of k s).reason ≡ 1) → (whole_of k s).reason ≡ 1
    go (yes h) = h
    go (no h) =
        let z : ◌≡◌ {A = ℕ} 0 1 = ap (λ (a : Answered). a.refused) (p.told ∙ ap (λ (x : Left). x.answer) (back_unaccepted k s room h)) in absurd (omega arith)

-- numbers to bytes to numbers
pub tags_back_and_there : (k : Kind) (s : List ℕ) → Words s → (room after : List ℕ) (n : ℕ) → BackPromise k s room (Ok n) after
    → (b rest : List ℕ) → after ≡ b ++ rest → length b ≡ n → (space : List ℕ) (w : Written) (out : List ℕ) → TagsPromise k b space w out
    → length s ≤ length space → (w ≡ Ok (length s)) × (out ≡ front_with s space)
tags_back_and_there k s words room after n p b rest e m space w out q l =
    let h = back_accepted k s room after n p in
    let y = (whole_exactly k s words (Ok tt) (ended_accepted (turn_of k s (2 * most k + 1) fresh).halt h)).sound refl in
    let f = front_of_room 0 0 (back_bytes s) room (Ok n) after (left_as _ _ (Ok n) after (accepted_left k s room h) p) n refl in
    let same = front_same b (back_bytes s) rest _ (m ∙ f.long) (sym e ∙ f.left) in
    back_and_there k s y space w out (subst (λ (x : List ℕ). TagsPromise k x space w out) same q) l

-- ---- signature records

-- records that were read are written without a refusal
readable_fault : (b : List ℕ) (n : ℕ) → Readable b n → write_fault (numbers_from b 0 n) ≡ 0
readable_fault b n r =
    let long = numbers_length b 0 n in
    let many : n ≡ length (numbers_from b 0 n) / 4 = omega (arith, long) in
    write_fine (numbers_from b 0 n)
    (length_fine (most Kind.Data) width (length (numbers_from b 0 n)) (omega (arith, long, r.some)) (omega (arith, long)) (omega (arith, long, r.few)))
    (ap (nameless_from (numbers_from b 0 n) 0) (sym many) ∙ r.named)

readable_bytes : (b : List ℕ) (n : ℕ) → Readable b n → bytes_from (numbers_from b 0 n) 0 (length (numbers_from b 0 n) / 4) ≡ b
readable_bytes b n r =
    let many : n ≡ length (numbers_from b 0 n) / 4 = omega (arith, numbers_length b 0 n) in
    ap (bytes_from (numbers_from b 0 n) 0) (sym many) ∙ r.same

-- bytes to numbers to bytes
pub records_there_and_back : (b : List ℕ) → Bytes b → (room after : List ℕ) (n : ℕ) → ReadPromise b room (Ok n) after
    → (s rest : List ℕ) → after ≡ s ++ rest → length s ≡ n → (space : List ℕ) (w : Written) (out : List ℕ) → WritePromise s space w out
    → length b ≤ length space → (w ≡ Ok (length b)) × (out ≡ front_with b space)
records_there_and_back b bytes room after n p s rest e m space w out q l =
    let f = front_of_room _ 0 _ room (Ok n) after p n refl in
    let c = (records_scan b).state.count in
    let r = records_read b bytes f.fine in
    let same = front_same s (numbers_from b 0 c) rest _ (m ∙ f.long) (sym e ∙ f.left) in
    let back = readable_bytes b c r in
    let x = fits_written _ 0 _ space w out (subst (λ (t : List ℕ). WritePromise t space w out) same q) (readable_fault b c r)
    (subst (λ (t : List ℕ). length t ≤ length space) (sym back) l) in
    (x.0 ∙ ap (λ (t : List ℕ). Ok (length t)) back, x.1 ∙ ap (λ (t : List ℕ). front_with t space) back)

-- a signature that was written: its length is fine, and every entry has a name
written_fine : (s : List ℕ) → write_fault s ≡ 0 → (length_fault (most Kind.Data) width (length s) ≡ 0) × (nameless_from s 0 (length s / 4) ≡ false)
unfolding write_fault
written_fine s = go (eqb (length_fault (most Kind.Data) width (length s)) 0) (nameless_from s 0 (length s / 4)) refl refl
  where
    go : (t u : Bool) → eqb (length_fault (most Kind.Data) width (length s)) 0 ≡ t → nameless_from s 0 (length s / 4) ≡ u
        → pick t (pick u 3 0) (length_fault (most Kind.Data) width (length s)) ≡ 0
        → (length_fault (most Kind.Data) width (length s) ≡ 0) × (nameless_from s 0 (length s / 4) ≡ false)
    go true true ht hu h = absurd (omega arith)
    go true false ht hu h = (eqb-true _ _ ht, hu)
    go false u ht hu h = absurd (eqb-false _ _ ht h)

-- numbers to bytes to numbers
pub records_back_and_there : (s : List ℕ) → Words s → (room after : List ℕ) (n : ℕ) → WritePromise s room (Ok n) after
    → (b rest : List ℕ) → after ≡ b ++ rest → length b ≡ n → (space : List ℕ) (w : Written) (out : List ℕ) → ReadPromise b space w out
    → length s ≤ length space → (w ≡ Ok (length s)) × (out ≡ front_with s space)
records_back_and_there s words room after n p b rest e m space w out q l =
    let f = front_of_room _ 0 _ room (Ok n) after p n refl in
    let h = written_fine s f.fine in
    let z = length_sized (most Kind.Data) width (length s) h.0 in
    let c : ℕ = length s / 4 in
    let same = front_same b (bytes_from s 0 c) rest _ (m ∙ f.long) (sym e ∙ f.left) in
    let r = records_written s c words (omega (arith, z.even)) (omega (arith, z.even, z.some)) z.small h.1 in
    let x = fits_written _ 0 _ space w out (subst (λ (t : List ℕ). ReadPromise t space w out) same q) r.0
    (subst (λ (t : List ℕ). length t ≤ length space) (sym r.1) l) in
    (x.0 ∙ ap (λ (t : List ℕ). Ok (length t)) r.1, x.1 ∙ ap (λ (t : List ℕ). front_with t space) r.1)
