-- Every call on records and tag lists, over its promise. The names begin with the call: read and write (signature records), tags and tree (tag lists read),
-- back (a signature to its tag list).
--   …_one_result    two results that the promise allows are equal
--   …_nothing       a refused call leaves the room as it was
--   …_ten           where nothing before room is refused: 10 exactly if the result is longer than the room
use Rattle.std.specs.Prelude.{ℕ, ◌/◌, ◌≤◌, ◌<◌, ◌≡◌, refl, true, false, List, length, Err}
use Rattle.std.proofs.Common.{ap, ◌∙◌, sym, arith, ne_eqb}
use Rattle.std.proofs.Math.Decide.{ℕ_discrete, dec_le}
use Rattle.terms.specs.Kinds.{any_name, most}
use Rattle.terms.specs.Stops.{Answered, answered, refused_as, Written}
use Rattle.checking.specs.Whole.{whole_of}
use Rattle.terms.specs.declared.Kind.{Kind}
use Rattle.terms.specs.declared.Refusal.{Refusal}
use Rattle.bytes_read.specs.Scans.{halt_number}
use Rattle.terms.specs.Room.{Left, left_by}
use Rattle.bytes_read.proofs.Rooms.{short_is, written_is}
use Rattle.records.specs.Records.{records_scan, numbers_from, bytes_from, write_fault, ReadPromise, WritePromise}
use Rattle.tag_scan.specs.TagLists.{tree_scan, numbers_in}
use Rattle.tag_lists.specs.Readers.{read_told, TagsPromise, TreePromise, TreeRead}
use Rattle.tag_writing.specs.TagsBack.{back_bytes, back_left, BackPromise}
use Rattle.tag_writing.proofs.Back.{left_as}
use Rattle.retold.specs.Rooms.{one_result, one_reading, Case, refused, short, written, which}
use Rattle.retold.specs.There.{accepted_left}

-- ---- any answer

-- 10 exactly if the result is longer than the room
pub record Ten (number : ℕ) (result room : List ℕ) : Type 0 where
  pub given : length room < length result → number ≡ 10
  pub only : number ≡ 10 → length room < length result

module _ (number entry : ℕ) (result room : List ℕ) (a : Answered) (told : a ≡ (left_by number entry result room).answer) where
  ten_of : number ≡ 0 → Ten a.number result room
  ten_of h = record {
    given = λ l. ap (λ (x : Answered). x.number) (told ∙ ap (λ (x : Left). x.answer) (short_is number entry result room h l));
    only = λ q. go q (dec_le (length result) (length room));
  }
    where
      go : a.number ≡ 10 → Dec (length result ≤ length room) → length room < length result
      go q (no l) = omega arith
      go q (yes l) =
          let z : ◌≡◌ {A = ℕ} 10 0 = sym q ∙ ap (λ (x : Answered). x.number) (told ∙ ap (λ (x : Left). x.answer) (written_is number entry result room h l)) in
          absurd (omega arith)

  nothing_of : (after : List ℕ) → after ≡ (left_by number entry result room).room → a.refused ≡ 1 → after ≡ room
  nothing_of after left q = go (which number entry result room)
    where
      go : Case number entry result room → after ≡ room
      go (refused h e) = left ∙ ap (λ (x : Left). x.room) e
      go (short h l e) = left ∙ ap (λ (x : Left). x.room) e
      go (written h l e) =
          let z : ◌≡◌ {A = ℕ} 1 0 = sym q ∙ ap (λ (x : Answered). x.refused) (told ∙ ap (λ (x : Left). x.answer) e) in absurd (omega arith)

-- ---- signature records

module _ (b room : List ℕ) where
  pub read_one_result : (w v : Written) (x y : List ℕ) → ReadPromise b room w x → ReadPromise b room v y → (w ≡ v) × (x ≡ y)
  read_one_result w v x y p q = one_result _ w v x y p q

  pub read_nothing : (r : Refusal) (after : List ℕ) → ReadPromise b room (Err r) after → after ≡ room
  read_nothing r after p = nothing_of _ _ _ _ (answered (Err r)) p.told after p.left refl

  pub read_ten : (w : Written) (after : List ℕ) → ReadPromise b room w after → halt_number (records_scan b).halt ≡ 0
      → Ten (answered w).number (numbers_from b 0 (records_scan b).state.count) room
  read_ten w after p h = ten_of _ 0 _ _ (answered w) p.told h

module _ (s room : List ℕ) where
  pub write_one_result : (w v : Written) (x y : List ℕ) → WritePromise s room w x → WritePromise s room v y → (w ≡ v) × (x ≡ y)
  write_one_result w v x y p q = one_result _ w v x y p q

  pub write_nothing : (r : Refusal) (after : List ℕ) → WritePromise s room (Err r) after → after ≡ room
  write_nothing r after p = nothing_of _ _ _ _ (answered (Err r)) p.told after p.left refl

  pub write_ten : (w : Written) (after : List ℕ) → WritePromise s room w after → write_fault s ≡ 0 → Ten (answered w).number (bytes_from s 0 (length s / 4)) room
  write_ten w after p h = ten_of _ 0 _ _ (answered w) p.told h

-- ---- tag lists, read

module _ (k : Kind) (b room : List ℕ) where
  pub tags_one_result : (w v : Written) (x y : List ℕ) → TagsPromise k b room w x → TagsPromise k b room v y → (w ≡ v) × (x ≡ y)
  tags_one_result w v x y p q = one_result _ w v x y p q

  pub tags_nothing : (r : Refusal) (after : List ℕ) → TagsPromise k b room (Err r) after → after ≡ room
  tags_nothing r after p = nothing_of _ _ _ _ (answered (Err r)) p.told after p.left refl

  pub tags_ten : (w : Written) (after : List ℕ) → TagsPromise k b room w after → halt_number (tree_scan true (any_name k) (most k) b 0).halt ≡ 0
      → Ten (answered w).number (numbers_in b 0 (tree_scan true (any_name k) (most k) b 0).state.count) room
  tags_ten w after p h = ten_of _ 0 _ _ (answered w) p.told h

module _ (k : Kind) (b : List ℕ) (p : ℕ) (room : List ℕ) where
  pub tree_one_result : (r t : TreeRead) (x y : List ℕ) → TreePromise k b p room r x → TreePromise k b p room t y → (r ≡ t) × (x ≡ y)
  tree_one_result r t x y g h = one_reading _ _ _ _ r t x y g h

  pub tree_nothing : (r : Refusal) (after : List ℕ) → TreePromise k b p room (Err r) after → after ≡ room
  tree_nothing r after g = nothing_of _ _ _ _ (read_told (Err r)).answer g.told after g.left refl

  pub tree_ten : (r : TreeRead) (after : List ℕ) → TreePromise k b p room r after → halt_number (tree_scan false (any_name k) (most k) b p).halt ≡ 0
      → Ten (read_told r).answer.number (numbers_in b p (tree_scan false (any_name k) (most k) b p).state.count) room
  tree_ten r after g h = ten_of _ 0 _ _ (read_told r).answer g.told h

-- ---- back to a tag list

module _ (k : Kind) (s room : List ℕ) where
  pub back_one_result : (w v : Written) (x y : List ℕ) → BackPromise k s room w x → BackPromise k s room v y → (w ≡ v) × (x ≡ y)
  back_one_result w v x y p q = one_result _ w v x y p q

  -- a signature that the check refuses
  pub back_unaccepted : ((whole_of k s).reason ≡ 1 → ⊥) → back_left k s room ≡ record { answer = refused_as (whole_of k s).number (whole_of k s).entry; room = room }
  unfolding back_left
  back_unaccepted h = simp (ne_eqb _ _ h)

  pub back_nothing : (r : Refusal) (after : List ℕ) → BackPromise k s room (Err r) after → after ≡ room
  back_nothing r after p = go (ℕ_discrete (whole_of k s).reason 1)
    where
      go : Dec ((whole_of k s).reason ≡ 1) → after ≡ room
      go (yes h) =
          let q = left_as _ _ (Err r) after (accepted_left k s room h) p in
          nothing_of 0 0 (back_bytes s) room (answered (Err r)) q.told after q.left refl
      go (no h) = p.left ∙ ap (λ (x : Left). x.room) (back_unaccepted h)

  pub back_ten : (w : Written) (after : List ℕ) → BackPromise k s room w after → (whole_of k s).reason ≡ 1 → Ten (answered w).number (back_bytes s) room
  back_ten w after p h =
      let q = left_as _ _ w after (accepted_left k s room h) p in ten_of 0 0 (back_bytes s) room (answered w) q.told refl
