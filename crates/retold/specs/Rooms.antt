-- What every call that writes into lent room keeps to.
--   one_result, one_reading     two results that the promise allows are equal
--   refused_writes_nothing      a refused call leaves the room as it was
--   front_of_room               one that worked writes the result at the front, and nothing beyond it
--   ten_given, ten_only         where nothing else is refused, 10 exactly if the result is longer than the room
use Rattle.std.specs.Prelude.{ℕ, ◌≤◌, ◌<◌, ◌≡◌, List, length, Ok, Err}
use Rattle.std.proofs.Common.{ap, ◌∙◌, sym, arith}
use Rattle.std.proofs.Math.Decide.{ℕ_discrete, dec_le}
use Rattle.terms.specs.Stops.{Answered, answered, worked, refused_as, Written}
use Rattle.terms.specs.declared.Refusal.{Refusal}
use Rattle.checked.specs.Apart.{answered_apart}
use Rattle.terms.specs.Room.{Left, left_by, front_with, Leaves}
use Rattle.tag_lists.specs.Readers.{ReadTold, read_told, ReadLeft, TreeRead}
use Rattle.bytes_read.proofs.Rooms.{refused_is, short_is, written_is}

-- ---- one result

pub one_result : (x : Left) (w v : Written) (a b : List ℕ) → Leaves x w a → Leaves x v b → (w ≡ v) × (a ≡ b)
one_result x w v a b p q = (answered_apart w v (p.told ∙ sym q.told), p.left ∙ sym q.left)

-- the numbers of a reading tell it apart
pub reading_apart : (r s : TreeRead) → read_told r ≡ read_told s → r ≡ s
reading_apart (Ok (a, b)) (Ok (c, d)) q =
    let l : a ≡ c = ap (λ (x : ReadTold). x.answer.length) q in
    let e : b ≡ d = ap (λ (x : ReadTold). x.end) q in
    cc
reading_apart (Ok (a, b)) (Err r) q =
    let z : ◌≡◌ {A = ℕ} 0 1 = ap (λ (x : ReadTold). x.answer.refused) q in absurd (omega arith)
reading_apart (Err r) (Ok (c, d)) q =
    let z : ◌≡◌ {A = ℕ} 1 0 = ap (λ (x : ReadTold). x.answer.refused) q in absurd (omega arith)
reading_apart (Err r) (Err s) q =
    let n : r.number ≡ s.number = ap (λ (x : ReadTold). x.answer.number) q in
    let e : r.entry.0 ≡ s.entry.0 = ap (λ (x : ReadTold). x.answer.entry) q in
    λ i. Err (record { number = n i; entry = record { 0 = e i } })

pub one_reading : (number end : ℕ) (result room : List ℕ) (r s : TreeRead) (a b : List ℕ)
    → ReadLeft number end result room r a → ReadLeft number end result room s b → (r ≡ s) × (a ≡ b)
one_reading number end result room r s a b p q =
    let x = p.told ∙ sym q.told in
    let y = p.ended ∙ sym q.ended in
    (reading_apart r s (λ i. record { answer = x i; end = y i }), p.left ∙ sym q.left)

-- ---- refused, short, written

module _ (number entry : ℕ) (result room : List ℕ) where
  -- which of the three it is
  pub data Case : Type 0 where
    refused : (number ≡ 0 → ⊥) → left_by number entry result room ≡ record { answer = refused_as number entry; room = room } → Case
    short : number ≡ 0 → length room < length result → left_by number entry result room ≡ record { answer = refused_as 10 0; room = room } → Case
    written : number ≡ 0 → length result ≤ length room
        → left_by number entry result room ≡ record { answer = worked (length result); room = front_with result room } → Case

  pub which : Case
  which = go (ℕ_discrete number 0) (dec_le (length result) (length room))
    where
      go : Dec (number ≡ 0) → Dec (length result ≤ length room) → Case
      go (no h) d = refused h (refused_is number entry result room h)
      go (yes h) (yes l) = written h l (written_is number entry result room h l)
      go (yes h) (no l) = short h (omega arith) (short_is number entry result room h (omega arith))

  module _ (w : Written) (after : List ℕ) (p : Leaves (left_by number entry result room) w after) where
    -- "A refused single call … writes nothing"
    pub refused_writes_nothing : (r : Refusal) → w ≡ Err r → after ≡ room
    refused_writes_nothing r q = go which
      where
        go : Case → after ≡ room
        go (refused h e) = p.left ∙ ap (λ (x : Left). x.room) e
        go (short h l e) = p.left ∙ ap (λ (x : Left). x.room) e
        go (written h l e) =
            let z : ◌≡◌ {A = ℕ} 1 0 = ap (λ (x : Answered). x.refused) (ap answered (sym q) ∙ p.told ∙ ap (λ (x : Left). x.answer) e) in absurd (omega arith)

    -- "Success writes the result at the front of the room and nothing beyond it."
    pub record Front (l : ℕ) : Type 0 where
      pub fine : number ≡ 0
      pub long : l ≡ length result
      pub fits : l ≤ length room
      pub left : after ≡ front_with result room

    pub front_of_room : (l : ℕ) → w ≡ Ok l → Front l
    front_of_room l q = go which
      where
        told : (a : Answered) → (left_by number entry result room).answer ≡ a → worked l ≡ a
        told a e = ap answered (sym q) ∙ p.told ∙ e

        go : Case → Front l
        go (refused h e) =
            let z : ◌≡◌ {A = ℕ} 0 1 = ap (λ (x : Answered). x.refused) (told _ (ap (λ (x : Left). x.answer) e)) in absurd (omega arith)
        go (short h k e) =
            let z : ◌≡◌ {A = ℕ} 0 1 = ap (λ (x : Answered). x.refused) (told _ (ap (λ (x : Left). x.answer) e)) in absurd (omega arith)
        go (written h k e) =
            let n = ap (λ (x : Answered). x.length) (told _ (ap (λ (x : Left). x.answer) e)) in
            record { fine = h; long = n; fits = omega (arith, n); left = p.left ∙ ap (λ (x : Left). x.room) e }

    -- "10 is given exactly if the result is longer than the room"
    pub ten_given : number ≡ 0 → length room < length result → w ≡ Err (record { number = 10; entry = record { 0 = 0 } })
    ten_given h l = answered_apart w _ (p.told ∙ ap (λ (x : Left). x.answer) (short_is number entry result room h l))

    pub ten_only : number ≡ 0 → (answered w).number ≡ 10 → length room < length result
    ten_only h q = go which
      where
        go : Case → length room < length result
        go (refused n e) = absurd (n h)
        go (short n l e) = l
        go (written n l e) =
            let z : ◌≡◌ {A = ℕ} 0 10 = ap (λ (x : Answered). x.number) (ap (λ (x : Left). x.answer) (sym e) ∙ sym p.told) ∙ q in absurd (omega arith)

    -- a result that fits is written
    pub fits_written : number ≡ 0 → length result ≤ length room → (w ≡ Ok (length result)) × (after ≡ front_with result room)
    fits_written h l =
        let e = written_is number entry result room h l in
        (answered_apart w _ (p.told ∙ ap (λ (x : Left). x.answer) e), p.left ∙ ap (λ (x : Left). x.room) e)
