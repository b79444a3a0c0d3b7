-- The room: which case of its promise holds, and stores one after the other.
--   room_refused, room_short, room_written   the three cases
--   front_sets                               stores from the front on leave the result there, and the rest as it was
--   put_sets, put_next                       a part that was copied into the room, and the next one
--   two_bytes                                a number's bytes, low byte first
use Rattle.std.specs.Prelude.{Ok, Err}
use Rattle.std.specs.Result.{IsErrAnd}
use Rattle.std.proofs.lemmas.Result.{err_from_is_err_and}
use Prim.Native.Nat.{ℕ, suc, ◌+◌, ◌/◌, ◌%◌, ◌≤◌, ◌<◌}
use mathlib.Core.Path.{◌≡◌, refl, ap, ◌∙◌, sym}
use mathlib.Core.List.{List, [], ◌∷◌, ◌++◌}
use native.Mathlib.Omega.{arith}
use native.Mathlib.Nat.{zero-add}
use lib.ListN.{length, drop, take, set, length-append}
use lib.Seq.{sets, length-sets, take-length}
use borrow.Rule.Slice.PartMut.{put_mid}
use Rattle.std.specs.Int.{w16, to_le_bytes}
use Rattle.std.proofs.lemmas.List.Edits.{sets-eq}
use Rattle.std.proofs.lemmas.Slice.{put_mid-paste}
use borrow.Author.Tests.{eq-eqb, ne_eqb, le-leb, lt-leb}
use Rattle.terms.specs.Faults.{number_of, refusal_at, some_number}
use Rattle.terms.specs.declared.Fault.{Fault}
use Rattle.terms.specs.declared.Refusal.{Refusal}
use Rattle.bytes_read.specs.Bytes.{low, high}
use Rattle.terms.specs.Stops.{Answered, answered, worked, refused_as, Written}
use Rattle.terms.specs.Room.{Left, left_by, room_for, front_with, Leaves}

pub front_sets : (result room : List ℕ) → length result ≤ length room → sets room 0 result ≡ front_with result room
front_sets result room h =
    sets-eq result room 0 (omega arith) ∙ ap (λ (k : ℕ). result ++ drop k room) (zero-add (length result))

module _ (number entry : ℕ) (result room : List ℕ) where
  pub refused_is : (number ≡ 0 → ⊥) → left_by number entry result room ≡ record { answer = refused_as number entry; room = room }
  unfolding left_by room_for
  refused_is h = simp (ne_eqb _ _ h)

  pub short_is : number ≡ 0 → length room < length result
      → left_by number entry result room ≡ record { answer = refused_as 10 0; room = room }
  unfolding left_by room_for
  short_is h l = simp (eq-eqb _ _ h, lt-leb _ _ l)

  pub written_is : number ≡ 0 → length result ≤ length room
      → left_by number entry result room ≡ record { answer = worked (length result); room = front_with result room }
  unfolding left_by room_for
  written_is h l = simp (eq-eqb _ _ h, le-leb _ _ l)

  promised : (a : Answered) (w : Written) (after : List ℕ) → left_by number entry result room ≡ record { answer = a; room = after }
      → answered w ≡ a → Leaves (left_by number entry result room) w after
  promised a w after q e =
      record { told = e ∙ ap (λ (x : Left). x.answer) (sym q); left = ap (λ (x : Left). x.room) (sym q) }

  pub room_refused : (w : Written) (after : List ℕ) → (number ≡ 0 → ⊥) → answered w ≡ refused_as number entry
      → after ≡ room → Leaves (left_by number entry result room) w after
  room_refused w after h e q = rw q (promised _ w room (refused_is h) e)

  pub room_short : (w : Written) (after : List ℕ) → number ≡ 0 → length room < length result
      → answered w ≡ refused_as 10 0 → after ≡ room → Leaves (left_by number entry result room) w after
  room_short w after h l e q = rw q (promised _ w room (short_is h l) e)

  pub room_written : (w : Written) (after : List ℕ) → number ≡ 0 → length result ≤ length room
      → answered w ≡ worked (length result) → after ≡ front_with result room
      → Leaves (left_by number entry result room) w after
  room_written w after h l e q = rw q (promised _ w _ (written_is h l) e)

-- the same, as a call meets them: a fault handed on by `?`, a room that is too short, and what was written
module _ (number : ℕ) (result room : List ℕ) where
  pub refused_with : (f : Fault) (w : Written) → IsErrAnd w (λ r. r ≡ refusal_at f 0) → number_of f ≡ number → Leaves (left_by number 0 result room) w room
  refused_with f w e is =
      let p = err_from_is_err_and w e in
      room_refused number 0 result room w room (λ z. some_number f (is ∙ z))
      (ap answered (p.1 ∙ ap Err p.2) ∙ ap (λ (n : ℕ). refused_as n 0) is) refl

  pub short_with : (r : Refusal) → r ≡ refusal_at Fault.NoRoom 0 → number ≡ 0 → length room < length result
      → Leaves (left_by number 0 result room) (Err r) room
  short_with r q h l = room_short number 0 result room (Err r) room h l (ap (λ (x : Refusal). answered (Err x)) q) refl

  pub written_with : (k : ℕ) (after : List ℕ) → number ≡ 0 → k ≡ length result → length result ≤ length room
      → after ≡ front_with result room → Leaves (left_by number 0 result room) (Ok k) after
  written_with k after h e l r = room_written number 0 result room (Ok k) after h l (ap (λ (n : ℕ). worked n) e) r

-- ---- stores

pub sets_append : (room : List ℕ) (i : ℕ) (xs ys : List ℕ) → sets room i (xs ++ ys) ≡ sets (sets room i xs) (i + length xs) ys
sets_append room i [] ys = ap (λ (k : ℕ). sets room k ys) (omega arith)
sets_append room i (x ∷ xs) ys = sets_append (set room i x) (suc i) xs ys ∙ ap (λ (k : ℕ). sets (sets room i (x ∷ xs)) k ys) (omega arith)

-- a result on its way into the room: what is left of it at place p would make it whole
pub record Storing (room₀ all room : List ℕ) (p : ℕ) (left : List ℕ) : Type 0 where
  pub same : sets room p left ≡ sets room₀ 0 all
  pub long : length room ≡ length room₀
  pub fits : p + length left ≡ length all

module _ (room₀ all : List ℕ) where
  pub storing_start : (left : List ℕ) → left ≡ all → Storing room₀ all room₀ 0 left
  storing_start left q = record { same = ap (sets room₀ 0) q; long = refl; fits = zero-add (length left) ∙ ap length q }

  -- the next part is stored
  pub storing_more : (room : List ℕ) (p : ℕ) (left : List ℕ) (to : List ℕ) (p' : ℕ) (xs ys : List ℕ) → Storing room₀ all room p left
      → left ≡ xs ++ ys → to ≡ sets room p xs → p' ≡ p + length xs → Storing room₀ all to p' ys
  storing_more room p left to p' xs ys s q t e = record {
    same = ap (λ (r : List ℕ). sets r p' ys) t ∙ ap (λ (k : ℕ). sets (sets room p xs) k ys) e ∙ sym (sets_append room p xs ys)
        ∙ ap (sets room p) (sym q) ∙ s.same;
    long = ap length t ∙ length-sets room p xs ∙ s.long;
    fits = omega (arith, s.fits, ap length q, length-append xs ys);
  }

  -- nothing is left
  pub storing_end : (room : List ℕ) (p : ℕ) (left : List ℕ) → Storing room₀ all room p left → left ≡ [] → length all ≤ length room₀
      → room ≡ front_with all room₀
  storing_end room p left s q h = sym (ap (sets room p) q) ∙ s.same ∙ front_sets all room₀ h

-- a part of the room from place i on was written, by the library's copy
pub put_sets : (room : List ℕ) (i j k : ℕ) (xs ys : List ℕ) → j ≡ i → ys ≡ xs → k ≡ length xs → i + length xs ≤ length room
    → put_mid j k room ys ≡ sets room i xs
put_sets room i j k xs ys p e q h =
    ap (λ (m : ℕ). put_mid m k room ys) p ∙ put_mid-paste i k room ys xs (length xs) e (sym q) refl
    ∙ ap (λ (l : List ℕ). take i room ++ l ++ drop (i + length xs) room) (take-length xs) ∙ sym (sets-eq xs room i h)

-- and the part right after those that were written from place i on
pub put_next : (room to : List ℕ) (i j k : ℕ) (xs ys zs : List ℕ) → to ≡ sets room i xs → ys ≡ zs → k ≡ length zs → j ≡ i + length xs
    → i + length xs + length zs ≤ length room → put_mid j k to ys ≡ sets room i (xs ++ zs)
put_next room to i j k xs ys zs t e q p h =
    put_sets to (i + length xs) j k zs ys p e q (omega (arith, ap length t, length-sets room i xs))
    ∙ ap (λ (r : List ℕ). sets r (i + length xs) zs) t ∙ sym (sets_append room i xs zs)

-- the two bytes of a number of 16 bits
pub two_bytes : (v : ℕ) → v < 65536 → to_le_bytes w16 v ≡ low v ∷ high v ∷ []
two_bytes v h = let e : v / 256 % 256 ≡ v / 256 = omega arith in ap (λ (x : ℕ). low v ∷ x ∷ []) e
