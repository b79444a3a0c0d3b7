-- The answers of the two readers: which case of the promise holds.
--   tree_unread, tree_read         the two answers of the reader of one tree
--   tags_refused, tags_written     the two answers of the reader of a whole list
use Rattle.std.specs.Prelude.{Ok, Err}
use Rattle.std.specs.Result.{IsErrAnd}
use Rattle.std.proofs.lemmas.Result.{err_from_is_err_and}
use Prim.Native.Nat.{ℕ, ◌≤◌}
use mathlib.Core.Path.{◌≡◌, refl, ap, ◌∙◌, sym}
use mathlib.Core.Bool.{true, false}
use mathlib.Core.List.{List}
use native.Mathlib.Omega.{arith}
use native.Mathlib.Decide.{ℕ_discrete, dec_le}
use lib.ListN.{length}
use lib.Dec.{eqb}
use Rattle.turns.specs.Pick.{pick}
use Rattle.terms.specs.Stops.{Answered, answered, worked, refused_as, Written}
use Rattle.terms.specs.Faults.{number_of, refusal_at, some_number}
use Rattle.terms.specs.declared.Fault.{Fault}
use Rattle.terms.specs.declared.Kind.{Kind}
use Rattle.terms.specs.Room.{Left, left_by}
use Rattle.bytes_read.proofs.Rooms.{refused_is, short_is, written_is}
use Rattle.tag_building.specs.Filled.{Filled, FilledPromise}
use Rattle.tag_lists.specs.Readers.{read_told, ReadLeft, TreePromise, TagsPromise, TreeRead}

-- the number of an answer tells it
module _ (number : ℕ) (result room : List ℕ) (g : ℕ) (is : g ≡ (left_by number 0 result room).answer.number) where
  answer_refused : (g ≡ 0 → ⊥) → (left_by number 0 result room).answer ≡ refused_as g 0
  answer_refused h = go (ℕ_discrete number 0) (dec_le (length result) (length room))
    where
      by : (a : Left) → left_by number 0 result room ≡ a → a.answer ≡ refused_as a.answer.number 0 → (left_by number 0 result room).answer ≡ refused_as g 0
      by a q e =
          ap (λ (x : Left). x.answer) q ∙ e ∙ ap (λ (n : ℕ). refused_as n 0) (sym (is ∙ ap (λ (x : Left). x.answer.number) q))

      go : Dec (number ≡ 0) → Dec (length result ≤ length room) → (left_by number 0 result room).answer ≡ refused_as g 0
      go (no n) d = by _ (refused_is number 0 result room n) refl
      go (yes n) (no l) = by _ (short_is number 0 result room n (omega arith)) refl
      go (yes n) (yes l) = absurd (h (is ∙ ap (λ (x : Left). x.answer.number) (written_is number 0 result room n l)))

  answer_worked : g ≡ 0 → (left_by number 0 result room).answer ≡ worked (length result)
  answer_worked h = go (ℕ_discrete number 0) (dec_le (length result) (length room))
    where
      go : Dec (number ≡ 0) → Dec (length result ≤ length room) → (left_by number 0 result room).answer ≡ worked (length result)
      go (no n) d = absurd (n (sym (is ∙ ap (λ (x : Left). x.answer.number) (refused_is number 0 result room n)) ∙ h))
      go (yes n) (no l) =
          let z : ◌≡◌ {A = ℕ} 10 0 = sym (is ∙ ap (λ (x : Left). x.answer.number) (short_is number 0 result room n (omega arith))) ∙ h in absurd (omega arith)
      go (yes n) (yes l) = ap (λ (x : Left). x.answer) (written_is number 0 result room n l)

-- a refusal of a reading by its number
abbrev pub unread_by : ℕ → TreeRead
unread_by number = Err (record { number = number; entry = record { 0 = 0 } })

-- the answers: g, at and l are what reading into the room came to; a refusal is handed on by `?`
module _ (number end size : ℕ) (result room : List ℕ) (g at l : ℕ) (after : List ℕ) (h : Filled number end size result room g at l after) where
  read_as : (r : TreeRead) (x : Answered) → (left_by number 0 result room).answer ≡ x → (read_told r).answer ≡ x
      → (read_told r).end ≡ pick (eqb x.refused 0) end 0 → ReadLeft number end result room r after
  read_as r x q u v = record { told = u ∙ sym q; ended = v ∙ ap (λ (y : Answered). pick (eqb y.refused 0) end 0) (sym q); left = h.left }

  refused_by : (f : Fault) → g ≡ number_of f → (left_by number 0 result room).answer ≡ refused_as (number_of f) 0
  refused_by f e = answer_refused number result room g h.told (λ z. some_number f (sym e ∙ z)) ∙ ap (λ (n : ℕ). refused_as n 0) e

  left_refused : (r : TreeRead) (f : Fault) → IsErrAnd r (λ x. x ≡ refusal_at f 0) → g ≡ number_of f → ReadLeft number end result room r after
  left_refused r f q e =
      let p = err_from_is_err_and r q in
      let same : r ≡ Err (refusal_at f 0) = p.1 ∙ ap Err p.2 in
      read_as r _ (refused_by f e) (ap (λ (x : TreeRead). (read_told x).answer) same) (ap (λ (x : TreeRead). (read_told x).end) same)

  left_done : (j : ℕ) → j ≡ l → g ≡ 0 → ReadLeft number end result room (Ok (j, at)) after
  left_done j e z = read_as (Ok (j, at)) _ (answer_worked number result room g h.told z) (ap worked (e ∙ h.long z)) h.ended

  told_refused : (w : Written) (f : Fault) → IsErrAnd w (λ x. x ≡ refusal_at f 0) → g ≡ number_of f → answered w ≡ (left_by number 0 result room).answer
  told_refused w f q e =
      let p = err_from_is_err_and w q in
      ap answered (p.1 ∙ ap Err p.2) ∙ sym (refused_by f e)

  told_written : (j : ℕ) → j ≡ l → g ≡ 0 → answered (Ok j) ≡ (left_by number 0 result room).answer
  told_written j e z = ap worked (e ∙ h.long z) ∙ sym (answer_worked number result room g h.told z)

module _ (k : Kind) (b : List ℕ) (p : ℕ) (room : List ℕ) (g at l : ℕ) (after : List ℕ) (h : FilledPromise false k b p room g at l after) where
  pub tree_unread : (r : TreeRead) (f : Fault) → IsErrAnd r (λ x. x ≡ refusal_at f 0) → g ≡ number_of f → TreePromise k b p room r after
  tree_unread r f q e = left_refused _ _ _ _ _ g at l after h r f q e

  pub tree_read : (j : ℕ) → j ≡ l → g ≡ 0 → TreePromise k b p room (Ok (j, at)) after
  tree_read j e z = left_done _ _ _ _ _ g at l after h j e z

module _ (k : Kind) (b : List ℕ) (room : List ℕ) (g at l : ℕ) (after : List ℕ) (h : FilledPromise true k b 0 room g at l after) where
  pub tags_refused : (w : Written) (f : Fault) → IsErrAnd w (λ x. x ≡ refusal_at f 0) → g ≡ number_of f → TagsPromise k b room w after
  tags_refused w f q e = record { told = told_refused _ _ _ _ _ g at l after h w f q e; left = h.left }

  pub tags_written : (j : ℕ) → j ≡ l → g ≡ 0 → TagsPromise k b room (Ok j) after
  tags_written j e z = record { told = told_written _ _ _ _ _ g at l after h j e z; left = h.left }
