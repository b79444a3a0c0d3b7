-- Demand 2 of the call from a signature back to its tag list, over any call: ours meets it, and document 01's wrong programs do not.
--   tag_list y                what a tree that yields a signature has as its tag list
--   Writes k s room w after   what demand 2 asks of one call: the tree's tag list in the room where it fits, 10 where it does not, and a refusal for other numbers
--   BackTwo k call after     every call is so
--   ours_back                whatever keeps our promise meets it
--   shut_out_back_refusing, _fixed, _idle   refusing everything, one fixed answer, a call that does nothing
--   shut_out_back_trusting   a call that answers on two roots
use Rattle.std.specs.Prelude.{ℕ, ◌+◌, ◌*◌, ◌≤◌, ◌<◌, ◌≡◌, refl, List, [], ◌∷◌, length, get_or, Ok, Err}
use Rattle.std.proofs.Common.{ap, ◌∙◌, sym, subst, arith}
use Rattle.trees.specs.Tree.{none, Tree}
use Rattle.trees.specs.Tags.{tags_of, tree_tags}
use Rattle.terms.specs.declared.Kind.{Kind}
use Rattle.terms.specs.declared.Refusal.{Refusal}
use Rattle.terms.specs.Kinds.{most}
use Rattle.checking.specs.Rule.{fresh}
use Rattle.terms.specs.Stops.{Told, answered, Written}
use Rattle.checking.specs.Turn.{turn_of}
use Rattle.checking.specs.Whole.{whole_of}
use Rattle.terms.specs.Room.{front_with}
use Rattle.checked.specs.Yields.{Words, Yields}
use Rattle.checked.specs.Wholly.{yields_accepted, whole_exactly}
use Rattle.checked.specs.Menus.{single, two_roots}
use Rattle.checked.specs.ShutOut.{small, small_words, two_none}
use Rattle.tag_scan.specs.TagLists.{tag_bytes}
use Rattle.tag_writing.specs.TagsBack.{back_bytes, BackPromise}
use Rattle.tag_writing.proofs.Emit.{tree_in_law}
use Rattle.tag_writing.proofs.Back.{left_as}
use Rattle.retold.specs.Rooms.{ten_given}
use Rattle.retold.specs.There.{accepted_left, back_written}
use Rattle.retold.specs.Calls.{back_nothing}
use Rattle.retold.specs.RoundTrips.{ended_accepted, back_accepted}
use Rattle.retold.specs.Tens.{back_ten_exactly}
use Rattle.retold.specs.ShutOut.{ten}

-- the bytes of the tag list of the tree that yields a signature
abbrev pub tag_list : {k : Kind} {s : List ℕ} → Yields k s → List ℕ
tag_list y = tag_bytes (tree_tags y.tree)

-- "tag list to extended signature and back": the tree's tag list where the room is long enough, 10 where it is not; other numbers are refused, and not for the room
pub record Writes (k : Kind) (s room : List ℕ) (w : Written) (after : List ℕ) : Type 0 where
  pub fits : (y : Yields k s) → length (tag_list y) ≤ length room → (w ≡ Ok (length (tag_list y))) × (after ≡ front_with (tag_list y) room)
  pub long : (y : Yields k s) → length room < length (tag_list y) → (w ≡ Err ten) × (after ≡ room)
  pub other : (Yields k s → ⊥) → (why : Refusal) × (w ≡ Err why) × (why.number ≡ 10 → ⊥) × (after ≡ room)

-- demand 2 over any call, by what it answers and what it leaves
abbrev pub BackTwo : Kind → (List ℕ → List ℕ → Written) → (List ℕ → List ℕ → List ℕ) → Type 0
BackTwo k call after = (s room : List ℕ) → Words s → Writes k s room (call s room) (after s room)

-- ---- ours meets it

accepts : (k : Kind) (s : List ℕ) → Yields k s → (whole_of k s).reason ≡ 1
accepts k s y = ap (λ (t : Told). t.reason) (sym (yields_accepted k s y))

module _ (k : Kind) (s room : List ℕ) (h : Words s) where
  is_long : (w : Written) (after : List ℕ) → BackPromise k s room w after → (y : Yields k s) → length room < length (tag_list y) → (w ≡ Err ten) × (after ≡ room)
  is_long w after p y l =
      let b : back_bytes s ≡ tag_list y = ap (λ (t : Tree). tag_bytes (tree_tags t)) (tree_in_law s y.tree y.is) in
      let q = left_as _ _ w after (accepted_left k s room (accepts k s y)) p in
      let e = ten_given 0 0 (back_bytes s) room w after q refl (subst (λ (x : List ℕ). length room < length x) (sym b) l) in
      (e, back_nothing k s room ten after (subst (λ (x : Written). BackPromise k s room x after) e p))

  -- the whole check accepts where the reason is 1
  reason_yields : (whole_of k s).reason ≡ 1 → Yields k s
  reason_yields q = (whole_exactly k s h (Ok tt) (ended_accepted (turn_of k s (2 * most k + 1) fresh).halt q)).sound refl

  is_other : (w : Written) (after : List ℕ) → BackPromise k s room w after → (Yields k s → ⊥)
      → (why : Refusal) × (w ≡ Err why) × (why.number ≡ 10 → ⊥) × (after ≡ room)
  is_other (Ok l) after p n = absurd (n (reason_yields (back_accepted k s room after l p)))
  is_other (Err why) after p n =
      (why, refl, (λ t. n (reason_yields ((back_ten_exactly k s room (Err why) after p).0 t).0)), back_nothing k s room why after p)

pub ours_back : (k : Kind) (call : List ℕ → List ℕ → Written) (after : List ℕ → List ℕ → List ℕ)
    → ((s room : List ℕ) → BackPromise k s room (call s room) (after s room)) → BackTwo k call after
ours_back k call after p s room h = record {
  fits = λ y l. back_written k s y room (call s room) (after s room) (p s room) l;
  long = is_long k s room h (call s room) (after s room) (p s room);
  other = is_other k s room h (call s room) (after s room) (p s room);
}

-- ---- the wrong programs do not

-- a room that is just long enough for the tag list of document 01's starred entry 7,1,2,0
abbrev six : List ℕ
six = 0 ∷ 0 ∷ 0 ∷ 0 ∷ 0 ∷ 0 ∷ []

abbrev single_yields : Yields Kind.Data single
single_yields = record {
  tree = record { name = 7; below = none };
  grown = record { named = (record { code = omega arith; some = λ z. omega arith }, tt, tt); small = omega arith };
  is = refl;
}

single_words : Words single
unfolding small
single_words = small_words single refl

two_words : Words two_roots
unfolding small
two_words = small_words two_roots refl

module _ (call : List ℕ → List ℕ → Written) (after : List ℕ → List ℕ → List ℕ) (d : BackTwo Kind.Data call after) where
  at_single : (call single six ≡ Ok 6) × (after single six ≡ 79 ∷ 80 ∷ 7 ∷ 0 ∷ 67 ∷ 76 ∷ [])
  unfolding tag_bytes tags_of
  at_single = (d single six single_words).fits single_yields (omega arith)

  at_two : (room : List ℕ) → (why : Refusal) × (call two_roots room ≡ Err why)
  at_two room = let q = (d two_roots room two_words).other two_none in (q.0, q.1)

apart : (l : ℕ) (r : Refusal) → Ok l ≡ Err r → ⊥
apart l r e = let z : ◌≡◌ {A = ℕ} 0 1 = ap (λ (x : Written). (answered x).refused) e in omega arith

-- refusing everything, each time as it likes, whatever it leaves
pub shut_out_back_refusing : (why : List ℕ → List ℕ → Refusal) (after : List ℕ → List ℕ → List ℕ) → BackTwo Kind.Data (λ s room. Err (why s room)) after → ⊥
shut_out_back_refusing why after d = apart 6 (why single six) (sym (at_single (λ s room. Err (why s room)) after d).0)

-- one fixed answer, whatever it leaves
pub shut_out_back_fixed : (w : Written) (after : List ℕ → List ℕ → List ℕ) → BackTwo Kind.Data (λ s room. w) after → ⊥
shut_out_back_fixed w after d =
    let q = at_two (λ s room. w) after d six in apart 6 q.0 (sym (at_single (λ s room. w) after d).0 ∙ q.1)

-- a call that does nothing to the room, whatever it answers
pub shut_out_back_idle : (call : List ℕ → List ℕ → Written) → BackTwo Kind.Data call (λ s room. room) → ⊥
shut_out_back_idle call d =
    let z : ◌≡◌ {A = ℕ} 0 79 = ap (λ (l : List ℕ). get_or l 0 0) (at_single call (λ s room. room) d).1 in omega arith

-- any call that answers on the entries of two roots, which no tree yields, whatever the room is: one that trusts every fa
pub shut_out_back_trusting : (call : List ℕ → List ℕ → Written) (after : List ℕ → List ℕ → List ℕ) (room : List ℕ) (l : ℕ)
    → call two_roots room ≡ Ok l → BackTwo Kind.Data call after → ⊥
shut_out_back_trusting call after room l e d = let q = at_two call after d room in apart l q.0 (sym e ∙ q.1)
