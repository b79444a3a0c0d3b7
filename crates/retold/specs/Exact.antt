-- Demand 2 of the reader of tag lists, over its promise.
--   Fine w                      the verdict before room: it worked, or 10 was given
--   number, result              the number that the bytes are refused with before the room is judged, and the numbers that they come to
--   tags_accepted_exactly       bytes are taken exactly if they are the tag list of a tree of the kind
--   tags_signature              and what is written then is that tree's signature
use Rattle.std.specs.Prelude.{ℕ, ◌≤◌, ◌≡◌, refl, ◌⊎◌, true, List, [], ◌++◌, length, drop, Ok, Err}
use Rattle.std.proofs.Common.{ap, ◌∙◌, sym, subst, inl, inr, append-nil, arith}
use Rattle.std.proofs.Math.Seq.{drop-length}
use Rattle.trees.specs.Signature.{signature}
use Rattle.trees.specs.Tags.{tree_tags}
use Rattle.terms.specs.Kinds.{any_name, most}
use Rattle.terms.specs.Stops.{Answered, answered, Written}
use Rattle.terms.specs.declared.Kind.{Kind}
use Rattle.bytes_read.specs.Scans.{halt_number}
use Rattle.terms.specs.Room.{Left, left_by, front_with}
use Rattle.tag_scan.specs.TagLists.{tag_bytes, tree_scan, numbers_in}
use Rattle.tag_lists.specs.Readers.{TagsPromise}
use Rattle.retold.specs.Rooms.{Case, refused, short, written, which, fits_written, ten_given}
use Rattle.retold.specs.Taken.{Bytes, Taken}
use Rattle.retold.specs.Sound.{scan_sound}
use Rattle.retold.specs.Complete.{scan_complete, numbers_there}
use Rattle.retold.specs.Ends.{whole_ends}
use Rattle.retold.specs.Numbers.{never_ten}

-- the verdict before room: it worked, or only the room was too small
abbrev pub Fine : Written → Type 0
Fine w = ((l : ℕ) × (w ≡ Ok l)) ⊎ (w ≡ Err (record { number = 10; entry = record { 0 = 0 } }))

module _ (k : Kind) (b : List ℕ) where
  -- the number that the bytes are refused with before the room is judged, or 0
  abbrev pub number : ℕ
  number = halt_number (tree_scan true (any_name k) (most k) b 0).halt

  -- the numbers that the bytes come to
  abbrev pub result : List ℕ
  result = numbers_in b 0 (tree_scan true (any_name k) (most k) b 0).state.count

  -- bytes without a refusal are the tag list of a tree, whose signature is the result
  pub fine_taken : Bytes b → number ≡ 0
      → (y : Taken k b) × (result ≡ signature y.tree)
  fine_taken h z =
      let r = scan_sound true (any_name k) (most k) b h 0 z in
      let e = whole_ends (any_name k) (most k) b 0 z in (
        record {
          tree = r.tree;
          grown = r.grown;
          is = r.bytes_are ∙ ap (λ (p : ℕ). tag_bytes (tree_tags r.tree) ++ drop p b) e
              ∙ ap (λ (l : List ℕ). tag_bytes (tree_tags r.tree) ++ l) (drop-length b) ∙ append-nil (tag_bytes (tree_tags r.tree));
        },
        r.numbers,
      )

  -- the tag list of a tree is not refused, and the result is the tree's signature
  pub taken_fine : (y : Taken k b)
      → (number ≡ 0) × (result ≡ signature y.tree)
  taken_fine y =
      let e = y.is ∙ sym (append-nil (tag_bytes (tree_tags y.tree))) in
      let x = scan_complete true (any_name k) (most k) b y.tree 0 [] y.grown refl e in
      (x.number_is, ap (numbers_in b 0) x.count_is ∙ numbers_there b y.tree 0 [] e)

  module _ (room : List ℕ) (w : Written) (after : List ℕ) (p : TagsPromise k b room w after) where
    -- it worked, or 10 was given: nothing else was refused
    fine_number : Fine w → number ≡ 0
    fine_number f = go f (which number 0 result room)
      where
        told : (a : Answered) → (left_by number 0 result room).answer ≡ a → answered w ≡ a
        told a e = p.told ∙ e

        go : Fine w → Case number 0 result room → number ≡ 0
        go f (short h l e) = h
        go f (written h l e) = h
        go (inl x) (refused h e) =
            let z : ◌≡◌ {A = ℕ} 0 1 = ap (λ (a : Answered). a.refused) (ap answered (sym x.1) ∙ told _ (ap (λ (y : Left). y.answer) e)) in absurd (omega arith)
        go (inr x) (refused h e) =
            let z : 10 ≡ number = ap (λ (a : Answered). a.number) (ap answered (sym x) ∙ told _ (ap (λ (y : Left). y.answer) e)) in absurd (ten z)
          where
            ten : 10 ≡ number → ⊥
            ten z = never_ten true (any_name k) (most k) b 0 (sym z)

    -- demand 2, of the verdict before room
    pub record Exactly : Type 0 where
      pub sound : Fine w → Taken k b
      pub complete : Taken k b → Fine w

    pub tags_accepted_exactly : Bytes b → Exactly
    tags_accepted_exactly h = record {
      sound = λ f. (fine_taken h (fine_number f)).0;
      complete = λ y. go (taken_fine y).0 (which number 0 result room);
    }
      where
        go : number ≡ 0 → Case number 0 result room → Fine w
        go z (refused n e) = absurd (n z)
        go z (short n l e) = inr (ten_given number 0 result room w after p n l)
        go z (written n l e) = inl (length result, (fits_written number 0 result room w after p n l).0)

    -- what is written is the tree's signature
    pub tags_signature : (y : Taken k b) → length (signature y.tree) ≤ length room
        → (w ≡ Ok (length (signature y.tree))) × (after ≡ front_with (signature y.tree) room)
    tags_signature y l =
        let f = taken_fine y in
        let r = fits_written number 0 result room w after p f.0 (subst (λ (x : List ℕ). length x ≤ length room) (sym f.1) l) in
        (r.0 ∙ ap (λ (x : List ℕ). Ok (length x)) f.1, r.1 ∙ ap (λ (x : List ℕ). front_with x room) f.1)
