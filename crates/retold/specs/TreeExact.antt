-- Demand 2 of the reader of one tree from a place on, over its promise.
--   Fronted k b p            the tag list of a tree of kind k stands in b from place p on
--   FineRead r               the verdict before room: a tree was read, or 10 was given
--   tree_accepted_exactly    bytes are taken from a place on exactly if the tag list of a tree of the kind stands there
--   tree_told                what is then written is the tree's signature, and the place is the one after its tag list
use Rattle.std.specs.Prelude.{ℕ, ◌+◌, ◌*◌, ◌≤◌, ◌<◌, ◌≡◌, ◌⊎◌, false, List, ◌++◌, length, drop, eqb, Ok}
use Rattle.std.proofs.Common.{ap, ◌∙◌, sym, subst, inl, inr, arith}
use Rattle.turns.specs.Pick.{pick}
use Rattle.trees.specs.Tree.{Tree, size, whole, Grown}
use Rattle.trees.specs.Signature.{signature}
use Rattle.trees.specs.Tags.{tree_tags}
use Rattle.terms.specs.Kinds.{any_name, most}
use Rattle.terms.specs.Stops.{Answered}
use Rattle.terms.specs.declared.Kind.{Kind}
use Rattle.bytes_read.specs.Scans.{halt_number}
use Rattle.terms.specs.Room.{Left, left_by, front_with}
use Rattle.bytes_read.proofs.Rooms.{short_is, written_is}
use Rattle.tag_scan.specs.TagLists.{tag_bytes, tree_scan, numbers_in}
use Rattle.tag_lists.specs.Readers.{read_told, ReadLeft, TreePromise, TreeRead}
use Rattle.tag_lists.proofs.Reading.{unread_by}
use Rattle.retold.specs.Rooms.{reading_apart, Case, refused, short, written, which}
use Rattle.retold.specs.Taken.{Bytes}
use Rattle.retold.specs.Sound.{Read, scan_sound}
use Rattle.retold.specs.Complete.{Scanned, scan_complete, numbers_there}
use Rattle.retold.specs.Numbers.{never_ten}

-- the tag list of a tree, and what comes after it
pub record Fronted (k : Kind) (b : List ℕ) (p : ℕ) : Type 0 where
  pub tree : Tree
  pub grown : Grown (any_name k) (most k) tree
  pub rest : List ℕ
  pub is : drop p b ≡ tag_bytes (tree_tags tree) ++ rest

-- the verdict before room: a tree was read, or only the room was too small
abbrev pub FineRead : TreeRead → Type 0
FineRead r = ((l : ℕ) × ((end : ℕ) × (r ≡ Ok (l, end)))) ⊎ (r ≡ unread_by 10)

module _ (number end : ℕ) (result room : List ℕ) (r : TreeRead) (after : List ℕ) (g : ReadLeft number end result room r after) where
  -- a result that fits is written, and the place is told
  pub read_written : number ≡ 0 → length result ≤ length room → (r ≡ Ok ((length result), end)) × (after ≡ front_with result room)
  read_written h l =
      let e = written_is number 0 result room h l in
      let t = g.told ∙ ap (λ (x : Left). x.answer) e in
      let d = g.ended ∙ ap (λ (x : Left). pick (eqb x.answer.refused 0) end 0) e in
      (reading_apart r (Ok ((length result), end)) (λ i. record { answer = t i; end = d i }), g.left ∙ ap (λ (x : Left). x.room) e)

  pub read_short : number ≡ 0 → length room < length result → r ≡ unread_by 10
  read_short h l =
      let e = short_is number 0 result room h l in
      let t = g.told ∙ ap (λ (x : Left). x.answer) e in
      let d = g.ended ∙ ap (λ (x : Left). pick (eqb x.answer.refused 0) end 0) e in
      reading_apart r (unread_by 10) (λ i. record { answer = t i; end = d i })

  -- a tree was read, or 10 was given: nothing else was refused, unless it was 10
  pub fine_read : (number ≡ 10 → ⊥) → FineRead r → number ≡ 0
  fine_read ten f = go f (which number 0 result room)
    where
      told : (a : Answered) → (left_by number 0 result room).answer ≡ a → (read_told r).answer ≡ a
      told a e = g.told ∙ e

      go : FineRead r → Case number 0 result room → number ≡ 0
      go f (short h l e) = h
      go f (written h l e) = h
      go (inl x) (refused h e) =
          let z : ◌≡◌ {A = ℕ} 0 1 = ap (λ (a : Answered). a.refused) (ap (λ (y : TreeRead). (read_told y).answer) (sym x.1.1) ∙ told _ (ap (λ (y : Left). y.answer) e)) in
          absurd (omega arith)
      go (inr x) (refused h e) =
          let z : 10 ≡ number = ap (λ (a : Answered). a.number) (ap (λ (y : TreeRead). (read_told y).answer) (sym x) ∙ told _ (ap (λ (y : Left). y.answer) e)) in
          absurd (ten (sym z))

module _ (k : Kind) (b : List ℕ) (p : ℕ) where
  abbrev number : ℕ
  number = halt_number (tree_scan false (any_name k) (most k) b p).halt

  abbrev result : List ℕ
  result = numbers_in b p (tree_scan false (any_name k) (most k) b p).state.count

  -- the scan of a tree's tag list, and its numbers
  scanned : (y : Fronted k b p) → Scanned false (any_name k) (most k) b y.tree p y.rest
  scanned y = scan_complete false (any_name k) (most k) b y.tree p y.rest y.grown tt y.is

  result_is : (y : Fronted k b p) → result ≡ signature y.tree
  result_is y = ap (numbers_in b p) (scanned y).count_is ∙ numbers_there b y.tree p y.rest y.is

  -- what comes after the tree stands at the place that is told
  pub tree_rest : (y : Fronted k b p) → drop (p + 6 * size (whole y.tree)) b ≡ y.rest
  tree_rest y = ap (λ (x : ℕ). drop x b) (sym (scanned y).at_is) ∙ (scanned y).rest_is

  module _ (room : List ℕ) (r : TreeRead) (after : List ℕ) (g : TreePromise k b p room r after) where
    -- a tree is taken from place p on exactly if the tag list of a tree of the kind stands there
    pub record TreeExactly : Type 0 where
      pub sound : FineRead r → Fronted k b p
      pub complete : Fronted k b p → FineRead r

    pub tree_accepted_exactly : Bytes b → TreeExactly
    tree_accepted_exactly h = record {
      sound = λ f. front (scan_sound false (any_name k) (most k) b h p (fine_read number _ result room r after g (never_ten false (any_name k) (most k) b p) f));
      complete = λ y. go (scanned y).number_is (which number 0 result room);
    }
      where
        front : Read false (any_name k) (most k) b h p (tree_scan false (any_name k) (most k) b p).state → Fronted k b p
        front x = record { tree = x.tree; grown = x.grown; rest = drop (tree_scan false (any_name k) (most k) b p).state.at b; is = x.bytes_are }

        go : number ≡ 0 → Case number 0 result room → FineRead r
        go z (refused n e) = absurd (n z)
        go z (short n l e) = inr (read_short number _ result room r after g n l)
        go z (written n l e) = inl (length result, ((tree_scan false (any_name k) (most k) b p).state.at, (read_written number _ result room r after g n l).0))

    -- what is written is the tree's signature, and the place is the one after its tag list
    pub tree_told : (y : Fronted k b p) → length (signature y.tree) ≤ length room
        → (r ≡ Ok ((length (signature y.tree)), (p + 6 * size (whole y.tree)))) × (after ≡ front_with (signature y.tree) room)
    tree_told y l =
        let e = result_is y in
        let x = read_written number _ result room r after g (scanned y).number_is (subst (λ (s : List ℕ). length s ≤ length room) (sym e) l) in
        let by_result : List ℕ → TreeRead = λ s. Ok (length s, (tree_scan false (any_name k) (most k) b p).state.at) in
        let by_place : ℕ → TreeRead = λ q. Ok (length (signature y.tree), q) in (
          x.0 ∙ ap by_result e ∙ ap by_place (scanned y).at_is,
          x.1 ∙ ap (λ (s : List ℕ). front_with s room) e,
        )
