-- Each theorem over the promises of the record calls that has a premise, used once on document 01's starred entry 7,1,2,0: so no premise is empty.
--   byte_sized, byte_sized_law    every number of a list is a byte, as a test; a list that passes it is a list of bytes
--   tags_bytes, record_bytes, framed_bytes, single_words   the lists used here are of bytes, and of sixteen-bit numbers
--   long, nines              a room one longer than the signature of one entry, and one that is too small for it
--   tag_room, record_room      rooms one longer than the tag list of one element, and than one signature record
--   tags_read, tree_read, back_written, record_read, record_written   what the calls answer and leave on that entry, as promised
--   tags_taken, tags_fine    the tag list that is taken is a tree's; the tree's tag list is taken
--   open_tags, open_refused   an element that is still open at the end is refused
--   open_left                the refused reader left the room as it was
--   framed, framed_tree      the tag list with a byte before it and two after it; the tree that stands there
--   tree_taken, tree_fine    a tree that is taken from place 1 on stands there; one that stands there is taken
--   tree_written             reading it writes the entry and tells the place after it
--   tree_after               what stands at that place
--   tree_refused             a room of three numbers is refused as 10
--   tree_short               exactly because nothing before room is refused and the entry is longer
--   tags_again, single_again     the tag list read and written back; the signature written as a tag list and read back
--   record_again, entry_again    the signature record read and written back; the signature written as a record and read back
use Rattle.std.specs.Prelude.{ℕ, zero, suc, ◌+◌, ◌*◌, ◌≡◌, refl, Bool, true, false, ◌&&◌, List, [], ◌∷◌, ◌++◌, drop, ltb, Ok, Err}
use Rattle.std.proofs.Common.{inl, arith, ltb-true}
use Rattle.std.proofs.lemmas.Bool.{false≢true}
use Rattle.turns.specs.Turn.{run}
use Rattle.trees.specs.Tree.{none}
use Rattle.trees.specs.Signature.{cell}
use Rattle.trees.specs.Tags.{tags_of, opened, closed, rows_of, one_tree, tree_of}
use Rattle.terms.specs.declared.Kind.{Kind}
use Rattle.terms.specs.Length.{length_fault}
use Rattle.terms.specs.Room.{left_by, room_for, front_with}
use Rattle.terms.specs.Stops.{Written}
use Rattle.checking.specs.Rule.{step_of, close_of, accepted, nameless, second_root, in_range}
use Rattle.checking.specs.Turn.{turn_within}
use Rattle.checked.specs.Yields.{Words}
use Rattle.checked.specs.Menus.{single, single_record, single_tags}
use Rattle.checked.specs.ShutOut.{small, small_words}
use Rattle.bytes_read.specs.Bytes.{marked}
use Rattle.bytes_read.specs.Scans.{step_by}
use Rattle.records.specs.Records.{record_fault, records_end, numbers_from, bytes_from, nameless_from, write_fault, ReadPromise, WritePromise}
use Rattle.tag_scan.specs.TagLists.{tag_bytes, closed_with, nameless_at, misnested, tag_fault, tag_next, tree_end, tags_from}
use Rattle.tag_lists.specs.Readers.{tags_left, TagsPromise, TreePromise, TreeRead}
use Rattle.tag_writing.specs.TagsBack.{row_from, back_left, BackPromise}
use Rattle.retold.specs.Taken.{Bytes, Taken}
use Rattle.retold.specs.ShutOut.{one_taken}
use Rattle.retold.specs.Calls.{tags_nothing}
use Rattle.retold.specs.Exact.{Fine, tags_accepted_exactly}
use Rattle.retold.specs.TreeExact.{Fronted, FineRead, tree_accepted_exactly, tree_told, tree_rest}
use Rattle.retold.specs.RoundTrips.{tags_there_and_back, tags_back_and_there, records_there_and_back, records_back_and_there}
use Rattle.retold.specs.Tens.{TenExactly, tree_ten_exactly}

-- ---- lists of bytes and of numbers

-- every number of a list is a byte
unfoldable byte_sized : List ℕ → Bool
byte_sized [] = true
byte_sized (x ∷ l) = ltb x 256 && byte_sized l

-- a list that passes the test is a list of bytes
byte_sized_law : (b : List ℕ) → byte_sized b ≡ true → Bytes b
unfolding byte_sized
byte_sized_law [] h = λ i. omega arith
byte_sized_law (x ∷ l) h = go (λ q. byte_sized_law l q) (ltb x 256) refl h
  where
    go : (byte_sized l ≡ true → Bytes l) → (t : Bool) → ltb x 256 ≡ t → (t && byte_sized l) ≡ true → Bytes (x ∷ l)
    go rest true e q zero = ltb-true x 256 e
    go rest true e q (suc i) = rest q i
    go rest false e q i = absurd (false≢true q)

-- the tag list of one element is a list of bytes
tags_bytes : Bytes single_tags
unfolding byte_sized
tags_bytes = byte_sized_law single_tags refl

-- one signature record is a list of bytes
record_bytes : Bytes single_record
unfolding byte_sized
record_bytes = byte_sized_law single_record refl

-- the signature of one entry is a list of sixteen-bit numbers
single_words : Words single
unfolding small
single_words = small_words single refl

-- ---- rooms

-- a room one longer than the signature of one entry
abbrev long : List ℕ
long = 9 ∷ 9 ∷ 9 ∷ 9 ∷ 9 ∷ []

-- a room that is too small for it
abbrev nines : List ℕ
nines = 9 ∷ 9 ∷ 9 ∷ []

-- a room one longer than the tag list of one element
abbrev tag_room : List ℕ
tag_room = 9 ∷ 9 ∷ 9 ∷ 9 ∷ 9 ∷ 9 ∷ 9 ∷ []

-- a room one longer than one signature record
abbrev record_room : List ℕ
record_room = 9 ∷ 9 ∷ 9 ∷ 9 ∷ 9 ∷ 9 ∷ 9 ∷ 9 ∷ 9 ∷ 9 ∷ 9 ∷ []

-- ---- a whole tag list, read

-- the entry stands at the front of the room, and one nine beyond it
tags_read : TagsPromise Kind.Data single_tags long (Ok 4) (single ++ (9 ∷ []))
unfolding run step_by marked closed_with nameless_at misnested tag_fault tag_next tree_end tags_from opened closed rows_of one_tree tree_of left_by room_for
tags_read = record { told = refl; left = refl }

-- what the reader took is the tag list of a tree
pub tags_taken : Taken Kind.Data single_tags
tags_taken = (tags_accepted_exactly Kind.Data single_tags long (Ok 4) (single ++ (9 ∷ [])) tags_read tags_bytes).sound (inl (4, refl))

-- and the tag list of the tree of one element is taken
pub tags_fine : Fine (Ok 4)
tags_fine = (tags_accepted_exactly Kind.Data single_tags long (Ok 4) (single ++ (9 ∷ [])) tags_read tags_bytes).complete one_taken

-- an element that is still open at the end
abbrev open_tags : List ℕ
open_tags = 79 ∷ 80 ∷ 7 ∷ 0 ∷ []

-- it is refused as 12, and the room at exit is what the promise says
open_refused :
    TagsPromise Kind.Data open_tags long (Err (record { number = 12; entry = record { 0 = 0 } })) (tags_left Kind.Data open_tags long).room
unfolding run step_by marked closed_with nameless_at misnested tag_fault tag_next tree_end tags_from opened closed rows_of one_tree tree_of left_by room_for
open_refused = record { told = refl; left = refl }

-- the refused reader left the room as it was
pub open_left : (tags_left Kind.Data open_tags long).room ≡ long
open_left =
    tags_nothing Kind.Data open_tags long (record { number = 12; entry = record { 0 = 0 } }) (tags_left Kind.Data open_tags long).room open_refused

-- ---- one tree, read from a place on

-- the tag list with a byte before it and two after it
abbrev framed : List ℕ
framed = 5 ∷ (single_tags ++ (83 ∷ 69 ∷ []))

-- it is a list of bytes
framed_bytes : Bytes framed
unfolding byte_sized
framed_bytes = byte_sized_law framed refl

-- the tree of one element stands there from place 1 on
framed_tree : Fronted Kind.Data framed 1
unfolding tag_bytes tags_of
framed_tree = record {
  tree = record { name = 7; below = none };
  grown = record { named = (record { code = omega arith; some = λ z. omega arith }, tt, tt); small = omega arith };
  rest = 83 ∷ 69 ∷ [];
  is = refl;
}

-- the entry stands at the front of the room, and the tree ended before place 7
tree_read : TreePromise Kind.Data framed 1 long (Ok (4, 7)) (single ++ (9 ∷ []))
unfolding run step_by marked closed_with nameless_at misnested tag_fault tag_next tree_end tags_from opened closed rows_of one_tree tree_of left_by room_for
tree_read = record { told = refl; ended = refl; left = refl }

-- where the reader took a tree, the tag list of a tree stands
pub tree_taken : Fronted Kind.Data framed 1
tree_taken =
    (tree_accepted_exactly Kind.Data framed 1 long (Ok (4, 7)) (single ++ (9 ∷ [])) tree_read framed_bytes).sound (inl (4, (7, refl)))

-- and where the tag list of a tree stands, a tree is taken
pub tree_fine : FineRead (Ok (4, 7))
tree_fine = (tree_accepted_exactly Kind.Data framed 1 long (Ok (4, 7)) (single ++ (9 ∷ [])) tree_read framed_bytes).complete framed_tree

-- four numbers are written, those of the entry, and place 7 is told
pub tree_written : ◌≡◌ {A = TreeRead} (Ok (4, 7)) (Ok (4, (1 + 6 * 1))) × (single ++ (9 ∷ []) ≡ front_with single long)
unfolding framed_tree
tree_written = tree_told Kind.Data framed 1 long (Ok (4, 7)) (single ++ (9 ∷ [])) tree_read framed_tree (omega arith)

-- the two bytes after the tree stand at the place that is told
pub tree_after : drop 7 framed ≡ 83 ∷ 69 ∷ []
unfolding framed_tree
tree_after = tree_rest Kind.Data framed 1 framed_tree

-- a room of three numbers is too small for it
tree_refused : TreePromise Kind.Data framed 1 nines (Err (record { number = 10; entry = record { 0 = 0 } })) nines
unfolding run step_by marked closed_with nameless_at misnested tag_fault tag_next tree_end tags_from opened closed rows_of one_tree tree_of left_by room_for
tree_refused = record { told = refl; ended = refl; left = refl }

-- 10 was given because nothing before room is refused, and the entry is longer than the room
pub tree_short : TenExactly 10 0 single nines
unfolding run step_by marked closed_with nameless_at misnested tag_fault tag_next tree_end tags_from opened closed rows_of one_tree tree_of
tree_short = tree_ten_exactly Kind.Data framed 1 nines (Err (record { number = 10; entry = record { 0 = 0 } })) nines tree_refused

-- ---- there and back

-- the signature written as a tag list, and one nine beyond it
back_written : BackPromise Kind.Data single tag_room (Ok 6) (single_tags ++ (9 ∷ []))
unfolding run turn_within length_fault in_range step_of close_of nameless second_root accepted cell tags_of tag_bytes row_from back_left left_by room_for
back_written = record { told = refl; left = refl }

-- the tag list read as numbers and written back is the tag list
pub tags_again : ◌≡◌ {A = Written} (Ok 6) (Ok 6) × (single_tags ++ (9 ∷ []) ≡ front_with single_tags tag_room)
tags_again =
    tags_there_and_back Kind.Data single_tags tags_bytes long (single ++ (9 ∷ [])) 4 tags_read single (9 ∷ []) refl refl
    tag_room (Ok 6) (single_tags ++ (9 ∷ [])) back_written (omega arith)

-- the signature written as a tag list and read back is the signature
pub single_again : ◌≡◌ {A = Written} (Ok 4) (Ok 4) × (single ++ (9 ∷ []) ≡ front_with single long)
single_again =
    tags_back_and_there Kind.Data single single_words tag_room (single_tags ++ (9 ∷ [])) 6 back_written single_tags (9 ∷ []) refl refl
    long (Ok 4) (single ++ (9 ∷ [])) tags_read (omega arith)

-- the signature record read as numbers
record_read : ReadPromise single_record long (Ok 4) (single ++ (9 ∷ []))
unfolding run step_by marked record_fault records_end numbers_from left_by room_for
record_read = record { told = refl; left = refl }

-- the signature written as a record
record_written : WritePromise single record_room (Ok 10) (single_record ++ (9 ∷ []))
unfolding length_fault bytes_from nameless_from write_fault left_by room_for
record_written = record { told = refl; left = refl }

-- the record read as numbers and written back is the record
pub record_again : ◌≡◌ {A = Written} (Ok 10) (Ok 10) × (single_record ++ (9 ∷ []) ≡ front_with single_record record_room)
record_again =
    records_there_and_back single_record record_bytes long (single ++ (9 ∷ [])) 4 record_read single (9 ∷ []) refl refl
    record_room (Ok 10) (single_record ++ (9 ∷ [])) record_written (omega arith)

-- the signature written as a record and read back is the signature
pub entry_again : ◌≡◌ {A = Written} (Ok 4) (Ok 4) × (single ++ (9 ∷ []) ≡ front_with single long)
entry_again =
    records_back_and_there single single_words record_room (single_record ++ (9 ∷ [])) 10 record_written single_record (9 ∷ []) refl refl
    long (Ok 4) (single ++ (9 ∷ [])) record_read (omega arith)
