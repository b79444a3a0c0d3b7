-- Tag lists: "`OP` and a name opens an element (4 bytes) and `CL` closes the innermost one (2 bytes). A tag list is one whole tree."
--   tag_bytes l             the bytes of a tag list
--   tag_fault any most b st  the refusal of the record at the scan's place
--   tag_next b st           the state after it
--   tree_scan …             records from a place on, to the close of the root, or to the end of the bytes
--   tags_from b k p         k tags from place p on
--   tree_numbers o          the signature of a tree, if it is one
--   numbers_in b p n        the signature of the tree of n elements whose tags stand from place p on
use Rattle.std.specs.Prelude.{ℕ, zero, suc, ◌+◌, ◌-◌, ◌*◌, Bool, not, ◌&&◌, ◌||◌, List, [], ◌∷◌, length, ltb, leb, eqb}
use Rattle.std.proofs.Math.Option.{Option, none, some}
use Rattle.turns.specs.Pick.{pick}
use Rattle.turns.specs.Turn.{Turned}
use Rattle.trees.specs.Tree.{Tree}
use Rattle.trees.specs.Signature.{signature}
use Rattle.trees.specs.Tags.{Tag, opens, closes, tree_of}
use Rattle.bytes_read.specs.Bytes.{number_at, low, high, marked}
use Rattle.bytes_read.specs.Scans.{Scan, first_fault, begin, scan_by}

-- `OP` and a name, or `CL`
unfoldable pub tag_bytes : List Tag → List ℕ
tag_bytes [] = []
tag_bytes (opens a ∷ l) = 79 ∷ 80 ∷ low a ∷ high a ∷ tag_bytes l
tag_bytes (closes ∷ l) = 67 ∷ 76 ∷ tag_bytes l

-- the mark at place p is `OP`: it "opens an element"
abbrev pub opening : List ℕ → ℕ → Bool
opening b p = marked b p 79 80

-- the mark at place p is `CL`: it "closes the innermost one"
abbrev pub closing : List ℕ → ℕ → Bool
closing b p = marked b p 67 76

-- the root is closed: some element, and none open
unfoldable pub closed_with : ℕ → ℕ → Bool
closed_with depth count = eqb depth 0 && ltb 0 count

-- the scan has come to the close of the root
abbrev pub root_closed : Scan → Bool
root_closed st = closed_with st.depth st.count

-- "name 0 in a data tree"
unfoldable pub nameless_at : Bool → List ℕ → ℕ → Bool
nameless_at any b p = not any && eqb (number_at b (p + 2)) 0

-- "close with nothing open, a record after the root closed"
unfoldable pub misnested : List ℕ → Scan → Bool
misnested b st = pick (opening b st.at) (root_closed st) (eqb st.depth 0)

-- "or an element open at the end"; else the first fault of the record
unfoldable pub tag_fault : Bool → ℕ → List ℕ → Scan → ℕ
tag_fault any most b st =
    pick (leb (length b) st.at && ltb 0 st.count) 12
    (first_fault (ltb (length b) (st.at + 2)) (not (opening b st.at || closing b st.at))
    (opening b st.at && ltb (length b) (st.at + 4))
    (opening b st.at && nameless_at any b st.at)
    (misnested b st) (opening b st.at && leb most st.count))

-- an element opens, or the innermost one closes
unfoldable pub tag_next : List ℕ → Scan → Scan
tag_next b st =
    pick (opening b st.at) (record { at = st.at + 4; depth = st.depth + 1; count = st.count + 1 })
    (record { at = st.at + 2; depth = st.depth - 1; count = st.count })

-- a reader of one whole list goes to the end of the bytes; one that reads a tree from a place on stops at the close of its root
unfoldable pub tree_end : Bool → List ℕ → Scan → Bool
tree_end whole b st = root_closed st && (not whole || eqb st.at (length b))

-- the records from place p on, up to the close of the root or, for one whole list, up to the end of the bytes
abbrev pub tree_scan : Bool → Bool → ℕ → List ℕ → ℕ → Turned Scan
tree_scan whole any most b p = scan_by (tree_end whole b) (tag_fault any most b) (tag_next b) (length b) (begin p)

-- k tags, where there are so many
unfoldable pub tags_from : List ℕ → ℕ → ℕ → List Tag
tags_from b zero p = []
tags_from b (suc k) p = pick (opening b p) (opens (number_at b (p + 2)) ∷ tags_from b k (p + 4)) (closes ∷ tags_from b k (p + 2))

-- the signature of a tree, if it is one
abbrev pub tree_numbers : Option Tree → List ℕ
tree_numbers none = []
tree_numbers (some t) = signature t

-- the signature of the tree of n elements whose tags stand from place p on
abbrev pub numbers_in : List ℕ → ℕ → ℕ → List ℕ
numbers_in b p n = tree_numbers (tree_of (tags_from b (2 * n) p))
