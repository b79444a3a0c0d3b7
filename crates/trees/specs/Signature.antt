-- The extended signature of a tree: 4×n numbers, name, post, ff and fa for each entry.
--   cell w s i k        number k, from 0, of entry i, from 1, where an entry has w numbers; 0 past the end, and entry 0 reads as entry 1
--   Entries             name, post, ff and fa as functions of the rank
--   entries_of w s       those of a list whose entries have w numbers
--   entries s           how many entries a signature has
--   row_signature f i up c   the numbers of a row whose first element is entry i, below entry up, c elements closed before it
--   signature t         the signature of a tree
use Rattle.std.specs.Prelude.{ℕ, ◌+◌, ◌-◌, ◌*◌, ◌/◌, List, [], ◌∷◌, ◌++◌, get_or, length}
use Rattle.trees.specs.Tree.{Forest, none, elem, size, Tree, whole}

-- number k of entry i, where an entry has w numbers
unfoldable pub cell : ℕ → List ℕ → ℕ → ℕ → ℕ
cell w s i k = get_or s (w * (i - 1) + k) 0

-- "Entry i (pre i) holds name, post, ff and fa."
pub record Entries : Type 0 where
  pub name : ℕ → ℕ
  pub post : ℕ → ℕ
  pub ff : ℕ → ℕ
  pub fa : ℕ → ℕ

-- "name, post, ff, fa for each entry", at the front of w numbers
abbrev pub entries_of : ℕ → List ℕ → Entries
entries_of w s = record { name = λ i. cell w s i 0; post = λ i. cell w s i 1; ff = λ i. cell w s i 2; fa = λ i. cell w s i 3 }

-- how many numbers an entry of a signature has
abbrev pub width : ℕ
width = 4

-- n of a signature, m of a twig: the number of entries
abbrev pub entries : List ℕ → ℕ
entries s = length s / width

-- each element closes after all below it, its block ends after all below it, and its children have it as their parent
abbrev pub row_signature : Forest → ℕ → ℕ → ℕ → List ℕ
row_signature none i up c = []
row_signature (elem a below after) i up c =
    a ∷ (c + size below + 1) ∷ (i + 1 + size below) ∷ up
    ∷ (row_signature below (i + 1) i c ++ row_signature after (i + 1 + size below) up (c + size below + 1))

-- "In memory a signature is 4×n sixteen-bit numbers": the root is entry 1, has no parent, and nothing is closed before it
abbrev pub signature : Tree → List ℕ
signature t = row_signature (whole t) 1 0 0
