-- Which bytes are tag lists: those of a tree of the kind.
--   Bytes b            a list of bytes
--   Taken k b          b is the tag list of a tree of kind k
use Rattle.std.specs.Prelude.{ℕ, ◌<◌, ◌≡◌, List, get_or}
use Rattle.trees.specs.Tree.{Tree, Grown}
use Rattle.trees.specs.Tags.{tree_tags}
use Rattle.terms.specs.Kinds.{any_name, most}
use Rattle.terms.specs.declared.Kind.{Kind}
use Rattle.tag_scan.specs.TagLists.{tag_bytes}

-- "bytes"
abbrev pub Bytes : List ℕ → Type 0
Bytes b = (i : ℕ) → get_or b i 0 < 256

-- "A tag list is one whole tree."
pub record Taken (k : Kind) (b : List ℕ) : Type 0 where
  pub tree : Tree
  pub grown : Grown (any_name k) (most k) tree
  pub is : b ≡ tag_bytes (tree_tags tree)
