-- Which inputs are questions, said of trees.
--   Asked b            b is the tag list of a data tree and at once the tag list of a twig
--   Exactly b          b is a question exactly if it is that, and what is read then are the signatures of the two trees
--   question_exactly   so it is, for any input bytes
use Rattle.std.specs.Prelude.{ℕ, ◌≤◌, ◌≡◌, false, List, ◌++◌, length}
use Rattle.std.proofs.Common.{ap, ◌∙◌, arith, length-append}
use Rattle.trees.specs.Tree.{Tree, whole, Grown}
use Rattle.trees.specs.Signature.{signature}
use Rattle.trees.specs.Tags.{tree_tags}
use Rattle.terms.specs.declared.Kind.{Kind}
use Rattle.terms.specs.Kinds.{any_name, most}
use Rattle.tag_scan.specs.TagLists.{tag_bytes, numbers_in}
use Rattle.tag_writing.proofs.Emit.{tag_bytes_length}
use Rattle.retold.specs.Taken.{Bytes, Taken}
use Rattle.retold.specs.Sound.{scan_sound}
use Rattle.retold.specs.Complete.{Scanned, scan_complete, numbers_there}
use Rattle.retold.specs.Exact.{fine_taken, taken_fine}
use Rattle.lines.specs.Listing.{most_bytes, data_scan, data_of, rest_of, twig_of}
use Rattle.listing_told.specs.Ground.{Question, rest_bytes}

-- "a data tag list and at once a twig tag list"
pub record Asked (b : List ℕ) : Type 0 where
  pub data_tree : Tree
  pub twig : Tree
  pub data_grown : Grown (any_name Kind.Data) (most Kind.Data) data_tree
  pub twig_grown : Grown (any_name Kind.Twig) (most Kind.Twig) twig
  pub is : b ≡ tag_bytes (tree_tags data_tree) ++ tag_bytes (tree_tags twig)

module _ (b : List ℕ) where
  -- what is not refused is two tag lists and nothing else
  asked : Question b → Asked b
  asked q =
      let d = scan_sound false (any_name Kind.Data) (most Kind.Data) b q.bytes 0 q.data_fine in
      let t = (fine_taken Kind.Twig (rest_of b) (rest_bytes b (data_scan b).state.at q.bytes) q.twig_fine).0 in
      record {
        data_tree = d.tree;
        twig = t.tree;
        data_grown = d.grown;
        twig_grown = t.grown;
        is = d.bytes_are ∙ ap (λ (l : List ℕ). tag_bytes (tree_tags d.tree) ++ l) t.is;
      }

  module _ (y : Asked b) where
    -- the scan of the data list stops where the twig begins
    scanned : Scanned false (any_name Kind.Data) (most Kind.Data) b y.data_tree 0 (tag_bytes (tree_tags y.twig))
    scanned =
        scan_complete false (any_name Kind.Data) (most Kind.Data) b y.data_tree 0 (tag_bytes (tree_tags y.twig)) y.data_grown tt y.is

    twig_taken : Taken Kind.Twig (rest_of b)
    twig_taken = record { tree = y.twig; grown = y.twig_grown; is = scanned.rest_is }

    -- six bytes for each of at most 4,096 elements and 16 nodes
    asked_short : length b ≤ most_bytes
    asked_short =
        omega (
          arith,
          ap length y.is,
          length-append (tag_bytes (tree_tags y.data_tree)) (tag_bytes (tree_tags y.twig)),
          tag_bytes_length (whole y.data_tree),
          tag_bytes_length (whole y.twig),
          y.data_grown.small,
          y.twig_grown.small,
        )

    data_signature : data_of b ≡ signature y.data_tree
    data_signature =
        ap (numbers_in b 0) scanned.count_is ∙ numbers_there b y.data_tree 0 (tag_bytes (tree_tags y.twig)) y.is

    twig_signature : twig_of (rest_of b) ≡ signature y.twig
    unfolding twig_taken
    twig_signature = (taken_fine Kind.Twig (rest_of b) twig_taken).1

    question : Bytes b → Question b
    question h = record {
      bytes = h;
      short = asked_short;
      data_fine = scanned.number_is;
      twig_fine = (taken_fine Kind.Twig (rest_of b) twig_taken).0;
    }

  -- the two directions, and what is read of the two trees
  pub record Exactly : Type 0 where
    pub sound : Question b → Asked b
    pub complete : Asked b → Question b
    pub data_read : (y : Asked b) → data_of b ≡ signature y.data_tree
    pub twig_read : (y : Asked b) → twig_of (rest_of b) ≡ signature y.twig

  -- the listing program takes just the inputs that are a data tag list and at once a twig tag list
  pub question_exactly : Bytes b → Exactly
  question_exactly h = record {
    sound = asked;
    complete = λ y. question y h;
    data_read = data_signature;
    twig_read = twig_signature;
  }
