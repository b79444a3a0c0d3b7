-- What reading a tree into the room comes to: which tree stands in the bytes is said by `tag_scan/specs/TagLists`.
--   Filled, FilledPromise  the refusal's number, room included, and what is left in the room
--   BuiltPromise           the pass that judges and builds
use Rattle.std.specs.Prelude.{ℕ, ◌*◌, ◌≤◌, ◌≡◌, Bool, List, length}
use Rattle.trees.specs.Signature.{width}
use Rattle.terms.specs.Kinds.{any_name, most}
use Rattle.terms.specs.declared.Kind.{Kind}
use Rattle.bytes_read.specs.Scans.{halt_number}
use Rattle.terms.specs.Room.{left_by, front_with}
use Rattle.tag_scan.specs.TagLists.{tree_scan, numbers_in}

-- what reading into the room comes to: the refusal's number, room included, or 0; the place that it came to, and the numbers of the elements that it
-- passed, which are those of the result where nothing is refused
pub record Filled (number end size : ℕ) (result room : List ℕ) (fault at l : ℕ) (after : List ℕ) : Type 0 where
  pub told : fault ≡ (left_by number 0 result room).answer.number
  pub left : after ≡ (left_by number 0 result room).room
  pub ended : at ≡ end
  pub sized : l ≡ size
  pub long : fault ≡ 0 → l ≡ length result

-- the promise of what both readers call
abbrev pub FilledPromise : Bool → Kind → List ℕ → ℕ → List ℕ → ℕ → ℕ → ℕ → List ℕ → Type 0
FilledPromise whole k b p room fault at l after =
    Filled (halt_number (tree_scan whole (any_name k) (most k) b p).halt) (tree_scan whole (any_name k) (most k) b p).state.at
    (width * (tree_scan whole (any_name k) (most k) b p).state.count)
    (numbers_in b p (tree_scan whole (any_name k) (most k) b p).state.count) room fault at l after

-- what the pass over the tags comes to: the place, the elements and the refusal's number of the scan; where nothing is refused, the signature
-- stands at the front of the room that it was built in
pub record BuiltPromise (whole any : Bool) (m : ℕ) (b : List ℕ) (p : ℕ) (room : List ℕ) (fault at n : ℕ) (after : List ℕ) : Type 0 where
  pub place : at ≡ (tree_scan whole any m b p).state.at
  pub count : n ≡ (tree_scan whole any m b p).state.count
  pub number : fault ≡ halt_number (tree_scan whole any m b p).halt
  pub few : n ≤ m
  pub built : fault ≡ 0 → after ≡ front_with (numbers_in b p n) room
