-- What stands first in each call: the whole check, then the arguments.
--   after_check s refuse a   a where the whole check accepts s, else its refusal
--   is_rank n i              i is a rank from 1 to n
--   Ready s n               what the code of a call goes by once the check has accepted
use Rattle.std.specs.Prelude.{ℕ, ◌*◌, ◌≤◌, ◌≡◌, List, Bool, ◌&&◌, length, leb, eqb}
use Rattle.turns.specs.Pick.{pick}
use Rattle.trees.specs.Signature.{entries_of, width}
use Rattle.trees.specs.Facts.{Facts}
use Rattle.terms.specs.declared.Kind.{Kind}
use Rattle.checking.specs.Whole.{whole_of}

-- "Axis, level, part [..] calls check the whole signature first", and 3 to 6 name the entry
unfoldable pub after_check : {A : Type 0} → List ℕ → (ℕ → ℕ → A) → A → A
after_check s refuse a =
    pick (eqb (whole_of Kind.Data s).reason 1) a (refuse (whole_of Kind.Data s).number (whole_of Kind.Data s).entry)

-- no "rank of 0 or over n"
unfoldable pub is_rank : ℕ → ℕ → Bool
is_rank n i = leb 1 i && leb i n

-- n entries, and the facts of a tree's ranks
pub record Ready (s : List ℕ) (n : ℕ) : Type 0 where
  pub sized : length s ≡ width * n
  pub small : n ≤ 4096
  pub facts : Facts n (entries_of width s)
