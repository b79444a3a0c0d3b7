-- Ten and Five there and back: as tag lists and as signature records. Each case is what the call's promise cites, evaluated: whether it refused, number,
-- length and entry, and then what a room one longer than the result holds.
use Rattle.std.specs.Prelude.{ℕ, suc, ◌*◌, List, [], ◌∷◌, ◌++◌, length, replicate, take}
use Rattle.trees.specs.Signature.{entries}
use Rattle.terms.specs.declared.Kind.{Kind}
use Rattle.checked.specs.Menus.{ten, five}
use Rattle.records.specs.Records.{read_left, write_left}
use Rattle.tag_lists.specs.Readers.{tags_left}
use Rattle.tag_writing.specs.TagsBack.{back_left}
use Rattle.worked.specs.Case.{Case, leaves}

abbrev ten_tags : List ℕ
ten_tags =
    79 ∷ 80 ∷ 1 ∷ 0 ∷ 79 ∷ 80 ∷ 2 ∷ 0 ∷ 79 ∷ 80 ∷ 3 ∷ 0 ∷ 79 ∷ 80 ∷ 4 ∷ 0 ∷ 67 ∷ 76 ∷ 79 ∷ 80 ∷ 5 ∷ 0 ∷ 67 ∷ 76 ∷ 67 ∷ 76 ∷ 79 ∷
    80 ∷ 7 ∷ 0 ∷ 67 ∷ 76 ∷ 67 ∷ 76 ∷ 79 ∷ 80 ∷ 6 ∷ 0 ∷ 79 ∷ 80 ∷ 8 ∷ 0 ∷ 79 ∷ 80 ∷ 9 ∷ 0 ∷ 67 ∷ 76 ∷ 79 ∷ 80 ∷ 10 ∷ 0 ∷ 67 ∷ 76 ∷
    67 ∷ 76 ∷ 67 ∷ 76 ∷ 67 ∷ 76 ∷ []

abbrev five_tags : List ℕ
five_tags =
    79 ∷ 80 ∷ 1 ∷ 0 ∷ 79 ∷ 80 ∷ 1 ∷ 0 ∷ 67 ∷ 76 ∷ 79 ∷ 80 ∷ 1 ∷ 0 ∷ 79 ∷ 80 ∷ 1 ∷ 0 ∷ 67 ∷ 76 ∷ 79 ∷ 80 ∷ 1 ∷ 0 ∷ 67 ∷ 76 ∷ 67 ∷
    76 ∷ 67 ∷ 76 ∷ []

-- a room one longer than the result, full of nines
abbrev room : List ℕ → List ℕ
room result = replicate (suc (length result)) 9

-- it worked, with this result at the front and one nine beyond it
abbrev done : List ℕ → List ℕ
done result = 0 ∷ 0 ∷ length result ∷ 0 ∷ (result ++ (9 ∷ []))

-- a tag list read as a signature, and a signature written as a tag list
abbrev there : List ℕ → List ℕ → Case
there b s = record {
  got = leaves (tags_left Kind.Data b (room s));
  wanted = done s;
}

abbrev back : List ℕ → List ℕ → Case
back s b = record { got = leaves (back_left Kind.Data s (room b)); wanted = done b }

-- the same for signature records, written and read back
abbrev records : List ℕ → Case
records s = record {
  got = leaves (read_left (take (10 * entries s) (write_left s (replicate (10 * entries s) 9)).room) (room s));
  wanted = done s;
}

-- Ten and Five from tag list to signature and back, and as signature records written and read back
abbrev pub cases : List Case
cases = there ten_tags ten ∷ back ten ten_tags ∷ there five_tags five ∷ back five five_tags ∷ records ten ∷ records five ∷ []
