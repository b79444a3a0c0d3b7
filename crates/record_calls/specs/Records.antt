-- Records and tag lists on bare numbers: what is returned, what stands in out and what the room holds are those of what the call answers and leaves.
--   ReadNumbers …    signature records to numbers: out is the numbers written, 0
--   WriteNumbers …   a signature to signature records: out is the bytes written, 0
--   TagsNumbers …    a tag list to a signature: out is the numbers written, 0
--   BackNumbers …    a signature back to its tag list: out is the bytes written, entry
use Rattle.std.specs.Prelude.{ℕ, List}
use Rattle.records.specs.Records.{read_left, write_left}
use Rattle.tag_lists.specs.Readers.{tags_left}
use Rattle.tag_writing.specs.TagsBack.{back_left}
use Rattle.terms.specs.Kinds.{kind_of}
use Rattle.telling.specs.Numbers.{LeftNumbers}

-- the promise of reading signature records: out is how many numbers were written, 0
abbrev pub ReadNumbers : List ℕ → List ℕ → ℕ → List ℕ → List ℕ → Type 0
ReadNumbers b room r after out = LeftNumbers (read_left b room) r after out

-- the promise of writing signature records: out is how many bytes were written, 0
abbrev pub WriteNumbers : List ℕ → List ℕ → ℕ → List ℕ → List ℕ → Type 0
WriteNumbers s room r after out = LeftNumbers (write_left s room) r after out

-- the promise of reading a tag list to a signature: out is how many numbers were written, 0
abbrev pub TagsNumbers : ℕ → List ℕ → List ℕ → ℕ → List ℕ → List ℕ → Type 0
TagsNumbers k b room r after out = LeftNumbers (tags_left (kind_of k) b room) r after out

-- the promise of writing a signature back to its tag list: out is how many bytes were written, entry
abbrev pub BackNumbers : ℕ → List ℕ → List ℕ → ℕ → List ℕ → List ℕ → Type 0
BackNumbers k s room r after out = LeftNumbers (back_left (kind_of k) s room) r after out
