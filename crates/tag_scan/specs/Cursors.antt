-- What the code's structs mean.
--   scan_of c     where a reader stands
--   limits_of k   what a tag list of a kind of tree is held to
use Rattle.terms.specs.Kinds.{any_name, most}
use Rattle.terms.specs.declared.Kind.{Kind}
use Rattle.bytes_read.specs.Scans.{Scan}
use Rattle.tag_scan.specs.declared.Cursor.{Cursor}
use Rattle.tag_scan.specs.declared.limits.Limits.{Limits}

-- where a reader stands: the place of the next tag, the elements that are open, and the elements read so far
abbrev pub scan_of : Cursor → Scan
scan_of c = record { at = c.at; depth = c.depth; count = c.count }

-- what a tag list of a kind of tree is held to: whether name 0 is allowed, and the greatest number of elements
abbrev pub limits_of : Kind → Limits
limits_of k = record { any_name = any_name k; most = most k }
