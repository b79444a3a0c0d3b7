-- What was printed is a part of its room.
use Rattle.std.proofs.Common.{sym}
use Rattle.std.proofs.Math.Seq.{length-take-le}
use Rattle.listing.proofs.Places.{prints_within}
use Rattle.listing.proofs.main.Goals as goal

pub slice_bounds-text-end : goal.slice_bounds-text-end
slice_bounds-text-end c = prints_within _ _ _ _ c.list-length.ensures

pub slice_bounds-write_all-end : goal.slice_bounds-write_all-end
slice_bounds-write_all-end c = sym (length-take-le _ _ (prints_within _ _ _ _ c.list-length.ensures))
