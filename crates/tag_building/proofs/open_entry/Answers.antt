-- Four numbers are copied to their place.
use Prim.Native.Nat.{◌*◌}
use mathlib.Core.List.{[], ◌∷◌}
use native.Mathlib.Omega.{arith}
use Rattle.bytes_read.proofs.Rooms.{put_sets}
use Rattle.tag_building.proofs.open_entry.Goals as goal

pub returns : goal.returns
returns c =
    let a = c.args in
    put_sets a.own.now (4 * a.size) _ _ (a.name ∷ 0 ∷ 0 ∷ a.top ∷ []) _ (omega arith) c.copy_from_slice.ensures.after (omega arith) (omega arith)
