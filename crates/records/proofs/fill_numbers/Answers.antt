-- What is left of the numbers is stored behind what was; at the end all of them stand at the front of the room.
use mathlib.Core.Path.{refl}
use mathlib.Core.List.{List, [], ◌∷◌}
use Prim.Native.Nat.{ℕ, ◌*◌}
use Rattle.records.proofs.Filling.{numbers_length, numbers_none, numbers_stored}
use Rattle.bytes_read.proofs.Rooms.{put_sets, storing_end}
use native.Mathlib.Omega.{arith}
use Rattle.records.proofs.fill_numbers.Goals as goal

pub loop-i-preserved : goal.loop-i-preserved
loop-i-preserved c =
    let i = c.loop-i.i in
    let four : List ℕ = c.number_in-name.result ∷ c.number_in-post.result ∷ c.number_in-ff.result ∷ c.number_in-fa.result ∷ [] in
    numbers_stored _ _ _ _ _ _ _ _ _ _ c.loop-i.invariant (omega arith)
    (put_sets c.loop-i.room (4 * i) _ _ four _ refl c.copy_from_slice.ensures.after (omega arith) (omega (arith, c.loop-i.invariant.long)))
    c.number_in-name.ensures c.number_in-post.ensures c.number_in-ff.ensures c.number_in-fa.ensures

pub returns : goal.returns
returns c = storing_end _ _ _ _ _ c.loop-i.invariant (numbers_none _ _ _ (omega arith)) (omega (arith, numbers_length c.args.bytes.now 0 c.args.size))
