-- Each read puts its bytes behind those that stand in the room.
use Rattle.std.proofs.Common.{◌-◌, rules, length, sym, subst}
use Rattle.std.proofs.KnownBytes.{Consumes-trans}
use Rattle.std.specs.Io.KnownBytes.{Consumes}
use Rattle.listing.proofs.Input.{take_read}
use Rattle.listing.proofs.read_full.Goals as goal

pub loop-done-preserved : goal.loop-done-preserved
loop-done-preserved g c =
    let more = take_read c.loop-done.done (length c.loop-done.room - c.loop-done.done) c.in_ok-count.count c.loop-done.room c.read.new.buf c.loop-done.invariant.within c.in_ok-count.ensures.bound.0 in
    record {
      within = search rules;
      bytes = subst (Consumes _ _) (sym more) (Consumes-trans _ _ _ _ _ c.loop-done.invariant.bytes c.in_ok-count.ensures.bytes.0);
    }
