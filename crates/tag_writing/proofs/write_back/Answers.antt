-- Six bytes for each element: the room has them, or it is refused.
use mathlib.Core.Path.{refl}
use Rattle.bytes_read.proofs.Rooms.{short_with, written_with}
use Rattle.tag_writing.proofs.Emit.{back_length}
use Rattle.tag_writing.proofs.Back.{signature_long}
use native.Mathlib.Omega.{arith}
use Rattle.tag_writing.proofs.write_back.Goals as goal

pub returns-then-room-size : goal.returns-then-room-size
returns-then-room-size c =
    let a = c.args in
    let t = c.requires in
    short_with _ _ _ _ c.into.ensures refl (omega (arith, back_length a.sig.now t.0 t.1, signature_long a.sig.now t.0 t.1))

pub write_tags-requires : goal.write_tags-requires
write_tags-requires c =
    let t = c.requires in
    let n = signature_long c.args.sig.now t.0 t.1 in
    (omega (arith, n, t.2), omega (arith, n, t.2), (t.0, t.1, omega (arith, n, t.2)))

pub returns : goal.returns
returns c =
    let a = c.args in
    let t = c.requires in
    let n = signature_long a.sig.now t.0 t.1 in
    let k = back_length a.sig.now t.0 t.1 in
    written_with _ _ _ _ _ refl (omega (arith, n, k)) (omega (arith, n, k)) c.write_tags.ensures
