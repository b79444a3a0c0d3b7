-- What one more read leaves at the front of a room.
--   take_read   the bytes that stood there, and those of the read behind them
use Rattle.std.proofs.Common.{◌≡◌, ℕ, ◌+◌, ◌≤◌, List, ◌++◌, length, take, sym, ap, ◌∙◌}
use Rattle.std.proofs.Math.Seq.{take-append-add}
use Rattle.std.proofs.lemmas.List.{length-take-le, take-append-le}
use borrow.Rule.Slice.PartMut.{put_mid, post_of}

-- a part of k bytes from the a-th on was read into, and the read gave n
pub take_read : (a k n : ℕ) (room part : List ℕ) → a ≤ length room → n ≤ length part → take (a + n) (put_mid a k room part) ≡ take a room ++ take n part
take_read a k n room part within fits =
    ap (λ m. take (m + n) (put_mid a k room part)) (sym (length-take-le a room within))
    ∙ take-append-add (take a room) (part ++ post_of a k room) n
    ∙ ap (λ l. take a room ++ l) (take-append-le n part (post_of a k room) fits)
