-- Laws of printing: texts one after the other, one byte, and what a room that is long enough holds.
--   printed_append, prints_then   a text after another is one text
--   print_full, print_one         one byte, where the room is full and where it is not
--   printed_length                no byte is added to the room
--   printed_fits, printed_front   where the room is long enough, the text stands in it, and nothing else is written
use Prim.Native.Nat.{ℕ, suc, ◌+◌, ◌≤◌, ◌<◌}
use mathlib.Core.Path.{◌≡◌, refl, ap, ◌∙◌, sym}
use mathlib.Core.List.{List, [], ◌∷◌, ◌++◌}
use native.Mathlib.Omega.{arith}
use native.Mathlib.Numerals.{add-one}
use native.Mathlib.Nat.{add-zero}
use lib.ListN.{length, drop, set, length-set}
use lib.Seq.{sets, sets-eq, set_out}
use borrow.Author.Tests.{lt-ltb, le-ltb}
use Rattle.digits.specs.Page.{Page, page, put_one, printed, Prints}

pub printed_append : (p : Page) (a b : List ℕ) → printed p (a ++ b) ≡ printed (printed p a) b
unfolding printed
printed_append p [] b = refl
printed_append p (x ∷ a) b = printed_append (put_one p x) a b

-- a text printed after another
pub prints_then : (a b : List ℕ) (at : ℕ) (room : List ℕ) {mid next : ℕ} {half left : List ℕ}
    → Prints a at room mid half → Prints b mid half next left → Prints (a ++ b) at room next left
prints_then a b at room p q = q ∙ ap (λ (x : Page). printed x b) p ∙ sym (printed_append (page at room) a b)

pub printed_length : (p : Page) (a : List ℕ) → length (printed p a).bytes ≡ length p.bytes
unfolding printed put_one
printed_length p [] = refl
printed_length p (x ∷ a) = printed_length (put_one p x) a ∙ length-set p.bytes p.place x

-- where there is room for the text
pub printed_fits : (text room : List ℕ) (at : ℕ) → at + length text ≤ length room
    → printed (page at room) text ≡ page (at + length text) (sets room at text)
unfolding printed put_one
printed_fits [] room at h = ap (λ (k : ℕ). page k room) (sym (add-zero at))
printed_fits (x ∷ text) room at h =
    let k : length (set room at x) ≡ length room = length-set room at x in
    let s : suc at + length text ≡ at + suc (length text) = omega arith in
    ap (λ p. printed (page p (set room at x)) text) (rw (lt-ltb at (length room) (omega arith)) (add-one at))
    ∙ printed_fits text (set room at x) (suc at) (omega arith)
    ∙ ap (λ (j : ℕ). page j (sets (set room at x) (suc at) text)) s

-- from the front: the text, and then the room as it was
pub printed_front : (text room : List ℕ) → length text ≤ length room
    → printed (page 0 room) text ≡ page (length text) (text ++ drop (length text) room)
printed_front text room h =
    let z : 0 + length text ≡ length text = omega arith in
    printed_fits text room 0 (omega arith)
    ∙ ap (λ (k : ℕ). page k (sets room 0 text)) z
    ∙ ap (page (length text)) (sets-eq text room 0 (omega arith) ∙ ap (λ (k : ℕ). text ++ drop k room) z)

-- ---- one byte

pub print_full : (x at : ℕ) (room : List ℕ) → length room ≤ at → Prints (x ∷ []) at room at room
unfolding printed put_one
print_full x at room h = rw (le-ltb at (length room) h, set_out room at x h) refl

pub print_one : (x at : ℕ) (room : List ℕ) → at < length room → Prints (x ∷ []) at room (at + 1) (set room at x)
unfolding printed put_one
print_one x at room h = rw (lt-ltb at (length room) h) refl
