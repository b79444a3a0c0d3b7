-- The rooms of the program.
--   zeros_long      an array of zeros is as long as it says
--   prints_within   what a call that prints answers is no more than the room's length
use Rattle.std.proofs.Common.{ℕ, List, [], ◌∷◌, ◌≡◌, ◌+◌, ◌<◌, ◌≤◌, length, sym, subst, arith}
use Rattle.std.proofs.lemmas.List.{length-replicate}
use Rattle.std.proofs.Math.ListN.{replicate, set, length-set}
use native.Mathlib.Decide.{dec_lt}
use Rattle.std.specs.Prelude.{ltb}
use borrow.Author.Tests.{lt-ltb, le-ltb}
use Rattle.turns.specs.Pick.{pick}
use Rattle.digits.specs.Page.{Page, page, put_one, printed, Prints}

pub zeros_long : (n : ℕ) → n ≡ length {A = ℕ} (replicate n 0)
zeros_long n = sym (length-replicate {A = ℕ} n 0)

one_within : (p : Page) (x : ℕ) → p.place ≤ length p.bytes → (put_one p x).place ≤ length (put_one p x).bytes
unfolding put_one
one_within p x h = go (dec_lt p.place (length p.bytes))
  where
    n : length (set p.bytes p.place x) ≡ length p.bytes
    n = length-set p.bytes p.place x

    go : Dec (p.place < length p.bytes)
        → pick (ltb p.place (length p.bytes)) (p.place + 1) p.place ≤ length (set p.bytes p.place x)
    go (yes l) = rw (lt-ltb p.place (length p.bytes) (omega arith)) (omega (arith, n))
    go (no l) = rw (le-ltb p.place (length p.bytes) (omega arith)) (omega (arith, n))

printed_within : (p : Page) (text : List ℕ) → p.place ≤ length p.bytes → (printed p text).place ≤ length (printed p text).bytes
unfolding printed
printed_within p [] h = h
printed_within p (x ∷ text) h = printed_within (put_one p x) text (one_within p x h)

pub prints_within : (text room : List ℕ) (next : ℕ) (left : List ℕ) → Prints text 0 room next left → next ≤ length left
prints_within text room next left q = subst (λ (p : Page). p.place ≤ length p.bytes) (sym q) (printed_within (page 0 room) text (omega arith))
