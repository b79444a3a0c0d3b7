-- Text that is printed into a lent room, byte after byte, as far as the room goes.
--   Page               a room and the place of the next byte
--   put_one p x         the page after one byte
--   printed p text     the page after all bytes of a text
--   Prints text …      what a call that prints this text hands back and leaves
use Rattle.std.specs.Prelude.{ℕ, ◌+◌, ◌≡◌, List, [], ◌∷◌, length, set, ltb}
use Rattle.turns.specs.Pick.{pick}

-- a room and the place of the next byte
pub record Page : Type 0 where
  pub place : ℕ
  pub bytes : List ℕ

-- the room l, with the next byte to go to place p
abbrev pub page : ℕ → List ℕ → Page
page p l = record { place = p; bytes = l }

-- a byte goes to the place, where the room has one left, and the place moves on
unfoldable pub put_one : Page → ℕ → Page
put_one p x = page (pick (ltb p.place (length p.bytes)) (p.place + 1) p.place) (set p.bytes p.place x)

-- byte after byte
unfoldable pub printed : Page → List ℕ → Page
printed p [] = p
printed p (x ∷ text) = printed (put_one p x) text

-- the promise of a call that prints a text: the place after it, and what the room holds at exit
abbrev pub Prints : List ℕ → ℕ → List ℕ → ℕ → List ℕ → Type 0
Prints text at room next left = page next left ≡ printed (page at room) text
