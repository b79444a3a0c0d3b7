-- Laws of printers: one text after the other.
--   printed_none, printed_then        no text, and a text after another
--   Onward text rest p q              the printer q still has rest to print, where p had text: so a loop goes from p to q
--   onward_start, onward_more         all is to be printed, and some of it is printed
--   onward_last, onward_done          the rest of it is printed, and nothing is left
use Prim.Native.Nat.{ℕ}
use mathlib.Core.Path.{◌≡◌, refl, ap, ◌∙◌, sym}
use mathlib.Core.List.{List, [], ◌++◌}
use Rattle.digits.specs.declared.Printer.{Printer}
use Rattle.digits.specs.Page.{Page, page, printed}
use Rattle.digits.specs.Printed.{Printed}
use Rattle.digits.proofs.Pages.{printed_append, prints_then}

pub printed_none : (p : Printer) → Printed [] p p
unfolding printed
printed_none p = record { same_room = refl; prints = refl }

pub printed_then : {a b : List ℕ} {p q r : Printer} → Printed a p q → Printed b q r → Printed (a ++ b) p r
printed_then {a} {b} {p} x y = record {
  same_room = y.same_room ∙ x.same_room;
  prints = prints_then a b p.at p.room.now x.prints y.prints;
}

-- ---- a text that is printed piece by piece

pub record Onward (text rest : List ℕ) (p q : Printer) : Type 0 where
  pub same_room : q.room.ghost_name ≡ p.room.ghost_name
  pub leads : printed (page q.at q.room.now) rest ≡ printed (page p.at p.room.now) text

pub onward_start : (text : List ℕ) (p : Printer) → Onward text text p p
onward_start text p = record { same_room = refl; leads = refl }

pub onward_more : {text left piece : List ℕ} (rest : List ℕ) {p q r : Printer} → left ≡ piece ++ rest → Onward text left p q → Printed piece q r
    → Onward text rest p r
onward_more {piece = piece} rest {q = q} e x y = record {
  same_room = y.same_room ∙ x.same_room;
  leads = ap (λ (v : Page). printed v rest) y.prints
      ∙ sym (printed_append (page q.at q.room.now) piece rest)
      ∙ ap (printed (page q.at q.room.now)) (sym e)
      ∙ x.leads;
}

pub onward_last : {text rest : List ℕ} {p q r : Printer} → Onward text rest p q → Printed rest q r → Printed text p r
onward_last x y = record { same_room = y.same_room ∙ x.same_room; prints = y.prints ∙ x.leads }

pub onward_done : {text : List ℕ} {p q : Printer} → Onward text [] p q → Printed text p q
onward_done {q = q} x = onward_last x (printed_none q)
