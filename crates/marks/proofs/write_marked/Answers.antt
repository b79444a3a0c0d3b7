-- A rank past the last has neither a mark nor a number, so that marks and numbers agree at every rank.
use Prim.Native.Nat.{ℕ}
use mathlib.Core.Path.{◌≡◌, ap, sym, ◌∙◌}
use mathlib.Core.Bool.{false}
use lib.ListN.{get_or-eq_default}
use lib.Dec.{eqb}
use Rattle.std.proofs.Common.{rules}
use native.Mathlib.Omega.{arith}
use native.Mathlib.Decide.{dec_le}
use Rattle.xpath.specs.Select.{up_to}
use Rattle.terms.specs.Room.{Left, room_for}
use Rattle.marks.specs.Marks.{marked, numbered, lesser}
use Rattle.marks.proofs.write_marked.Goals as goal

pub returns : goal.returns
returns c =
    let are_set = c.map-are_set.result in
    let items = c.map-are_set.ensures.items in
    let all : (k : ℕ) → marked are_set k ≡ numbered c.args.marks.now k = λ k. elim (dec_le 4097 k) [
      | yes h ↦ get_or-eq_default are_set false (omega (arith, items.long)) ∙ sym (ap (λ (x : ℕ). eqb x 1) (get_or-eq_default c.args.marks.now 0 (omega arith)))
      | no h ↦ let met = (items.at k 0 false (omega arith)).2.met in search rules
    ] in
    let w = c.write_ranks.ensures in
    let e : room_for c.args.room.now (up_to (lesser c.args.n 4096) (marked are_set)) ≡ room_for c.args.room.now (up_to (lesser c.args.n 4096) (numbered c.args.marks.now)) =
    λ i. room_for c.args.room.now (up_to (lesser c.args.n 4096) (λ k. all k i)) in
    record { told = w.told ∙ ap (λ (x : Left). x.answer) e; left = w.left ∙ ap (λ (x : Left). x.room) e }
