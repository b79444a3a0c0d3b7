-- The check, one element opened or closed a step: document 01's rule, over the entries as functions of the rank.
--   fresh              the state of a check that begins
--   Ranges n st        the ranges of a saved state, n entries; inRange is their test
--   accepted n st      where the check has come to its end
--   nameless any e i   name 0 where that is refused
--   second_root i up    an entry after the first with no parent
--   open_of, close_of    rule 2, and rules 3 and 4
--   step_of any n e st  the whole step
use Rattle.std.specs.Prelude.{ℕ, ◌+◌, ◌-◌, ◌≤◌, ◌<◌, Bool, not, ◌&&◌, ltb, leb, eqb}
use Rattle.turns.specs.Pick.{pick}
use Rattle.turns.specs.Turn.{Next, moved, refused}
use Rattle.trees.specs.Signature.{Entries}
use Rattle.checking.specs.declared.CheckState.{CheckState}

-- a state by its three numbers: next entry, innermost open element, number closed
abbrev pub at : ℕ → ℕ → ℕ → CheckState
at i top closed = record { next = record { 0 = i }; top = record { 0 = top }; closed = record { 0 = closed } }

-- "Fresh: 1, 0, 0."
abbrev pub fresh : CheckState
fresh = at 1 0 0

-- "Ranges: i from 1 to n+1, top < i, closed < i."
pub record Ranges (n : ℕ) (st : CheckState) : Type 0 where
  pub some : 1 ≤ st.next.0
  pub last : st.next.0 ≤ n + 1
  pub top : st.top.0 < st.next.0
  pub closed : st.closed.0 < st.next.0

-- the same as a test
unfoldable pub in_range : ℕ → CheckState → Bool
in_range n st =
    leb 1 st.next.0 && leb st.next.0 (n + 1) && ltb st.top.0 st.next.0 && ltb st.closed.0 st.next.0

-- "Accepted when i is n+1 and top is 0"
unfoldable pub accepted : ℕ → CheckState → Bool
accepted n st = eqb st.next.0 (n + 1) && eqb st.top.0 0

-- "name 0 gives 3", but for a twig
unfoldable pub nameless : Bool → Entries → ℕ → Bool
nameless any e i = not any && eqb (e.name i) 0

-- "i over 1 with fa 0"
unfoldable pub second_root : ℕ → ℕ → Bool
second_root i up = ltb 1 i && eqb up 0

-- "open it; top becomes i, then i grows by one"
abbrev pub open_of : CheckState → CheckState
open_of st = at (st.next.0 + 1) st.next.0 st.closed.0

-- "Then closed grows by one and top becomes its fa."
abbrev pub closed_of : Entries → CheckState → CheckState
closed_of e st = at st.next.0 (e.fa st.top.0) (st.closed.0 + 1)

-- rules 3 and 4: "if top is 0: 4 at entry i. Else close top. If closed is already i−1: 9. Post of top must be closed+1, else 5; its ff must be i,
-- else 6; its fa must be less than top, else 4 (each at entry top)."
unfoldable pub close_of : Entries → CheckState → Next CheckState
close_of e st =
    pick (eqb st.top.0 0) (refused 4 st.next.0)
    (pick (eqb st.closed.0 (st.next.0 - 1)) (refused 9 0)
    (pick (eqb (e.post st.top.0) (st.closed.0 + 1))
    (pick (eqb (e.ff st.top.0) st.next.0)
    (pick (ltb (e.fa st.top.0) st.top.0)
    (moved (closed_of e st))
    (refused 4 st.top.0))
    (refused 6 st.top.0))
    (refused 5 st.top.0)))

-- rules 1 and 2, then the others: "If i ≤ n: name 0 gives 3; fa ≥ i gives 4; i over 1 with fa 0 gives 4 (at entry i). If i ≤ n and fa of i equals top: open it"
unfoldable pub step_of : Bool → ℕ → Entries → CheckState → Next CheckState
step_of any n e st =
    pick (leb st.next.0 n)
    (pick (nameless any e st.next.0) (refused 3 st.next.0)
    (pick (leb st.next.0 (e.fa st.next.0)) (refused 4 st.next.0)
    (pick (second_root st.next.0 (e.fa st.next.0)) (refused 4 st.next.0)
    (pick (eqb (e.fa st.next.0) st.top.0)
    (moved (open_of st))
    (close_of e st)))))
    (close_of e st)
