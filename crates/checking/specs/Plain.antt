-- The step of the check by its cases, as the inner functions answer them. No promise of a public call is stated through these.
--   number_of x, entry_of x   the number by which a step is refused, or 0, and the entry that it names, or 0
--   no_parent i up           up cannot be the parent of entry i
--   entry_fault any n e i    rule 1: the number by which entry i is refused, or 0
--   opened n e i top        rule 2: whether the step opens entry i
--   close_entry i top c      the entry that a refused close names, or 0
--   rest_of any n e b k st   what is left of a turn, k steps taken before
--   taken x                 the state that a step leads to, if it is taken
use Rattle.std.specs.Prelude.{ℕ, ◌-◌, Option, Some, None, Bool, ◌&&◌, ◌||◌, leb, eqb}
use Rattle.turns.specs.Pick.{pick}
use Rattle.turns.specs.Turn.{Next, moved, answered, refused, Turned, run}
use Rattle.trees.specs.Signature.{Entries}
use Rattle.checking.specs.declared.CheckState.{CheckState}
use Rattle.checking.specs.Rule.{accepted, step_of, nameless, second_root}

-- the number by which a step is refused
unfoldable pub number_of : Next CheckState → ℕ
number_of (moved to) = 0
number_of (answered to) = 0
number_of (refused number entry) = number

-- the entry that its refusal names
unfoldable pub entry_of : Next CheckState → ℕ
entry_of (moved to) = 0
entry_of (answered to) = 0
entry_of (refused number entry) = entry

-- "fa ≥ i gives 4; i over 1 with fa 0 gives 4"
unfoldable pub no_parent : ℕ → ℕ → Bool
no_parent i up = leb i up || second_root i up

-- "If i ≤ n: name 0 gives 3; fa ≥ i gives 4; i over 1 with fa 0 gives 4"
unfoldable pub entry_fault : Bool → ℕ → Entries → ℕ → ℕ
entry_fault any n e i = pick (leb i n) (pick (nameless any e i) 3 (pick (no_parent i (e.fa i)) 4 0)) 0

-- "If i ≤ n and fa of i equals top: open it"
unfoldable pub opened : ℕ → Entries → ℕ → ℕ → Bool
opened n e i top = leb i n && eqb (e.fa i) top

-- "if top is 0: 4 at entry i", "If closed is already i−1: 9", "each at entry top"
unfoldable pub close_entry : ℕ → ℕ → ℕ → ℕ
close_entry i top closed = pick (eqb top 0) i (pick (eqb closed (i - 1)) 0 top)

-- at most b steps of the rule, k taken before
abbrev pub rest_of : Bool → ℕ → Entries → ℕ → ℕ → CheckState → Turned CheckState
rest_of any n e b k st = run CheckState (accepted n) (step_of any n e) b k st

-- the state that a step leads to, none where it is refused; no step of the check is an answer
abbrev pub taken : Next CheckState → Option CheckState
taken (moved to) = Some to
taken (answered to) = None
taken (refused number entry) = None
