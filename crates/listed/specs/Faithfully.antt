-- Demand 3 of preparing and of walking is the demand of `turns` over any rule and any call: the two say the same of a call.
--   lent_of p             a state with its table, as a turn of preparing is given them
--   prep_faithful, faithful_prep   of any turn of preparing
--   walk_faithful, faithful_walk   of any turn of walking
use Rattle.std.specs.Prelude.{ℕ, ◌*◌, ◌≤◌, ◌≡◌, refl, true, List, length}
use Rattle.std.proofs.Common.{sym, subst}
use Rattle.turns.specs.Turn.{Turned, Outcome}
use Rattle.turns.specs.Demand.{Faithful}
use Rattle.trees.specs.Signature.{entries_of, width, entries}
use Rattle.checked.specs.Apart.{halt_of_law}
use Rattle.preparing.specs.Masks.{can}
use Rattle.twig_turns.specs.Given.{given_of}
use Rattle.preparing.specs.Preparing.{Preparing, prepared, prep_step}
use Rattle.preparing.specs.PrepTurn.{prep_at}
use Rattle.walking.specs.declared.Walk.{Walk}
use Rattle.walking.specs.Walking.{in_range, step_of, ended}
use Rattle.loose_turns.specs.Prepared as prep
use Rattle.loose_turns.specs.Walked as walk
use Rattle.listed.specs.Questions.{Lent, PrepBack, reading}
use Rattle.listed.specs.Ruling.{Ready}
use Rattle.listed.specs.Demands.{Preparer, Walker, PrepThree, WalkThree}

-- the state and the table of preparing, as they are lent
abbrev pub lent_of : Preparing → Lent
lent_of p = record { state = prep_at p.next; table = p.table }

-- what a turn of preparing handed back and left, as a turn of the rule
abbrev pub prep_turned : PrepBack → Turned Preparing
prep_turned r = prep.turned_of r.turn r.left

-- demand 3 of turns, asked of preparing and of walking
abbrev pub PrepFaithful : Preparer → Type 0
PrepFaithful call =
    (s tw : List ℕ) → (given_of s tw).reason ≡ 1
    → Faithful Preparing prepared (prep_step (entries_of width s) (entries_of width tw) (entries tw)) (Ready (entries s))
    (λ b p. prep_turned (call s tw b (lent_of p)))

-- demand 3 of turns, asked of walking
abbrev pub WalkFaithful : Walker → Type 0
WalkFaithful call =
    (s tw left : List ℕ) → (given_of s tw).reason ≡ 1 → 2 * entries s ≤ length left
    → Faithful Walk ended (step_of (entries s) (entries tw) (entries_of width s) (entries_of width tw) (can left))
    (λ w. in_range (entries s) (entries tw) (entries_of width tw) w ≡ true) (λ b w. walk.turned_of (call s tw left b w))

pub prep_faithful : (call : Preparer) → PrepThree call → PrepFaithful call
prep_faithful call d s tw g b p i =
    let x = d s tw g b (lent_of p) i in
    let r = call s tw b (lent_of p) in
    subst (Outcome Preparing prepared (prep_step (entries_of width s) (entries_of width tw) (entries tw)) b p)
    (sym (prep.handed_turned r.turn r.left x.0 x.1)) x.2

pub faithful_prep : (call : Preparer) → PrepFaithful call → PrepThree call
faithful_prep call f s tw g b st i =
    let r = call s tw b st in
    (prep_turned r, record { state = refl; steps = refl; stop = halt_of_law r.turn.stop; leaves = refl }, f s tw g b (reading st) i)

pub walk_faithful : (call : Walker) → WalkThree call → WalkFaithful call
walk_faithful call d s tw left g l b w i =
    let x = d s tw left g l b w i in
    subst (Outcome Walk ended (step_of (entries s) (entries tw) (entries_of width s) (entries_of width tw) (can left)) b w)
    (sym (walk.handed_turned (call s tw left b w) x.0 x.1)) x.2

pub faithful_walk : (call : Walker) → WalkFaithful call → WalkThree call
faithful_walk call f s tw left g l b w i =
    let r = call s tw left b w in
    (walk.turned_of r, record { state = refl; steps = refl; stop = halt_of_law r.stop }, f s tw left g l b w i)
