-- Position 0 is the call without a position.
use mathlib.Core.Path.{ap}
use Prim.Native.Nat.{ℕ}
use Rattle.marks.specs.Axis.{axis_answer}
use Rattle.marks.proofs.Calls.{leaves_as}
use Rattle.axes.proofs.axis.Goals as goal

pub returns-then-position-eq0 : goal.returns-then-position-eq0
returns-then-position-eq0 c =
    let a = c.args in
    leaves_as _ _ _ _ (ap (λ (p : ℕ). axis_answer a.sig.now a.contexts.now a.axis a.name p a.room.now) c.if-position-eq0.true)
    c.axis_without_position.ensures
