-- What is handed back for a turn of the rule is handed back for an equal one.
use mathlib.Core.Path.{◌≡◌}
use Rattle.turns.specs.Turn.{Turned}
use Rattle.terms.specs.declared.Turn.{Turn}
use Rattle.terms.specs.Stops.{Handed}

pub handed_as : {S : Type 0} (r q : Turn S) (t u : Turned S) → r ≡ q → t ≡ u → Handed q u → Handed r t
handed_as r q t u p e h = rw p (rw e h)
