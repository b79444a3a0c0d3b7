-- The two kinds of tree.
--   any_name k   whether code 0, any name, is allowed
--   most k      the greatest number of elements
--   kind_of x    the kind of tree that a number names
use Rattle.std.specs.Prelude.{ℕ, Bool, true, false, eqb}
use Rattle.turns.specs.Pick.{pick}
use Rattle.terms.specs.declared.Kind.{Kind}

-- "Code 0 stands for any name, in a twig or a name test only."
abbrev pub any_name : Kind → Bool
any_name Kind.Data = false
any_name Kind.Twig = true

-- "A data tree has n elements, 1 to 4,096; a twig has m nodes, 1 to 16."
abbrev pub most : Kind → ℕ
most Kind.Data = 4096
most Kind.Twig = 16

-- 0 a data tree, any other number a twig
abbrev pub kind_of : ℕ → Kind
kind_of x = pick (eqb x 0) Kind.Data Kind.Twig
