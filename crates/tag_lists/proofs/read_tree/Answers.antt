-- The answer says what reading into the room came to.
use mathlib.Core.Path.{ap}
use native.Mathlib.Omega.{arith}
use Rattle.terms.specs.Faults.{tested}
use Rattle.tag_lists.proofs.Reading.{tree_unread, tree_read}
use Rattle.tag_lists.proofs.read_tree.Goals as goal

pub returns-in_err-tree : goal.returns-in_err-tree
returns-in_err-tree c =
    tree_unread c.args.kind _ _ _ _ _ _ _ c.read_tags-tree.ensures _ c.in_err-tree.field-0.0 c.from_residual.ensures.1 (ap tested c.in_err-tree.was)

pub returns : goal.returns
returns c = tree_read c.args.kind _ _ _ _ _ _ _ c.read_tags-tree.ensures _ (omega arith) (ap tested c.in_ok-tree.was)
