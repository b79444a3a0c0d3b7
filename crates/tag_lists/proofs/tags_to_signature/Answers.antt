-- The answer says what reading into the room came to.
use mathlib.Core.Path.{ap}
use native.Mathlib.Omega.{arith}
use Rattle.terms.specs.Faults.{tested}
use Rattle.tag_lists.proofs.Reading.{tags_refused, tags_written}
use Rattle.tag_lists.proofs.tags_to_signature.Goals as goal

pub returns-in_err-list : goal.returns-in_err-list
returns-in_err-list c =
    tags_refused c.args.kind _ _ _ _ _ _ c.read_tags-list.ensures _ c.in_err-list.field-0.0 c.from_residual.ensures.1 (ap tested c.in_err-list.was)

pub returns : goal.returns
returns c = tags_written c.args.kind _ _ _ _ _ _ c.read_tags-list.ensures _ (omega arith) (ap tested c.in_ok-list.was)
