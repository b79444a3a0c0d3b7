-- An accepted signature has a tree, whose tag list is written; a refused one is answered by the check's refusal.
use Rattle.std.specs.Prelude.{Err}
use mathlib.Core.Path.{ap, ◌∙◌}
use Rattle.std.proofs.lemmas.Result.{err_from_is_err_and}
use Rattle.tag_writing.proofs.Back.{accepted_back, back_written, back_refused}
use Rattle.tag_writing.proofs.signature_to_tags.Goals as goal

pub returns-in_err-check_whole : goal.returns-in_err-check_whole
returns-in_err-check_whole c =
    let p = err_from_is_err_and c.from_residual.result c.from_residual.ensures.1 in
    back_refused c.args.kind _ _ c.check_whole.ensures _ _ _ c.in_err-check_whole.was (p.1 ∙ ap Err p.2)

pub write_back-requires : goal.write_back-requires
write_back-requires c = accepted_back c.args.kind _ _ c.check_whole.ensures c.in_ok-check_whole.was

pub returns : goal.returns
returns c = back_written c.args.kind _ _ c.check_whole.ensures _ _ _ c.in_ok-check_whole.was c.write_back.ensures
