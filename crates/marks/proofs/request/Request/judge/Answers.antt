-- The whole check comes first, then the arguments.
use Rattle.std.proofs.Common.{refl}
use Rattle.std.proofs.lemmas.Result.{err_from_is_err_and}
use Rattle.blocks.proofs.Calls.{after_refused}
use Rattle.marks.proofs.Calls.{as_judged, fine_inverse, judged_left, refused_so}
use Rattle.marks.proofs.request.Request.judge.Goals as goal

pub returns-in_err-tree : goal.returns-in_err-tree
returns-in_err-tree c =
    let p = err_from_is_err_and c.from_residual.result c.from_residual.ensures.1 in
    rw (p.1, p.2) (record { left = λ p room. after_refused _ _ _ _ _ c.in_err-tree.ensures refl })

pub returns-in_err-axis : goal.returns-in_err-axis
returns-in_err-axis c =
    let p = err_from_is_err_and c.from_residual-in_err-axis.result c.from_residual-in_err-axis.ensures.1 in
    let t = c.in_ok-tree.tree in
    let bad = as_judged _ _ _ _ c.in_err-axis.ensures in
    rw (p.1, p.2) (refused_so t.sig.now c.args.sig.now t.n c.args.contexts.now c.args.axis c.args.name c.in_ok-tree.ensures t.accepted t.counted _ bad.0 bad.1)

pub invariant_of-result : goal.invariant_of-result
invariant_of-result c = record { ranks = (fine_inverse _ _ _ (as_judged _ _ _ _ c.in_ok-axis.ensures).1).ranks }

pub returns : goal.returns
returns c =
    let t = c.in_ok-tree.tree in
    let fine = as_judged _ _ _ _ c.in_ok-axis.ensures in
    record {
      signature = c.in_ok-tree.ensures;
      ranks = refl;
      numbered = fine.0;
      named = refl;
      left = judged_left t.sig.now c.args.sig.now t.n c.args.contexts.now c.args.axis c.args.name c.in_ok-tree.ensures t.accepted t.counted fine.1;
    }
