-- The pass over the tags says which of the two cases it is: refused, or built, and then given where the room is long enough.
use mathlib.Core.Path.{ap, sym, ◌∙◌}
use native.Mathlib.Omega.{arith}
use Rattle.terms.proofs.Lengths.{most_small}
use Rattle.terms.specs.Room.{left_by}
use Rattle.tag_scan.specs.declared.limits.Limits.{Limits}
use Rattle.tag_building.proofs.Filling.{filled_refused, filled_given}
use Rattle.tag_building.proofs.Passing.{faulty, faultless}
use Rattle.tag_building.proofs.read_tags.Goals as goal

pub build_tree-built-requires : goal.build_tree-built-requires
build_tree-built-requires c =
    let m = ap (λ (x : Limits). x.most) c.from-limits.ensures in
    let s = most_small c.args.kind in
    (omega arith, omega arith)

pub returns-then-is_err : goal.returns-then-is_err
returns-then-is_err c =
    filled_refused _ c.args.kind _ _ _ _ _ (ap (λ (x : Limits). x.any_name) c.from-limits.ensures) (ap (λ (x : Limits). x.most) c.from-limits.ensures)
    _ _ _ _ _ c.build_tree-built.ensures (faulty _ (sym c.is_err.ensures.value ∙ c.if-is_err.true))

pub returns : goal.returns
unfolding left_by
returns c =
    let g = c.give-verdict.ensures in
    filled_given _ c.args.kind _ _ _ _ _ (ap (λ (x : Limits). x.any_name) c.from-limits.ensures) (ap (λ (x : Limits). x.most) c.from-limits.ensures)
    _ _ _ _ _ c.build_tree-built.ensures (faultless _ (sym c.is_err.ensures.value ∙ c.if-is_err.false)) _ (omega arith) _ _ g.answer g.room
