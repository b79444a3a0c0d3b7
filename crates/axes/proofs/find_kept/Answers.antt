-- Each arm is the law of one axis.
use Rattle.std.proofs.Common.{refl, ap, ◌∙◌, ℕ, ◌-◌, arith}
use Rattle.trees.specs.Signature.{entries_of, width}
use Rattle.blocks.proofs.Calls.{ready}
use Rattle.marks.specs.Axis.{axis_number}
use Rattle.axes.proofs.Climbs.{top, above_kept}
use Rattle.axes.proofs.Rows.{begun_child, begun_later, begun_earlier, row_low, row_high}
use Rattle.axes.proofs.Arms.{arm_self, arm_child, arm_descendant, arm_descendant_or_self, arm_parent, arm_following, arm_later, arm_earlier}
use Rattle.axes.proofs.find_kept.Goals as goal

pub overflow_sub-last : goal.overflow_sub-last
overflow_sub-last c =
    let q = c.args.request.now in
    let t = q.tree in
    let e = entries_of width t.sig.now in
    let f = (ready _ _ t.accepted t.counted).facts in
    let r = c.requires in
    omega (arith, c.first_past-last.ensures, (f.each c.args.c r.1 r.2).ff_low)

pub overflow_sub-first_past : goal.overflow_sub-first_past
overflow_sub-first_past c =
    let q = c.args.request.now in
    let t = q.tree in
    let e = entries_of width t.sig.now in
    let f = (ready _ _ t.accepted t.counted).facts in
    let r = c.requires in
    omega (arith, c.first_past.ensures, row_low _ _ f _ r.1 r.2 _ c.parent-up.ensures)

pub find_row-requires : goal.find_row-requires
find_row-requires c =
    let q = c.args.request.now in
    let t = q.tree in
    let e = entries_of width t.sig.now in
    let f = (ready _ _ t.accepted t.counted).facts in
    let r = c.requires in
    let last = ap (λ (x : ℕ). x - 1) c.first_past-last.ensures in
    (r.0, begun_child _ _ f _ r.1 r.2 _ last)

pub find_above-requires : goal.find_above-requires
find_above-requires c =
    let q = c.args.request.now in
    let t = q.tree in
    let e = entries_of width t.sig.now in
    let f = (ready _ _ t.accepted t.counted).facts in
    let r = c.requires in
    (r.0, omega (arith, c.parent-up.ensures, (f.each c.args.c r.1 r.2).fa_high, r.2))

pub find_row-requires-in-FollowingSibling : goal.find_row-requires-in-FollowingSibling
find_row-requires-in-FollowingSibling c =
    let q = c.args.request.now in
    let t = q.tree in
    let e = entries_of width t.sig.now in
    let f = (ready _ _ t.accepted t.counted).facts in
    let r = c.requires in
    let last = ap (λ (x : ℕ). x - 1) c.first_past-last.ensures in
    let u = c.parent-up.ensures in
    (r.0, begun_later _ _ f _ r.1 r.2 _ _ _ u last (ap (λ (x : ℕ). x - 1) c.first_past.ensures) (row_high _ _ f _ r.1 r.2 _ u))

pub find_row-requires-in-PrecedingSibling : goal.find_row-requires-in-PrecedingSibling
find_row-requires-in-PrecedingSibling c =
    let q = c.args.request.now in
    let t = q.tree in
    let e = entries_of width t.sig.now in
    let f = (ready _ _ t.accepted t.counted).facts in
    let r = c.requires in
    (r.0, begun_earlier _ _ f _ r.1 r.2 _ _ c.parent-up.ensures refl)

pub returns-in-Itself : goal.returns-in-Itself
returns-in-Itself c =
    let q = c.args.request.now in
    let t = q.tree in
    let e = entries_of width t.sig.now in
    let f = (ready _ _ t.accepted t.counted).facts in
    let r = c.requires in
    arm_self t.n e f (axis_number q.axis) q.name c.args.p r.0 c.args.c r.1 r.2 _ _ _ c.find_named.ensures (ap axis_number c.in-Itself.is) refl refl

pub returns-in-Child : goal.returns-in-Child
returns-in-Child c =
    let q = c.args.request.now in
    let t = q.tree in
    let e = entries_of width t.sig.now in
    let f = (ready _ _ t.accepted t.counted).facts in
    let r = c.requires in
    let last = ap (λ (x : ℕ). x - 1) c.first_past-last.ensures in
    arm_child t.n e f (axis_number q.axis) q.name c.args.p r.0 c.args.c r.1 r.2 _ _ _ (ap axis_number c.in-Child.is) refl last c.find_row.ensures

pub returns-in-Descendant : goal.returns-in-Descendant
returns-in-Descendant c =
    let q = c.args.request.now in
    let t = q.tree in
    let e = entries_of width t.sig.now in
    let f = (ready _ _ t.accepted t.counted).facts in
    let r = c.requires in
    let last = ap (λ (x : ℕ). x - 1) c.first_past-last.ensures in
    arm_descendant t.n e f (axis_number q.axis) q.name c.args.p r.0 c.args.c r.1 r.2 _ _ _ c.find_named-in-Descendant.ensures (ap axis_number c.in-Descendant.is) refl last

pub returns-in-DescendantOrSelf : goal.returns-in-DescendantOrSelf
returns-in-DescendantOrSelf c =
    let q = c.args.request.now in
    let t = q.tree in
    let e = entries_of width t.sig.now in
    let f = (ready _ _ t.accepted t.counted).facts in
    let r = c.requires in
    let last = ap (λ (x : ℕ). x - 1) c.first_past-last.ensures in
    arm_descendant_or_self t.n e f (axis_number q.axis) q.name c.args.p r.0 c.args.c r.1 r.2 _ _ _ c.find_named-in-DescendantOrSelf.ensures (ap axis_number c.in-DescendantOrSelf.is) refl last

pub returns-in-Parent : goal.returns-in-Parent
returns-in-Parent c =
    let q = c.args.request.now in
    let t = q.tree in
    let e = entries_of width t.sig.now in
    let f = (ready _ _ t.accepted t.counted).facts in
    let r = c.requires in
    let u = c.parent-up.ensures in
    arm_parent t.n e f (axis_number q.axis) q.name c.args.p r.0 c.args.c r.1 r.2 _ _ _ c.find_named-in-Parent.ensures (ap axis_number c.in-Parent.is) (c.saturating_sub.ensures ∙ ap (λ (x : ℕ). x - 1) u) u

pub returns-in-Ancestor : goal.returns-in-Ancestor
returns-in-Ancestor c =
    let q = c.args.request.now in
    let t = q.tree in
    let e = entries_of width t.sig.now in
    let f = (ready _ _ t.accepted t.counted).facts in
    let r = c.requires in
    above_kept t.n e f (top _ _ f) c.args.c r.1 r.2 (axis_number q.axis) _ q.name c.args.p _ (ap axis_number c.in-Ancestor.is) c.parent-up.ensures c.find_above.ensures

pub returns-in-Following : goal.returns-in-Following
returns-in-Following c =
    let q = c.args.request.now in
    let t = q.tree in
    let e = entries_of width t.sig.now in
    let f = (ready _ _ t.accepted t.counted).facts in
    let r = c.requires in
    let last = ap (λ (x : ℕ). x - 1) c.first_past-last.ensures in
    arm_following t.n e f (axis_number q.axis) q.name c.args.p r.0 c.args.c r.1 r.2 _ _ _ c.find_named-in-Following.ensures (ap axis_number c.in-Following.is) last refl

pub returns-in-FollowingSibling : goal.returns-in-FollowingSibling
returns-in-FollowingSibling c =
    let q = c.args.request.now in
    let t = q.tree in
    let e = entries_of width t.sig.now in
    let f = (ready _ _ t.accepted t.counted).facts in
    let r = c.requires in
    let last = ap (λ (x : ℕ). x - 1) c.first_past-last.ensures in
    arm_later t.n e f (axis_number q.axis) q.name c.args.p r.0 c.args.c r.1 r.2 _ _ _ _ c.parent-up.ensures c.find_row-in-FollowingSibling.ensures (ap axis_number c.in-FollowingSibling.is) last (ap (λ (x : ℕ). x - 1) c.first_past.ensures)

pub returns-in-PrecedingSibling : goal.returns-in-PrecedingSibling
returns-in-PrecedingSibling c =
    let q = c.args.request.now in
    let t = q.tree in
    let e = entries_of width t.sig.now in
    let f = (ready _ _ t.accepted t.counted).facts in
    let r = c.requires in
    arm_earlier t.n e f (axis_number q.axis) q.name c.args.p r.0 c.args.c r.1 r.2 _ _ _ _ c.parent-up.ensures c.find_row-in-PrecedingSibling.ensures (ap axis_number c.in-PrecedingSibling.is) refl refl
