use Rattle.std.proofs.Common.{arith, ◌∙◌}
use Rattle.std.proofs.lemmas.List.{length-set}
use Rattle.trees.specs.Signature.{entries_of, width}
use Rattle.xpath.proofs.SpreadKids.{kids_none}
use Rattle.blocks.proofs.Calls.{ready}
use Rattle.marks.proofs.Marking.{marks_none, upward_none, upward_beside}
use Rattle.one_pass.specs.Reached.{reached}
use Rattle.one_pass.proofs.Passes.{parent_small, later_is, handed_up}
use Rattle.one_pass.proofs.handed.mark_later.Goals as goal

pub loop-j-init : goal.loop-j-init
loop-j-init c =
    let z = marks_none c.args.tree.now.n c.args.tree.now.small in
    record { long = c.told-found; seen_long = z.long; handed = kids_none _ _ _ _ _ z.are; done = upward_none _ _ _ }

pub is_marked_above-requires : goal.is_marked_above-requires
is_marked_above-requires c =
    let t = c.args.tree.now in
    omega (arith, c.parent-up.ensures, parent_small t.sig.now t.n (ready _ _ t.accepted t.counted) c.args.from.now c.loop-j.j (omega arith) (omega arith))

pub bounds-seen-up : goal.bounds-seen-up
bounds-seen-up c =
    let t = c.args.tree.now in
    omega (
      arith,
      c.loop-j.invariant.seen_long,
      c.parent-up.ensures,
      parent_small t.sig.now t.n (ready _ _ t.accepted t.counted) c.args.from.now c.loop-j.j (omega arith) (omega arith),
    )

pub bounds-seen-up-in-loop-j : goal.bounds-seen-up-in-loop-j
bounds-seen-up-in-loop-j c =
    let t = c.args.tree.now in
    omega (
      arith,
      c.loop-j.invariant.seen_long,
      c.parent-up.ensures,
      parent_small t.sig.now t.n (ready _ _ t.accepted t.counted) c.args.from.now c.loop-j.j (omega arith) (omega arith),
    )

pub loop-j-preserved : goal.loop-j-preserved
loop-j-preserved c =
    let t = c.args.tree.now in
    let r = ready _ _ t.accepted t.counted in
    let from = c.args.from.now in
    let l = c.loop-j in
    let i = l.invariant in
    let u = c.parent-up.ensures in
    let s = parent_small t.sig.now t.n r from l.j (omega arith) (omega arith) in
    record {
      long = length-set l.found l.j _ ∙ i.long;
      seen_long = length-set l.seen _ _ ∙ i.seen_long;
      handed = handed_up from l.seen l.j _ (entries_of width t.sig.now).fa t.n u (omega (arith, u, s, i.seen_long)) (omega arith) i.handed;
      done = upward_beside t.n (reached 9 t.sig.now t.n from) c.args.found.now l.j (omega arith) (omega arith) l.found (omega (arith, i.long, t.small)) _
          (later_is t.sig.now t.n r from l.j (omega arith) (omega arith) _ _ u l.seen c.is_marked_above.ensures i.handed) i.done;
    }
