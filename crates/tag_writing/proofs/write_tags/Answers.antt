-- What is left of the tags is stored behind what was: at the end the whole tag list of the tree stands at the front of the room.
use mathlib.Core.Path.{◌≡◌, refl, ap, sym, ◌∙◌}
use mathlib.Core.List.{List, [], ◌∷◌}
use Prim.Native.Nat.{ℕ, suc, ◌*◌, ◌-◌, ◌+◌}
use lib.ListN.{length}
use native.Mathlib.Omega.{arith}
use Rattle.terms.specs.Room.{front_with}
use Rattle.bytes_read.specs.Bytes.{low, high}
use Rattle.bytes_read.proofs.Rooms.{put_sets, storing_end}
use Rattle.tag_writing.proofs.Emit.{emit_closed, emit_opened, closed_fits, opened_fits, emit_bytes, emit_none, back_length}
use Rattle.tag_writing.proofs.write_tags.Goals.{then-is_ending, else-is_ending}
use Rattle.tag_writing.proofs.write_tags.Goals as goal

pub slice_bounds-copy_from_slice-end : goal.slice_bounds-copy_from_slice-end
slice_bounds-copy_from_slice-end c =
    let a = c.args in
    let l = c.loop in
    let t = c.requires.2 in
    closed_fits a.sig.now a.room.now a.count _ _ (2 * a.count - (l.counter + 1)) _ _ _ l.invariant.writes (omega arith) t.0 t.1 t.2 (omega arith) (cc)

pub slice_bounds-put_open-end : goal.slice_bounds-put_open-end
slice_bounds-put_open-end c =
    let a = c.args in
    let l = c.loop in
    let t = c.requires.2 in
    opened_fits a.sig.now a.room.now a.count _ _ (2 * a.count - (l.counter + 1)) _ _ _ l.invariant.writes (omega arith) t.0 t.1 t.2 (omega arith) (cc)

pub loop-preserved : goal.loop-preserved
loop-preserved c =
    let a = c.args in
    let l = c.loop in
    let t = c.requires.2 in
    let rest = 2 * a.count - (l.counter + 1) in
    let left : 2 * a.count - l.counter ≡ suc rest = omega arith in
    let four : ℕ → List ℕ = λ v. 79 ∷ 80 ∷ low v ∷ high v ∷ [] in
    elim c.if-is_ending.branch [
      | then-is_ending w ↦
          let ends = sym c.is_ending.ensures ∙ w.if-is_ending.true in
          record {
            writes = rw (w.room-is, w.at-is, w.opened-is, w.top-is)
                (emit_closed a.sig.now a.room.now a.count _ _ rest _ _ _ l.invariant.writes left _ _ ends w.parent-top.ensures
                (put_sets l.room l.at _ _ (67 ∷ 76 ∷ []) _ refl w.copy_from_slice.ensures.after (omega arith)
                (closed_fits a.sig.now a.room.now a.count _ _ rest _ _ _ l.invariant.writes left t.0 t.1 t.2 (omega arith) ends)));
            few = omega (arith, w.opened-is);
            near = omega (arith, w.at-is);
          }
      | else-is_ending w ↦
          let ends = sym c.is_ending.ensures ∙ w.if-is_ending.false in
          record {
            writes = rw (w.room-is, w.at-is, w.opened-is, w.top-is)
                (emit_opened a.sig.now a.room.now a.count _ _ rest _ _ _ l.invariant.writes left _ _ ends w.name.ensures
                (put_sets l.room l.at _ _ (four w.name.result) _ refl w.put_open.ensures (omega arith)
                (opened_fits a.sig.now a.room.now a.count _ _ rest _ _ _ l.invariant.writes left t.0 t.1 t.2 (omega arith) ends)));
            few = omega (arith, w.opened-is);
            near = omega (arith, w.at-is);
          }
    ]

pub returns : goal.returns
returns c =
    let a = c.args in
    let t = c.requires.2 in
    let b = emit_bytes a.sig.now t.0 a.count t.1 t.2 in
    storing_end _ _ _ _ _ c.loop.invariant.writes (emit_none _ _ _ _ (omega arith)) (omega (arith, ap length b, back_length a.sig.now t.0 t.1, t.2))
    ∙ ap (λ (r : List ℕ). front_with r a.room.now) b
