-- The place that block_place tells lies within the numbers, so that the part can be handed out.
use Rattle.std.proofs.Common.{◌-◌, arith}
use Rattle.blocks.proofs.Calls.{part_inside}
use Rattle.blocks.proofs.block.Goals as goal

pub overflow_add-end : goal.overflow_add-end
overflow_add-end c = omega (arith, part_inside _ _ _ _ _ c.block_place.ensures c.in-Ok.is)

pub offset_bounds-sig-first : goal.offset_bounds-sig-first
offset_bounds-sig-first c = omega (arith, part_inside _ _ _ _ _ c.block_place.ensures c.in-Ok.is)

pub slice_bounds-result-end-2 : goal.slice_bounds-result-end-2
slice_bounds-result-end-2 c = omega (arith, part_inside _ _ _ _ _ c.block_place.ensures c.in-Ok.is)
