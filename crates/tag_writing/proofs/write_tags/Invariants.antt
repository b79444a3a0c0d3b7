-- What is left of the tags is stored behind what was: at the end the whole tag list of the tree stands at the front of the room.
use Prim.Native.Nat.{◌*◌, ◌-◌, ◌+◌, ◌≤◌}
use Rattle.tag_writing.proofs.Emit.{Writes}
use Rattle.tag_writing.proofs.write_tags.Given as goal

abbrev pub invariant-loop : goal.invariant-loop
invariant-loop l = record {
  writes : Writes l.sig l.initial.room l.count l.room (2 * l.count - l.counter) l.at (l.opened + 1) l.top;
  few : l.opened ≤ l.counter;
  near : l.at ≤ 4 * l.counter;
}
