use Rattle.std.proofs.Common.{◌≡◌, ◌+◌, ◌<◌, drop, length}
use Rattle.ops_base.specs.Valid.{elements_of, most_conditions}
use Rattle.ops_lhs.proofs.left.has_room.Given as goal

abbrev pub invariant-loop-part : goal.invariant-loop-part
invariant-loop-part l = record {
  counted : length (elements_of l.parts) + l.members + l.room ≡ most_conditions + length (elements_of (drop l.part-index l.parts));
  some : 0 < l.room;
}
