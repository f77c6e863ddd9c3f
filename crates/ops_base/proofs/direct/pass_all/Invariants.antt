use Rattle.std.proofs.Common.{◌≡◌}
use Rattle.std.specs.List.{flat_map}
use Rattle.ops_base.specs.WorkingMemory.{shown}
use Rattle.ops_base.specs.ConflictSet.{at_part}
use Rattle.ops_base.proofs.direct.pass_all.Given as goal

abbrev pub invariant-loop-p : goal.invariant-loop-p
invariant-loop-p l = l.found.items ≡ flat_map (at_part (shown l.wm) l.part) l.yielded
