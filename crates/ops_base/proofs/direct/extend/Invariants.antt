use Rattle.std.proofs.Common.{◌≡◌, ◌++◌, drop}
use Rattle.std.specs.List.{flat_map}
use Rattle.ops_base.specs.WorkingMemory.{shown}
use Rattle.ops_base.specs.ConflictSet.{extended}
use Rattle.ops_base.proofs.direct.extend.Given as goal

abbrev pub invariant-loop-e : goal.invariant-loop-e
invariant-loop-e l =
    l.found.items ++ flat_map (extended l.condition l.from) (shown (drop l.e-index l.wm))
    ≡ l.fn.found.items ++ flat_map (extended l.condition l.from) (shown l.wm)
