use Rattle.std.proofs.Common.{◌≡◌, drop}
use Rattle.ops_base.specs.WorkingMemory.{shown}
use Rattle.ops_base.specs.ConflictSet.{some_meets}
use Rattle.ops_base.proofs.direct.some_element_meets.Given as goal

abbrev pub invariant-loop-e : goal.invariant-loop-e
invariant-loop-e l = some_meets (shown (drop l.e-index l.wm)) l.condition l.bindings ≡ some_meets (shown l.wm) l.condition l.bindings
