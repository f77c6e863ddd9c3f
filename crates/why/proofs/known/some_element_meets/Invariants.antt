use Rattle.std.proofs.Common.{◌≡◌, drop}
use Rattle.ops_base.specs.WorkingMemory.{shown}
use Rattle.ops_base.specs.ConflictSet.{some_meets}
use Rattle.why.specs.Checking.{bindings_in}
use Rattle.why.proofs.known.some_element_meets.Given as goal

abbrev pub invariant-loop-e : goal.invariant-loop-e
invariant-loop-e l =
    some_meets (shown (drop l.e-index l.wm)) l.condition (bindings_in l.known) ≡ some_meets (shown l.wm) l.condition (bindings_in l.known)
