use Rattle.std.proofs.Common.{◌≡◌, ◌++◌, drop}
use Rattle.ops_base.specs.WorkingMemory.{shown}
use Rattle.ops_base.specs.ConflictSet.{insts_from, conflict_set}
use Rattle.ops_base.proofs.direct.insts.Given as goal

abbrev pub invariant-loop-rule : goal.invariant-loop-rule
invariant-loop-rule l =
    l.found.items ++ insts_from l.rule (drop l.rule l.rules) (shown l.wm) ≡ conflict_set l.rules (shown l.wm)
