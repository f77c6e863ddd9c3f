use Rattle.std.proofs.Common.{◌≡◌, ◌++◌}
use Rattle.ops_base.specs.ConflictSet.{insts_of}
use Rattle.ops_base.proofs.direct.add_insts.Given as goal

abbrev pub invariant-loop-p : goal.invariant-loop-p
invariant-loop-p l = l.found.items ≡ l.fn.found.items ++ insts_of l.rule l.yielded
