use Rattle.std.proofs.Common.{◌≡◌, ◌++◌}
use Rattle.back_trail.proofs.marks.insts_of.Given as goal

abbrev pub invariant-loop-mark : goal.invariant-loop-mark
invariant-loop-mark l = l.insts.items ++ l.mark-iterator ≡ l.marks.keys
