use Rattle.std.proofs.Common.{◌≡◌, ◌++◌, drop}
use Rattle.back_trail.proofs.remade.add_changes.Given as goal

abbrev pub invariant-loop-change : goal.invariant-loop-change
invariant-loop-change l = l.changes.items ++ drop l.change-index l.more ≡ l.fn.changes.items ++ l.more
