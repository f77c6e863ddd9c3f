-- All but what is at hand is reported of those that were looked at.
use Rattle.std.proofs.Common.{[], fold}
use Rattle.step_core.specs.inner.Gathering.{AreToldBut, added}
use Rattle.step_core.proofs.gathering.tell.Given as goal

abbrev pub invariant-loop-next : goal.invariant-loop-next
invariant-loop-next l = AreToldBut (fold added [] l.yielded) l.hand l.told.come.items l.told.gone.items
