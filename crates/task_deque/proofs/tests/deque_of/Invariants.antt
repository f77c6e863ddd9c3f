use Rattle.task_deque.specs.Ends.{IsWhole}
use Rattle.task_deque.proofs.tests.deque_of.Given as goal

abbrev pub invariant-loop-node : goal.invariant-loop-node
invariant-loop-node l = IsWhole l.owner
