use Rattle.std.proofs.Common.{◌≡◌}
use Rattle.task_deque.specs.Ends.{own_of}
use Rattle.task_deque.proofs.tests.push_and_pop.Given as goal

abbrev pub invariant-loop-node : goal.invariant-loop-node
invariant-loop-node l = own_of l.owner ≡ own_of l.fn.owner
