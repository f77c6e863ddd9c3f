-- Some of the tasks came after those that were in flight.
use Rattle.std.proofs.Common.{◌≡◌, ◌++◌, map, take}
use Rattle.step_core.specs.Feeding.{right_task}
use Rattle.step_core.proofs.feeding.add_tasks.Given as goal

abbrev pub invariant-loop-node : goal.invariant-loop-node
invariant-loop-node l = l.flight.items ≡ l.fn.flight.items ++ map (right_task l.plus l.tag) (take l.node-index l.nodes)
