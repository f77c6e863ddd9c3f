use Rattle.std.proofs.Common.{◌≡◌, ◌≤◌}
use Rattle.grow_laws.specs.Due.{tasks_from}
use Rattle.grow_laws.proofs.due.tasks_due.Given as goal

abbrev pub invariant-loop-number : goal.invariant-loop-number
invariant-loop-number l = record { past : l.first ≤ l.number; tasks : l.tasks.items ≡ tasks_from l.alphas l.nodes l.store.elements l.first l.number }
