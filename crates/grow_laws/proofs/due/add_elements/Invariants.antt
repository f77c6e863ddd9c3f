use Rattle.std.proofs.Common.{◌≡◌, ◌++◌}
use Rattle.grow_laws.specs.Due.{element_tasks}
use Rattle.grow_laws.proofs.due.add_elements.Given as goal

abbrev pub invariant-loop-element : goal.invariant-loop-element
invariant-loop-element l = l.tasks.items ++ element_tasks l.alphas l.number l.node l.element-iterator ≡ l.fn.tasks.items ++ element_tasks l.alphas l.number l.node l.store.elements
