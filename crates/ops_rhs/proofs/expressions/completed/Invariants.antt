use Rattle.std.proofs.Common.{◌≡◌, length}
use Rattle.ops_grammar.specs.Grammar.{completed}
use Rattle.ops_rhs.specs.Taking.{newest_first}
use Rattle.ops_rhs.proofs.expressions.completed.Given as goal

abbrev pub invariant-waiting : goal.invariant-waiting
invariant-waiting l = completed l.value (newest_first l.waiting.items) ≡ completed l.initial.value (newest_first l.initial.waiting.items)

abbrev pub decreases-waiting : goal.decreases-waiting
decreases-waiting l = length l.waiting.items
