use Rattle.std.proofs.Common.{◌≤◌}
use Rattle.ops_tokens.proofs.tests.atoms.Given as goal

abbrev pub invariant-loop : goal.invariant-loop
invariant-loop l = l.source.faults ≤ l.counter
