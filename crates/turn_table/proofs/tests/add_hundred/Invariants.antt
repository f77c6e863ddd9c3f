use Rattle.turn_table.specs.Turns.{IsPassOf}
use Rattle.turn_table.proofs.tests.add_hundred.Given as goal

abbrev pub invariant-loop-i : goal.invariant-loop-i
invariant-loop-i g l = IsPassOf l.cells l.pass
