use Rattle.std.proofs.Common.{◌≡◌, ◌+◌, false}
use Rattle.turn_table.specs.Turns.{IsPassOf, knows, number}
use Rattle.free_engine.specs.Counts.{HasWorked}
use Rattle.free_engine.specs.Turns.{has_taken}
use Rattle.free_engine.proofs.working.work.Given as goal

abbrev pub invariant-loop : goal.invariant-loop
invariant-loop g l = record {
  can_next : (goal.iterator-loop g).can_next l.iterator';
  finite : (goal.iterator-loop g).is_finite l.iterator';
  pass : IsPassOf l.phase.cells.now l.pass;
  number : number l.pass ≡ l.worker + 1;
  worked : HasWorked l.phase.lines l.worker (knows l.pass).own;
  free : has_taken l.worker (knows l.pass).own ≡ false;
}
