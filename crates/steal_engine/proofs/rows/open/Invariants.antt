-- Some of the lines.
use Rattle.steal_engine.specs.Opened.{AreRows}
use Rattle.steal_engine.proofs.rows.open.Given as goal

abbrev pub invariant-loop-line : goal.invariant-loop-line
invariant-loop-line l = AreRows l.net l.store l.count l.yielded l.rows.items
