-- The pool, and some of the lines.
use Rattle.free_engine.specs.Openings.{IsOpened}
use Rattle.free_engine.proofs.slots.open.Given as goal

abbrev pub invariant-loop-line : goal.invariant-loop-line
invariant-loop-line l = IsOpened l.net l.store l.workers l.fn.parts.flight.items l.count l.yielded l.rows.items
