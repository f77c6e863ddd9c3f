-- The lines in some of the slots.
use Rattle.std.proofs.Common.{◌≡◌}
use Rattle.free_engine.specs.Openings.{rows_in}
use Rattle.free_engine.proofs.slots.lines_of.Given as goal

abbrev pub invariant-loop-slot : goal.invariant-loop-slot
invariant-loop-slot l = l.lines.items ≡ rows_in l.yielded
