-- The lines in some of the cells.
use Rattle.std.proofs.Common.{◌≡◌, map}
use Rattle.steal_engine.specs.Opened.{line_in}
use Rattle.steal_engine.proofs.rows.lines_of.Given as goal

abbrev pub invariant-loop-row : goal.invariant-loop-row
invariant-loop-row l = l.lines.items ≡ map line_in l.yielded
