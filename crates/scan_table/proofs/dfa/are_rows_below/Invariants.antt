use Rattle.std.proofs.Common.{ℕ, ◌<◌, get_or, []}
use Rattle.scan_table.specs.Table.{AreBelow}
use Rattle.scan_table.proofs.dfa.are_rows_below.Given as goal

abbrev pub invariant-loop-row : goal.invariant-loop-row
invariant-loop-row g l = (q : ℕ) → q < l.row-index → AreBelow l.limit (get_or l.rows q [])
