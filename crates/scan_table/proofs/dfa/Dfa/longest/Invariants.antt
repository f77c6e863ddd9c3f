use Rattle.std.proofs.Common.{◌<◌}
use Rattle.scan_table.proofs.Prefixes.{HasRead}
use Rattle.scan_table.proofs.dfa.Dfa.longest.Given as goal

abbrev pub invariant-loop-at : goal.invariant-loop-at
invariant-loop-at g l = record { read : HasRead l.self l.bytes l.from l.at l.state l.best; below : l.state < g.row.S }
