use Rattle.std.proofs.Common.{rules, arith}
use Rattle.turn_table.proofs.Claims.{claims}
use Rattle.turn_table.proofs.cells.Cells.try_claim.Goals as goal

pub compare_exchange-found-requires : goal.compare_exchange-found-requires
compare_exchange-found-requires g c = (search rules, search rules, claims _ _ _ _ _ _ _ _ _ c.requires.cell (omega (arith, c.if-word-eq1.false)) c.requires.idle)
