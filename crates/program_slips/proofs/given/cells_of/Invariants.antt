use Rattle.std.proofs.Common.{◌≡◌, ◌++◌, drop}
use Rattle.ops_base.specs.Valid.{cells_of}
use Rattle.program_slips.proofs.given.cells_of.Given as goal

abbrev pub invariant-loop-part : goal.invariant-loop-part
invariant-loop-part l = cells_of l.conditions ≡ l.cells.items ++ cells_of (drop l.part-index l.conditions)
