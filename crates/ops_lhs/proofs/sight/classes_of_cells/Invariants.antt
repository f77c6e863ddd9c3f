use Rattle.std.proofs.Common.{◌≡◌, ◌++◌, drop}
use Rattle.ops_base.specs.Valid.{cells_of}
use Rattle.ops_lhs.proofs.sight.classes_of_cells.Given as goal

abbrev pub invariant-loop-part : goal.invariant-loop-part
invariant-loop-part l = l.cells ++ cells_of (drop l.part-index l.parts) ≡ cells_of l.parts
