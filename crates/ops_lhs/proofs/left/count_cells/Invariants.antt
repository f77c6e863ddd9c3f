use Rattle.std.proofs.Common.{◌≡◌, ◌+◌, ◌≤◌, drop, length}
use Rattle.ops_base.specs.Valid.{cells_of}
use Rattle.ops_lhs.proofs.left.count_cells.Given as goal

abbrev pub invariant-loop-part : goal.invariant-loop-part
invariant-loop-part l = record {
  count : l.cells + length (cells_of (drop l.part-index l.parts)) ≡ length (cells_of l.parts);
  below : l.cells ≤ l.part-index;
}
