use Rattle.std.proofs.Common.{◌≡◌, ◌≤◌, ◌++◌, drop}
use Rattle.ops_forms.specs.Sights.{cells_from}
use Rattle.ops_lhs.proofs.sight.cells_of_conditions.Given as goal

abbrev pub invariant-loop-part : goal.invariant-loop-part
invariant-loop-part l = record {
  cells : l.cells ++ cells_from l.next (drop l.part-index l.parts) ≡ cells_from 0 l.parts;
  below : l.next ≤ l.part-index;
}
