use Rattle.std.proofs.Common.{◌≡◌, ◌++◌, ◌≤◌, drop, length}
use Rattle.lint_top.specs.Remarks.{merged}
use Rattle.lint_top.proofs.remarks.merge.Given as goal

abbrev pub invariant-loop-each : goal.invariant-loop-each
invariant-loop-each l = record {
  merged : merged l.list l.other ≡ l.remarks.items ++ merged (drop l.from l.list) (drop l.each-index l.other);
  within : l.from ≤ length l.list;
}
