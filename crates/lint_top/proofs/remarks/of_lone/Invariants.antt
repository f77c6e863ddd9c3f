use Rattle.std.proofs.Common.{◌≡◌, ◌++◌, drop}
use Rattle.std.specs.Prelude.{map}
use Rattle.lint_top.specs.declared.remarks.Remark.TheVariants as remark
use Rattle.lint_top.proofs.remarks.of_lone.Given as goal

abbrev pub invariant-loop-each : goal.invariant-loop-each
invariant-loop-each l = map remark.Lone l.named ≡ l.remarks.items ++ map remark.Lone (drop l.each-index l.named)
