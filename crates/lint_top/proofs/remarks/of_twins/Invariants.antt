use Rattle.std.proofs.Common.{◌≡◌, ◌++◌, drop}
use Rattle.std.specs.Prelude.{map}
use Rattle.lint_top.specs.declared.remarks.Remark.TheVariants as remark
use Rattle.lint_top.proofs.remarks.of_twins.Given as goal

abbrev pub invariant-loop-twin : goal.invariant-loop-twin
invariant-loop-twin l = map remark.Twin l.twins ≡ l.remarks.items ++ map remark.Twin (drop l.twin-index l.twins)
