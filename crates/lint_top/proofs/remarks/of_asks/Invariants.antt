use Rattle.std.proofs.Common.{◌≡◌, ◌++◌, drop}
use Rattle.std.specs.Prelude.{map}
use Rattle.lint_top.specs.declared.remarks.Remark.TheVariants as remark
use Rattle.lint_top.proofs.remarks.of_asks.Given as goal

abbrev pub invariant-loop-ask : goal.invariant-loop-ask
invariant-loop-ask l = map remark.Asked l.asks ≡ l.remarks.items ++ map remark.Asked (drop l.ask-index l.asks)
