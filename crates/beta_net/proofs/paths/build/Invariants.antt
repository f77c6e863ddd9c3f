use Rattle.std.proofs.Common.{◌≡◌, length}
use Rattle.beta_net.specs.Linked.{IsLinked}
use Rattle.beta_net.specs.Built.{HaveEnds, ArePaths}
use Rattle.beta_net.proofs.paths.build.Given as goal

abbrev pub invariant-loop-rule : goal.invariant-loop-rule
invariant-loop-rule l = record {
  linked : IsLinked l.links;
  count : length l.ends.items ≡ l.rule-index;
  ended : HaveEnds l.links.list.items l.ends.items l.rules;
  paths : ArePaths l.links.list.items l.rules;
}
