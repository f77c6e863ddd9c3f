use Rattle.std.proofs.Common.{subst, arith}
use Rattle.beta_net.specs.Linked.{AddsRule}
use Rattle.beta_net.proofs.BuildLemmas.{ends_next, paths_build, count_next}
use Rattle.beta_net.proofs.paths.build.Goals as goal

pub loop-rule-preserved : goal.loop-rule-preserved
loop-rule-preserved c =
    let lp = c.loop-rule in
    let adds = subst (λ cs. AddsRule c.loop-rule.links c.add_rule.new.links cs c.in_ok-end.end) c.as_slice.ensures c.in_ok-end.ensures in
    record {
      linked = c.in_ok-end.ensures.grows.linked;
      count = count_next _ _ _ _ lp.invariant.count c.in_ok-push.ensures.items;
      ended = ends_next lp.links c.add_rule.new.links lp.ends.items c.push.new.self.items c.args.rules.now lp.rule-index c.rule-item.result c.in_ok-end.end lp.invariant.linked c.loop-rule-test.true c.rule-item.is lp.invariant.count c.in_ok-push.ensures.items adds lp.invariant.ended;
      paths = paths_build lp.links c.add_rule.new.links c.args.rules.now lp.rule-index c.rule-item.result c.in_ok-end.end lp.invariant.linked c.loop-rule-test.true c.rule-item.is adds lp.invariant.paths;
    }

pub returns : goal.returns
returns c = record {
  linked = c.loop-rule.invariant.linked.links;
  count = omega arith;
  ended = c.loop-rule.invariant.ended;
  paths = c.loop-rule.invariant.paths;
}
