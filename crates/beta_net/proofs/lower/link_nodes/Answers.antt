use Rattle.beta_net.proofs.BuildLemmas.{count_next}
use Rattle.beta_net.proofs.NodeLemmas.{nodes_next, used_next, bare_next, rightless_next}
use Rattle.beta_net.proofs.lower.link_nodes.Goals as goal

pub loop-link-preserved : goal.loop-link-preserved
loop-link-preserved c = record {
  alphas = c.in_ok-node.ensures.alphas;
  nodes = nodes_next c.args.links.now c.loop-link.alphas c.node_of.new.alphas c.loop-link.nodes.items c.push.new.self.items c.link-item.result c.in_ok-node.node c.loop-link.link-index c.loop-link-test.true c.link-item.is c.loop-link.invariant.count c.in_ok-node.ensures c.in_ok-push.ensures.items c.loop-link.invariant.nodes;
  count = count_next _ _ _ _ c.loop-link.invariant.count c.in_ok-push.ensures.items;
  used = used_next c.args.links.now c.loop-link.alphas c.node_of.new.alphas c.link-item.result c.in_ok-node.node c.loop-link.link-index c.loop-link-test.true c.link-item.is c.in_ok-node.ensures c.loop-link.invariant.used;
  bare = bare_next _ _ _ c.loop-link.invariant.bare c.in_ok-push.ensures.items c.in_ok-node.ensures.childless;
  rightless = rightless_next _ _ _ c.loop-link.invariant.rightless c.in_ok-push.ensures.items c.in_ok-node.ensures.rightless;
}
