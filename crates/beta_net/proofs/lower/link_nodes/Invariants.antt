use Rattle.std.proofs.Common.{◌≡◌, length}
use Rattle.beta_net.specs.Built.{AreAlphas, AreNodes, AreUsed}
use Rattle.beta_net.specs.Children.{AreBare}
use Rattle.beta_net.specs.Rights.{AreRightless}
use Rattle.beta_net.proofs.lower.link_nodes.Given as goal

abbrev pub invariant-loop-link : goal.invariant-loop-link
invariant-loop-link l = record {
  alphas : AreAlphas l.alphas;
  nodes : AreNodes l.links l.alphas.list.items l.nodes.items;
  count : length l.nodes.items ≡ l.link-index;
  used : AreUsed l.links l.alphas.list.items;
  bare : AreBare l.nodes.items;
  rightless : AreRightless l.nodes.items;
}
