use Rattle.beta_net.specs.Children.{AreFilled}
use Rattle.beta_net.proofs.children.add_children.Given as goal

abbrev pub invariant-loop-n : goal.invariant-loop-n
invariant-loop-n l = AreFilled l.initial.nodes.items l.nodes.items l.n
