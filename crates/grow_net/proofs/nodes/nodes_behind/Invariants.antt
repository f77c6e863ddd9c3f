use Rattle.std.proofs.Common.{◌≡◌, map, take}
use Rattle.grow_net.specs.Behind.{node_behind}
use Rattle.grow_net.proofs.nodes.nodes_behind.Given as goal

abbrev pub invariant-loop-node : goal.invariant-loop-node
invariant-loop-node l = l.behind.items ≡ map (node_behind l.before.nodes l.before.rules l.places) (take l.node-index l.nodes)
