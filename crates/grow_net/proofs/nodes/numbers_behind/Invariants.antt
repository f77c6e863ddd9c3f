use Rattle.std.proofs.Common.{◌≡◌, ◌+◌, map, take}
use Rattle.grow_net.proofs.nodes.numbers_behind.Given as goal

abbrev pub invariant-loop-number : goal.invariant-loop-number
invariant-loop-number l = l.behind.items ≡ map (λ c. l.nodes + c) (take l.number-index l.numbers)
