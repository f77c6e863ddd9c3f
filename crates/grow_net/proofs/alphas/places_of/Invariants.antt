use Rattle.grow_net.proofs.PlaceLemmas.{ArePlacedSo}
use Rattle.grow_net.proofs.alphas.places_of.Given as goal

abbrev pub invariant-loop-alpha : goal.invariant-loop-alpha
invariant-loop-alpha l = ArePlacedSo l.known l.more.items l.added l.places.items l.alpha-index
