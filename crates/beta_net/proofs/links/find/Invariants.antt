use Rattle.std.proofs.Common.{length}
use Rattle.beta_net.specs.Chained.{reach}
use Rattle.beta_net.specs.Linked.{Stands}
use Rattle.beta_net.proofs.ChainLemmas.{Covers}
use Rattle.beta_net.proofs.links.find.Given as goal

abbrev pub invariant-loop-at : goal.invariant-loop-at
invariant-loop-at l = Covers l.chains l.code (length l.links) (Stands l.links l.parent l.part) l.at

abbrev pub decreases-loop-at : goal.decreases-loop-at
decreases-loop-at l = reach l.at
