use Rattle.std.proofs.Common.{length}
use Rattle.beta_net.specs.Chained.{reach}
use Rattle.beta_net.specs.Built.{HasAlpha}
use Rattle.beta_net.proofs.ChainLemmas.{Covers}
use Rattle.beta_net.proofs.alphas.find.Given as goal

abbrev pub invariant-loop-at : goal.invariant-loop-at
invariant-loop-at l = Covers l.chains l.code (length l.alphas) (HasAlpha l.alphas l.class l.tests) l.at

abbrev pub decreases-loop-at : goal.decreases-loop-at
decreases-loop-at l = reach l.at
