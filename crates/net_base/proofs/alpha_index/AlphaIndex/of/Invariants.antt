use Rattle.net_base.specs.Feeds.{IsIndexBelow}
use Rattle.net_base.proofs.alpha_index.AlphaIndex.of.Given as goal

abbrev pub invariant-loop-number : goal.invariant-loop-number
invariant-loop-number l = IsIndexBelow l.alphas l.number l.index
