use Rattle.std.proofs.Common.{◌≡◌, length}
use Rattle.net_base.specs.Normal.{origin_of}
use Rattle.alpha_net.proofs.normal.origin_of.Given as goal

abbrev pub invariant-loop-last : goal.invariant-loop-last
invariant-loop-last l = origin_of l.left l.variable ≡ origin_of l.binders l.variable

abbrev pub decreases-loop-last : goal.decreases-loop-last
decreases-loop-last l = length l.left
