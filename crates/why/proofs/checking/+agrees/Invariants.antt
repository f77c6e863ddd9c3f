use Rattle.std.proofs.Common.{length}
use Rattle.why.proofs.checking.+agrees.Given as goal

abbrev pub decreases-agrees : goal.decreases-agrees
decreases-agrees l = length l.parts.now
