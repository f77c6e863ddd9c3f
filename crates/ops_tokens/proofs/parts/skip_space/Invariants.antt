use Rattle.std.proofs.Common.{◌-◌}
use Rattle.ops_io.specs.Coming.{inlet}
use Rattle.ops_tokens.specs.Accepting.{most_accepted}
use Rattle.ops_tokens.proofs.Taking.{Counted}
use Rattle.ops_tokens.proofs.parts.skip_space.Given as goal

abbrev pub invariant-loop-count : goal.invariant-loop-count
invariant-loop-count g l =
    Counted l.count (inlet l.fn.input (g.I.Source.left l.fn.source) (g.I.Source.faults l.fn.source)) (inlet l.input (g.I.Source.left l.source) (g.I.Source.faults l.source))

abbrev pub decreases-loop-count : goal.decreases-loop-count
decreases-loop-count g l = most_accepted - l.count
