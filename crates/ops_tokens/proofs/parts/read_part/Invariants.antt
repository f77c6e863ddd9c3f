use Rattle.std.proofs.Common.{◌+◌, ◌-◌, vec_len}
use Rattle.ops_io.specs.Coming.{inlet}
use Rattle.ops_tokens.specs.Accepting.{most_accepted}
use Rattle.ops_tokens.specs.Taking.{Taken}
use Rattle.ops_tokens.proofs.parts.read_part.Given as goal

abbrev pub invariant-loop-bytes : goal.invariant-loop-bytes
invariant-loop-bytes g l =
    Taken l.part l.before (inlet l.fn.input (g.I.Source.left l.fn.source) (g.I.Source.faults l.fn.source)) (inlet l.input (g.I.Source.left l.source) (g.I.Source.faults l.source)) l.bytes.items

abbrev pub decreases-loop-bytes : goal.decreases-loop-bytes
decreases-loop-bytes g l = most_accepted - (l.before + vec_len l.bytes)
