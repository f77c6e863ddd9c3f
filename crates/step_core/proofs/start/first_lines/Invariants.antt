use Rattle.step_core.specs.inner.Starts.{AreBegun}
use Rattle.step_core.proofs.start.first_lines.Given as goal

abbrev pub invariant-loop-number : goal.invariant-loop-number
invariant-loop-number l = AreBegun l.net.nodes l.count l.number l.lines.items
