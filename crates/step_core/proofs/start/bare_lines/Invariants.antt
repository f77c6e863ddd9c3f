use Rattle.step_core.specs.inner.Starts.{AreUnused}
use Rattle.step_core.proofs.start.bare_lines.Given as goal

abbrev pub invariant-loop-number : goal.invariant-loop-number
invariant-loop-number l = AreUnused l.number l.lines.items
