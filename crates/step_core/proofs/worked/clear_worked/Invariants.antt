use Rattle.std.proofs.Common.{vec_len}
use Rattle.step_core.specs.inner.Worked.{AreWorked}
use Rattle.step_core.proofs.Clearing.{AreKept}
use Rattle.step_core.proofs.worked.clear_worked.Given as goal

abbrev pub invariant-loop-place : goal.invariant-loop-place
invariant-loop-place l = record { kept : AreKept l.initial.lines.items l.lines.items; told : AreWorked l.lines.items l.worked.items }

abbrev pub decreases-loop-place : goal.decreases-loop-place
decreases-loop-place l = vec_len l.worked
