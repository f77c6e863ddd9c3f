use Rattle.std.proofs.Common.{◌≡◌}
use Rattle.net_base.specs.Feeds.{numbers_below}
use Rattle.step_core.specs.inner.Worked.{has_entries}
use Rattle.step_core.proofs.worked.worked_lines.Given as goal

abbrev pub invariant-loop-place : goal.invariant-loop-place
invariant-loop-place l = l.worked.items ≡ numbers_below has_entries l.lines l.place
