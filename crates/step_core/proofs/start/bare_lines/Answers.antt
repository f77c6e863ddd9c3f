use Rattle.std.proofs.Common.{subst, sym}
use Rattle.step_core.specs.inner.Starts.{AreUnused}
use Rattle.step_core.proofs.Starting.{unused_none, unused_more}
use Rattle.step_core.proofs.start.bare_lines.Goals as goal

pub loop-number-init : goal.loop-number-init
loop-number-init c = subst (AreUnused 0) (sym c.in_ok-lines.ensures.items) unused_none

pub loop-number-preserved : goal.loop-number-preserved
loop-number-preserved c =
    subst (AreUnused _) (sym c.in_ok-push.ensures.items)
    (unused_more c.loop-number.number c.loop-number.lines.items c.new.result c.loop-number.invariant c.new.ensures.number (c.new.ensures.entries, c.new.ensures.told) c.new.ensures.sums c.new.ensures.filed)
