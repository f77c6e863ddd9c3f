use Rattle.std.proofs.Common.{◌≡◌, length}
use Rattle.act_phase.specs.Changed.{last_added}
use Rattle.act_phase.proofs.changed_memory.last_added.Given as goal

abbrev pub invariant-loop-last : goal.invariant-loop-last
invariant-loop-last l = last_added l.left l.tag ≡ last_added l.changes l.tag

abbrev pub decreases-loop-last : goal.decreases-loop-last
decreases-loop-last l = length l.left
