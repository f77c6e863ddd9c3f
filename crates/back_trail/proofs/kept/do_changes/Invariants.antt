use Rattle.std.proofs.Common.{◌≡◌, ◌-◌, length}
use Rattle.ops_base.specs.WorkingMemory.{Lawful}
use Rattle.cycle.specs.Standing.{after_firing}
use Rattle.back_trail.specs.Kept.{left_of}
use Rattle.back_trail.proofs.kept.do_changes.Given as goal

abbrev pub invariant-loop-late : goal.invariant-loop-late
invariant-loop-late l = record {
  lawful : Lawful l.oldest.wm l.oldest.last (left_of l.late).changes;
  same : after_firing (left_of l.late) l.oldest ≡ after_firing (left_of l.fn.late) l.fn.oldest;
}

abbrev pub decreases-loop-late : goal.decreases-loop-late
decreases-loop-late l = length l.late.fired.changes - l.late.did
