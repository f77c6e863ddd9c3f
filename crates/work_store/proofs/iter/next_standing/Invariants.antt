use Rattle.std.proofs.Common.{◌≡◌, length}
use Rattle.std.specs.Slice.Iter.{iter_rest}
use Rattle.work_store.specs.Rows.{standing}
use Rattle.work_store.proofs.iter.next_standing.Given as goal

abbrev pub invariant-loop-place : goal.invariant-loop-place
invariant-loop-place g l = standing (iter_rest l.places) ≡ standing (iter_rest l.fn.places)

abbrev pub decreases-loop-place : goal.decreases-loop-place
decreases-loop-place g l = length (iter_rest l.places)
