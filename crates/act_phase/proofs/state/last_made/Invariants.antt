use Rattle.std.proofs.Common.{◌≡◌, ◌≤◌, length, take}
use Rattle.ops_meaning.specs.Acting.{made_last}
use Rattle.act_phase.proofs.state.last_made.Given as goal

abbrev pub invariant-loop-place : goal.invariant-loop-place
invariant-loop-place l = record {
  within : l.place ≤ length l.changes;
  last : made_last (take l.place l.changes) ≡ made_last l.changes;
}

abbrev pub decreases-loop-place : goal.decreases-loop-place
decreases-loop-place l = l.place
