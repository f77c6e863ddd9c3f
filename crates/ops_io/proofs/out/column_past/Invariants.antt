use Rattle.std.proofs.Common.{◌≡◌, ◌+◌, ◌-◌, ◌^◌, ◌<◌, ◌≤◌, ℕ, drop, length, min}
use Rattle.ops_io.specs.Output.{column_after}
use Rattle.ops_io.proofs.out.column_past.Given as goal

abbrev pub invariant-loop-at : goal.invariant-loop-at
invariant-loop-at l = record {
  within : l.at ≤ length l.bytes;
  rest : (from : ℕ) → from < 2 ^ 64 → column_after from (drop l.at l.bytes) ≡ min (from + (length l.bytes - l.at)) (2 ^ 64 - 1);
}

abbrev pub decreases-loop-at : goal.decreases-loop-at
decreases-loop-at l = l.at
