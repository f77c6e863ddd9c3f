use Rattle.std.proofs.Common.{◌≡◌, length}
use Rattle.ops_base.specs.Matching.{value_of}
use Rattle.ops_base.proofs.matching.bound_value.Given as goal

abbrev pub invariant-loop-last : goal.invariant-loop-last
invariant-loop-last l = value_of l.left l.variable ≡ value_of l.bindings l.variable

abbrev pub decreases-loop-last : goal.decreases-loop-last
decreases-loop-last l = length l.left
