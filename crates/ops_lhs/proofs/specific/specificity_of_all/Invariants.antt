use Rattle.std.proofs.Common.{◌≡◌, ◌+◌, ◌<◌, ◌^◌, drop}
use Rattle.ops_base.specs.Valid.{specificity_of}
use Rattle.ops_lhs.proofs.specific.specificity_of_all.Given as goal

abbrev pub invariant-loop-condition : goal.invariant-loop-condition
invariant-loop-condition l =
    (l.total + specificity_of (drop l.condition-index l.conditions) ≡ specificity_of l.conditions) × (l.total < 2 ^ 32)
