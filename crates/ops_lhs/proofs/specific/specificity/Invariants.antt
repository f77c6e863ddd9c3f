use Rattle.std.proofs.Common.{◌≡◌, ◌+◌, ◌<◌, ◌^◌, drop}
use Rattle.ops_base.specs.Valid.{specificity}
use Rattle.ops_lhs.proofs.specific.specificity.Given as goal

abbrev pub invariant-loop-part : goal.invariant-loop-part
invariant-loop-part l =
    (l.total + specificity (drop l.part-index l.parts) ≡ specificity l.parts) × (l.total < 2 ^ 32)
