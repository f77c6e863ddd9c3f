-- The order in which marks stand.
use Rattle.std.specs.Cmp.{IsTotalOrder}
use Rattle.ops_base.specs.Instances.{by_rule_and_tags}
use Rattle.ops_base.proofs.InstOrder.{compare_total}

-- it is total
pub marks_total : IsTotalOrder by_rule_and_tags
marks_total = compare_total
