-- A sort by rule and tags.
use Rattle.std.proofs.Common.{rules}
use Rattle.std.specs.Ordering.{is_lt}
use Rattle.std.proofs.lemmas.List.Sorted.{answers_always, ranks_by}
use Rattle.ops_base.specs.declared.rules.Inst.{Inst}
use Rattle.ops_base.specs.Instances.{by_rule_and_tags}
use Rattle.ops_base.proofs.InstOrder.{compare_total}
use Rattle.feed_engine.proofs.combining.merged.Goals as goal

pub returns-clause-sorted : goal.returns-clause-sorted
returns-clause-sorted c = c.sort_unstable_by.ensures.sorted (λ x y. is_lt (by_rule_and_tags x y)) (ranks_by compare_total (λ (i : Inst). i)) (answers_always _ _ _ (λ f a r f' k. search rules))
