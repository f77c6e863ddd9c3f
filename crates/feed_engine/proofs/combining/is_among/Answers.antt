use Rattle.std.proofs.Common.{rules, ◌∙◌}
use Rattle.std.proofs.lemmas.Fn.{always_returns_same}
use Rattle.ops_base.specs.Instances.{by_rule_and_tags}
use Rattle.feed_engine.proofs.Searched.{found_says}
use Rattle.feed_engine.proofs.combining.is_among.Goals as goal

pub returns : goal.returns
returns c = λ order.
    c.is_ok.ensures.value
    ∙ found_says c.args.insts.now c.args.inst.now c.binary_search_by.result order c.binary_search_by.ensures.bound
    (c.binary_search_by.ensures.position (λ o. by_rule_and_tags o c.args.inst.now) (always_returns_same _ _ _ (λ a r f' k. search rules)))
