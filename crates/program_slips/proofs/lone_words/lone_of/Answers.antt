use Rattle.program_slips.specs.Lone.{lone_of_rule}
use Rattle.program_slips.proofs.Going.{item_more}
use Rattle.program_slips.proofs.lone_words.lone_of.Goals as goal

pub loop-rule-preserved : goal.loop-rule-preserved
loop-rule-preserved c = record {
  found = item_more (lone_of_rule c.args.text.now) c.args.rules.now c.loop-rule.rule-index c.rule-item.result _ _ _ c.loop-rule-test.true c.rule-item.is c.loop-rule.invariant.found c.in_ok-add_rule.ensures.found;
  within = c.in_ok-add_rule.ensures.within c.loop-rule.invariant.within;
}
