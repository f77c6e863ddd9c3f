use Rattle.std.proofs.Common.{ap, ◌∙◌}
use Rattle.ops_base.specs.declared.programs.Program.{Program}
use Rattle.ops_meaning.specs.Running.{rule_named, without_named}
use Rattle.live_rules.proofs.Valid.{left_rules, left_valid, with_rules}
use Rattle.live_rules.proofs.live.Live.excise.Goals as goal

pub new-requires : goal.new-requires
new-requires c =
    left_valid c.args.self.now.program c.replace-classes.result c.rule_named-number.result c.without_any-rules.result c.args.name c.replace-classes.ensures.value
    (c.rule_named-number.ensures ∙ ap (λ rules. rule_named rules c.args.name) c.as_slice.ensures) c.without_any-rules.ensures c.replace-classes.result.valid

pub returns-clause-program : goal.returns-clause-program
returns-clause-program c =
    with_rules c.args.self.now.program c.replace-classes.result c.new.result (without_named c.args.self.now.program.rules c.args.name) c.replace-classes.ensures.value c.new.ensures.classes
    (c.new.ensures.rules
    ∙ left_rules c.args.self.now.program c.replace-classes.result c.rule_named-number.result c.without_any-rules.result c.args.name c.replace-classes.ensures.value
    (c.rule_named-number.ensures ∙ ap (λ rules. rule_named rules c.args.name) c.as_slice.ensures) c.without_any-rules.ensures
    ∙ ap (λ (p : Program). without_named p.rules c.args.name) c.replace-classes.ensures.value)
    c.new.ensures.templates c.new.ensures.commands c.new.ensures.text
