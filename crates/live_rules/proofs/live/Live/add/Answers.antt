use Rattle.std.proofs.Common.{ap, ◌∙◌, ◌++◌, ◌∷◌, []}
use Rattle.ops_base.specs.declared.programs.Program.{Program}
use Rattle.ops_meaning.specs.Running.{rule_named, without_named}
use Rattle.live_rules.proofs.Valid.{added_rules, added_valid, with_rules}
use Rattle.live_rules.proofs.live.Live.add.Goals as goal

pub new-requires : goal.new-requires
new-requires c =
    added_valid c.args.self.now.program c.replace-classes.result c.args.rule c.rule_named-number.result c.push.new.self c.without_any-rules.result c.replace-classes.ensures.value
    (c.rule_named-number.ensures ∙ ap (λ rules. rule_named rules c.args.rule.name) c.as_slice.ensures) c.in-Ok.ensures.ok c.without_any-rules.ensures
    c.replace-classes.result.valid c.requires.valid c.requires.builds

pub returns-in-Ok-clause-program : goal.returns-in-Ok-clause-program
returns-in-Ok-clause-program c =
    with_rules c.args.self.now.program c.replace-classes.result c.new.result (without_named c.args.self.now.program.rules c.args.rule.name ++ c.args.rule ∷ []) c.replace-classes.ensures.value c.new.ensures.classes
    (c.new.ensures.rules
    ∙ added_rules c.args.self.now.program c.replace-classes.result c.args.rule c.rule_named-number.result c.push.new.self c.without_any-rules.result c.replace-classes.ensures.value
    (c.rule_named-number.ensures ∙ ap (λ rules. rule_named rules c.args.rule.name) c.as_slice.ensures) c.in-Ok.ensures.ok c.without_any-rules.ensures
    ∙ ap (λ (p : Program). without_named p.rules c.args.rule.name ++ c.args.rule ∷ []) c.replace-classes.ensures.value)
    c.new.ensures.templates c.new.ensures.commands c.new.ensures.text
