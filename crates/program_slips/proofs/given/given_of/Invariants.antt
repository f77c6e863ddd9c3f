use Rattle.std.proofs.Common.{◌≡◌, ◌++◌, drop}
use Rattle.std.specs.Prelude.{flat_map}
use Rattle.program_slips.specs.Given.{given_by_rule, given_by_template, given_by_command}
use Rattle.program_slips.proofs.given.given_of.Given as goal

abbrev pub invariant-loop-rule : goal.invariant-loop-rule
invariant-loop-rule l = flat_map given_by_rule l.rules ≡ l.given.items ++ flat_map given_by_rule (drop l.rule-index l.rules)

abbrev pub invariant-loop-template : goal.invariant-loop-template
invariant-loop-template l =
    flat_map given_by_rule l.fn.rules ++ flat_map given_by_template l.templates
    ≡ l.given.items ++ flat_map given_by_template (drop l.template-index l.templates)

abbrev pub invariant-loop-command : goal.invariant-loop-command
invariant-loop-command l =
    flat_map given_by_rule l.fn.rules ++ flat_map given_by_template l.fn.templates ++ flat_map given_by_command l.commands
    ≡ l.given.items ++ flat_map given_by_command (drop l.command-index l.commands)
