use Rattle.std.proofs.Common.{◌≡◌, ◌++◌, drop}
use Rattle.std.specs.Prelude.{flat_map}
use Rattle.program_slips.specs.Asked.{asks_of_rule, asks_of_command}
use Rattle.program_slips.proofs.asked.asks_of.Given as goal

abbrev pub invariant-loop-rule : goal.invariant-loop-rule
invariant-loop-rule l =
    flat_map (asks_of_rule l.classes l.templates) l.rules
    ≡ l.asks.items ++ flat_map (asks_of_rule l.classes l.templates) (drop l.rule-index l.rules)

abbrev pub invariant-loop-command : goal.invariant-loop-command
invariant-loop-command l =
    flat_map (asks_of_rule l.classes l.templates) l.fn.rules ++ flat_map (asks_of_command l.classes l.templates) l.commands
    ≡ l.asks.items ++ flat_map (asks_of_command l.classes l.templates) (drop l.command-index l.commands)
