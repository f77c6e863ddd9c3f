use Rattle.std.proofs.Common.{◌≡◌, ◌++◌, drop, All}
use Rattle.std.specs.Prelude.{flat_map}
use Rattle.program_slips.specs.Lone.{lone_of_rule, lone_of_command}
use Rattle.program_slips.specs.Walks.{LiesWithin}
use Rattle.program_slips.proofs.lone_words.lone_of.Given as goal

abbrev pub invariant-loop-rule : goal.invariant-loop-rule
invariant-loop-rule l = record {
  found : flat_map (lone_of_rule l.text) l.rules ≡ l.found.items ++ flat_map (lone_of_rule l.text) (drop l.rule-index l.rules);
  within : All (LiesWithin l.text) l.found.items;
}

abbrev pub invariant-loop-command : goal.invariant-loop-command
invariant-loop-command l = record {
  found : flat_map (lone_of_rule l.text) l.fn.rules ++ flat_map (lone_of_command l.text) l.commands ≡ l.found.items ++ flat_map (lone_of_command l.text) (drop l.command-index l.commands);
  within : All (LiesWithin l.text) l.found.items;
}
