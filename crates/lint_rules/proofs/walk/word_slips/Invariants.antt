use Rattle.std.proofs.Common.{◌≡◌, ◌++◌, ◌≤◌, ◌-◌, length, All}
use Rattle.ops_grammar.specs.Words.{lexed_at}
use Rattle.lint_rules.specs.Slips.{slips_among, slips_of}
use Rattle.lint_rules.specs.Walks.{LiesWithin}
use Rattle.lint_rules.proofs.walk.word_slips.Given as goal

abbrev pub invariant-words : goal.invariant-words
invariant-words l = record {
  found : slips_of l.text ≡ l.found.items ++ slips_among l.text l.context (lexed_at l.text l.from).tokens;
  within : l.from ≤ length l.text;
  depth : l.context.depth ≤ l.from;
  places : All (LiesWithin l.text) l.found.items;
  few : length l.found.items ≤ l.most;
}

abbrev pub decreases-words : goal.decreases-words
decreases-words l = length l.text - l.from
