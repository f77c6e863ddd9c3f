use Rattle.std.proofs.Common.{◌≡◌, ◌++◌, ◌≤◌, ◌-◌, length, All}
use Rattle.ops_grammar.specs.Words.{lexed_at, lexed}
use Rattle.program_slips.specs.Lone.{named_among, at_start}
use Rattle.program_slips.specs.Walks.{LiesWithin}
use Rattle.program_slips.proofs.words.variables_in.Given as goal

abbrev pub invariant-words : goal.invariant-words
invariant-words l = record {
  named : named_among l.text at_start (lexed l.text).tokens ≡ l.named.items ++ named_among l.text l.standing (lexed_at l.text l.from).tokens;
  formula : l.standing.formula ≤ l.from;
  inside : l.from ≤ length l.text;
  within : All (LiesWithin l.text) l.named.items;
}

abbrev pub decreases-words : goal.decreases-words
decreases-words l = length l.text - l.from
