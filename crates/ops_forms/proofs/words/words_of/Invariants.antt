use Rattle.std.proofs.Common.{◌≡◌, ◌++◌, All, length}
use Rattle.ops_tokens.specs.Tokens.{LiesIn}
use Rattle.ops_grammar.specs.Words.{words_from, names_from}
use Rattle.ops_forms.proofs.words.words_of.Given as goal

abbrev pub invariant-words : goal.invariant-words
invariant-words l = record {
  words : words_from l.text l.initial.names l.tokens ≡ l.words.items ++ words_from l.text l.names l.rest;
  names : names_from l.text l.initial.names l.tokens ≡ names_from l.text l.names l.rest;
  lie : All (λ t. LiesIn l.text t) l.rest;
}

abbrev pub decreases-words : goal.decreases-words
decreases-words l = length l.rest
