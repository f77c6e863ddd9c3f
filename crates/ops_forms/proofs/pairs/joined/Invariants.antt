use Rattle.std.proofs.Common.{◌≡◌, ◌+◌, ◌≤◌, ◌++◌, All, length}
use Rattle.ops_tokens.specs.Tokens.{LiesIn}
use Rattle.ops_grammar.specs.Words.{outside, joined}
use Rattle.ops_forms.proofs.pairs.joined.Given as goal

abbrev pub invariant-tokens : goal.invariant-tokens
invariant-tokens l = record {
  made : joined l.text outside l.tokens ≡ l.all.items ++ joined l.text l.region l.rest;
  fits : l.region.depth + length l.rest ≤ length l.tokens;
  lie : All (λ t. LiesIn l.text t) l.rest;
}

abbrev pub decreases-tokens : goal.decreases-tokens
decreases-tokens l = length l.rest
