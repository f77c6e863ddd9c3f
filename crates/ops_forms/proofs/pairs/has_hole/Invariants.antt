use Rattle.std.proofs.Common.{◌≡◌, All, length}
use Rattle.ops_tokens.specs.Tokens.{LiesIn}
use Rattle.ops_forms.specs.Pairs.{has_hole}
use Rattle.ops_forms.proofs.pairs.has_hole.Given as goal

abbrev pub invariant-tokens : goal.invariant-tokens
invariant-tokens l = record {
  left : has_hole l.text l.tokens ≡ has_hole l.text l.rest;
  lie : All (λ t. LiesIn l.text t) l.rest;
}

abbrev pub decreases-tokens : goal.decreases-tokens
decreases-tokens l = length l.rest
