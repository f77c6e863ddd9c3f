-- The next token, and the places of slips.
use Rattle.std.specs.Prelude.{◌≡◌, ℕ, ◌≤◌, length, List, [], ◌∷◌, Option, Some, None}
use Rattle.ops_tokens.specs.declared.token.Token.{Token}
use Rattle.ops_tokens.specs.Tokens.{StandsFrom}
use Rattle.ops_grammar.specs.Words.{lexed_at}
use Rattle.lint_rules.specs.declared.slips.Warning.{Warning}

-- the tokens from a place on are this one and those after it, or there is none
abbrev pub StandsBefore : List ℕ → ℕ → Option Token → Type 0
StandsBefore text from None = (lexed_at text from).tokens ≡ []
StandsBefore text from (Some t) = ((lexed_at text from).tokens ≡ t ∷ (lexed_at text t.past).tokens) × StandsFrom text from t

-- the bytes of its word are in the text
abbrev pub LiesWithin : List ℕ → Warning → Type 0
LiesWithin text w = (w.first ≤ w.past) × (w.past ≤ length text)
