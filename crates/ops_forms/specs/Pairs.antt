-- The variable that is one token with the token before it, and whether there can be one.
use Rattle.std.specs.Prelude.{ℕ, List, [], ◌∷◌, ◌&&◌, ◌||◌, Bool, false, if◌then◌else◌, Option, Some, None}
use Rattle.ops_tokens.specs.declared.token.Token.{Token}
use Rattle.ops_tokens.specs.Tokens.{spelling}
use Rattle.ops_grammar.specs.declared.words.Keyword.{Keyword}
use Rattle.ops_grammar.specs.declared.words.Region.{Region}
use Rattle.ops_grammar.specs.Grammar.{is_variable}
use Rattle.ops_grammar.specs.Words.{keyword_of, takes_holes, is_remainder}

abbrev pub variable_behind : Region → Keyword → List Token → Option Token
variable_behind r k [] = None
variable_behind r k (u ∷ ts) = if takes_holes r.within && is_remainder k && is_variable u.kind then Some u else None

abbrev pub begins_with_variable : List Token → Bool
begins_with_variable [] = false
begins_with_variable (t ∷ ts) = is_variable t.kind

-- a `\\` or `\`, right before a variable
abbrev pub is_hole : List ℕ → Token → List Token → Bool
is_hole text t ts = begins_with_variable ts && is_remainder (keyword_of t.kind (spelling text t))

-- one of the tokens is
abbrev pub has_hole : List ℕ → List Token → Bool
has_hole text [] = false
has_hole text (t ∷ ts) = is_hole text t ts || has_hole text ts
