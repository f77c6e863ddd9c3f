-- What a token of each kind stands on.
use Rattle.std.specs.Prelude.{◌≡◌, ℕ, ◌<◌, ◌&&◌, not, Bool, List, length, codes}
use Rattle.std.specs.List.{AllPass}
use Rattle.ops_tokens.specs.Bytes.{is_bad, is_bar, is_plain}
use Rattle.ops_tokens.specs.Regex.{Matches}
use Rattle.ops_tokens.specs.Spellings.{operator, whole, fraction, variable}
use Rattle.ops_tokens.specs.Numbers.{whole_value}
use Rattle.ops_tokens.specs.declared.token.TokenKind.{TokenKind}
use Rattle.ops_tokens.specs.declared.token.TokenKind.TheVariants as kind

unfoldable pub IsOperator : List ℕ → Type 0
IsOperator s = Matches operator s

unfoldable pub IsWhole : List ℕ → Type 0
IsWhole s = Matches whole s

unfoldable pub IsFraction : List ℕ → Type 0
IsFraction s = Matches fraction s

unfoldable pub IsVariable : List ℕ → Type 0
IsVariable s = Matches variable s

-- a byte that may stand between bars
abbrev pub is_quotable : ℕ → Bool
is_quotable b = not (is_bar b) && not (is_bad b)

-- plain bytes that are of none of the other kinds
pub record IsSymbol (s : List ℕ) : Type 0 where
  pub some : 0 < length s
  pub plain : AllPass is_plain s
  pub no_operator : ¬ IsOperator s
  pub no_whole : ¬ IsWhole s
  pub no_fraction : ¬ IsFraction s
  pub no_variable : ¬ IsVariable s

-- a token of the kind may have this spelling
abbrev pub IsSpelled : TokenKind → List ℕ → Type 0
IsSpelled kind.Left s = s ≡ codes "("
IsSpelled kind.Right s = s ≡ codes ")"
IsSpelled kind.LeftBrace s = s ≡ codes "{"
IsSpelled kind.RightBrace s = s ≡ codes "}"
IsSpelled kind.Caret s = s ≡ codes "^"
IsSpelled kind.Operator s = IsOperator s
IsSpelled (kind.Whole value) s = IsWhole s × (whole_value s ≡ value)
IsSpelled kind.Variable s = IsVariable s × (¬ IsOperator s)
IsSpelled kind.Symbol s = IsSymbol s
IsSpelled kind.Quoted s = AllPass is_quotable s
