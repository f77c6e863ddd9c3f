-- The names of a text.
use Rattle.std.specs.Prelude.{◌≡◌, ◌↔◌, ◌⊎◌, ℕ, List, true, codes, Contains}
use Rattle.ops_base.specs.Names.{Spellings}
use Rattle.ops_tokens.specs.declared.token.Token.{Token}
use Rattle.ops_tokens.specs.Tokens.{spelling}
use Rattle.ops_grammar.specs.Words.{tokens_of, has_name}

-- A token of the text that has a name is spelled so: a symbol, a quoted name, a variable or an operator. A `\\` with the
-- variable after it is one, inside a `build`.
pub record IsNameIn (text : List ℕ) (s : List ℕ) : Type 0 where
  pub token : Token
  pub stands : Contains (tokens_of text) token
  pub named : has_name token.kind ≡ true
  pub spelled : spelling text token ≡ s

-- the names are nil and those of the text, and no fresh atom was made
pub record AreNamesOf (text : List ℕ) (names : Spellings) : Type 0 where
  pub all : (s : List ℕ) → Contains names.held s ↔ ((s ≡ codes "nil") ⊎ IsNameIn text s)
  pub none_made : names.made ≡ 0
