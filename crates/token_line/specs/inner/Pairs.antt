-- Tokens as a list, with what is kept of each.
use Rattle.std.specs.Prelude.{◌≢◌, ℕ, List, Option, pos, bytes_eq, position}
use Rattle.std.specs.List.{IsDistinct}
use Rattle.std.specs.Map.{keys_of, lookup}
use Rattle.std.specs.Option.{ForSome}
use Rattle.token_line.specs.declared.tokens.TokenCount.{TokenCount}

abbrev pub Pairs : Type 0
Pairs = List (List ℕ × TokenCount)

-- what is kept of a token
abbrev pub cell_of : Pairs → List ℕ → Option TokenCount
cell_of kept t = lookup (bytes_eq t) kept

-- the place of a token
abbrev pub place_of : Pairs → List ℕ → Option ℕ
place_of kept t = position (bytes_eq t) (keys_of kept)

-- no token is there twice, and none has a sum of 0
pub record ArePairs (kept : Pairs) : Type 0 where
  pub apart : IsDistinct bytes_eq (keys_of kept)
  pub some : (t : List ℕ) → ForSome (cell_of kept t) (λ c. c.sum ≢ pos 0)
