-- The tokens that a room holds.
use Rattle.std.specs.Prelude.{ℕ, List, [], ◌∷◌, map, Option, Some, None}
use Rattle.token_line.specs.declared.tokens.TokenCount.{TokenCount}
use Rattle.token_line.specs.declared.token_room.TokenRoom.{TokenRoom}
use Rattle.token_line.specs.declared.token_room.TokenRoom.TheVariants.{One, Elements, Longer}
use Rattle.token_line.specs.inner.Pairs.{Pairs}

-- the tag of a token that has exactly one
abbrev pub only_tag : List ℕ → Option ℕ
only_tag [] = None
only_tag (tag ∷ []) = Some tag
only_tag (tag ∷ next ∷ rest) = None

-- each tag as a token
abbrev pub as_tokens : List (ℕ × TokenCount) → Pairs
as_tokens tags = map (λ e. (e.0 ∷ [], e.1)) tags

abbrev pub tokens_in : TokenRoom → Pairs
tokens_in (One tag cell) = (tag ∷ [], cell) ∷ []
tokens_in (Elements tags) = as_tokens tags
tokens_in (Longer tokens) = tokens
