-- What may stand between tokens.
use Rattle.std.specs.Prelude.{ℕ, List}
use Rattle.ops_tokens.specs.Regex.{Regex, One, Then, Or, Many, Matches}

-- space, tab, LF, CR or FF
abbrev pub white : Regex
white = Or (One 9 10) (Or (One 12 13) (One 32 32))

-- a ; and then any bytes but LF
abbrev pub comment : Regex
comment = Then (One 59 59) (Many (Or (One 0 9) (One 11 255)))

-- white space and comments, and nothing else
unfoldable pub IsGap : List ℕ → Type 0
IsGap s = Matches (Many (Or white comment)) s
