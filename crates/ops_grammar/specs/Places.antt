-- Lines and columns of a text, counted from 1.
use Rattle.std.specs.Prelude.{ℕ, ◌+◌, ◌==◌, not, List, length, reverse, take, take_while, count_by}

-- one more than the number of LF bytes before the place
abbrev pub line_of : List ℕ → ℕ → ℕ
line_of text at = 1 + count_by (λ b. b == 10) (take at text)

-- one more than the number of bytes since the last LF before it
abbrev pub column_of : List ℕ → ℕ → ℕ
column_of text at = 1 + length (take_while (λ b. not (b == 10)) (reverse (take at text)))
