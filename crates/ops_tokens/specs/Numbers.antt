-- The values of whole numbers.
use Rattle.std.specs.Prelude.{ℕ, ◌+◌, ◌-◌, ◌*◌, ◌==◌, ◌&&◌, Bool, List, [], ◌∷◌, fold, take_while, slice_index, ℤ, pos, negsuc, int_le, if◌then◌else◌}
use lib.IntN.{neg_ℤ}
use Rattle.ops_tokens.specs.Bytes.{is_digit, is_sign}

-- the number that decimal digits spell
unfoldable pub decimal : List ℕ → ℕ
decimal digits = fold (λ n b. 10 * n + (b - 48)) 0 digits

-- the spelling without its sign, if it has one
abbrev pub unsigned : List ℕ → List ℕ
unsigned [] = []
unsigned (b ∷ bs) = if is_sign b then bs else b ∷ bs

-- it begins with -
abbrev pub is_negative : List ℕ → Bool
is_negative s = slice_index s 0 == 45

-- the number that the digits after the sign spell
abbrev pub magnitude : List ℕ → ℕ
magnitude s = decimal (take_while is_digit (unsigned s))

-- the value of the spelling of a whole number
abbrev pub whole_value : List ℕ → ℤ
whole_value s = if is_negative s then neg_ℤ (pos (magnitude s)) else pos (magnitude s)

-- -170141183460469231731687303715884105728 to 170141183460469231731687303715884105727
abbrev pub is_in_range : ℤ → Bool
is_in_range z = int_le (negsuc 170141183460469231731687303715884105727) z && int_le z (pos 170141183460469231731687303715884105727)
