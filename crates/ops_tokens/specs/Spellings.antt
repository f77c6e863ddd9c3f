-- The spellings of plain atoms.
use Rattle.std.specs.Prelude.{ℕ, Bool, List, [], ◌∷◌, codes, if◌then◌else◌}
use Rattle.ops_tokens.specs.Regex.{Regex, Never, Empty, One, Then, Or, Many, matches}
use Rattle.ops_tokens.specs.declared.table.TheConstants.{OPERATOR, WHOLE, FRACTION, VARIABLE, SYMBOL}

abbrev pub byte : ℕ → Regex
byte b = One b b

abbrev pub word : List ℕ → Regex
word [] = Empty
word (b ∷ []) = byte b
word (b ∷ bs) = Then (byte b) (word bs)

abbrev pub any_of : List (List ℕ) → Regex
any_of [] = Never
any_of (w ∷ []) = word w
any_of (w ∷ ws) = Or (word w) (any_of ws)

abbrev pub optional : Regex → Regex
optional r = Or r Empty

abbrev pub some : Regex → Regex
some r = Then r (Many r)

-- 0x21 to 0x7E but ( ) { } ^ ; and the bar
abbrev pub plain : Regex
plain = Or (One 33 39) (Or (One 42 58) (Or (One 60 93) (Or (One 95 122) (One 126 126))))

abbrev pub sign : Regex
sign = Or (byte 43) (byte 45)

abbrev pub digits : Regex
digits = some (One 48 57)

abbrev pub point : Regex
point = byte 46

-- e or E, an optional sign and digits
abbrev pub exponent : Regex
exponent = Then (Or (byte 69) (byte 101)) (Then (optional sign) digits)

abbrev pub operator : Regex
operator = any_of (codes "=" ∷ codes "<>" ∷ codes "<" ∷ codes "<=" ∷ codes ">" ∷ codes ">=" ∷ codes "<=>" ∷ codes "<<" ∷ codes ">>" ∷ codes "//" ∷ codes "-->" ∷ codes "-" ∷ [])

-- an optional sign, digits and an optional final point
abbrev pub whole : Regex
whole = Then (optional sign) (Then digits (optional point))

-- an optional sign, and digits with a point before the last of them, an exponent or both
abbrev pub fraction : Regex
fraction = Then (optional sign) (Or (Then (Or (Then digits (Then point digits)) (Then point digits)) (optional exponent)) (Then digits (Then (optional point) exponent)))

-- three bytes or more, of which the first is < and the last >
abbrev pub variable : Regex
variable = Then (byte 60) (Then (some plain) (byte 62))

unfoldable pub is_operator : List ℕ → Bool
is_operator s = matches operator s

unfoldable pub is_whole : List ℕ → Bool
is_whole s = matches whole s

unfoldable pub is_fraction : List ℕ → Bool
is_fraction s = matches fraction s

unfoldable pub is_variable : List ℕ → Bool
is_variable s = matches variable s

-- one plain byte or more
unfoldable pub is_atom : List ℕ → Bool
is_atom s = matches (some plain) s

-- the number of the first row that fits, or 0
abbrev pub row_of : List ℕ → ℕ
row_of s =
    if is_operator s then OPERATOR else if is_whole s then WHOLE else if is_fraction s then FRACTION
    else if is_variable s then VARIABLE else if is_atom s then SYMBOL else 0
