-- The kinds of bytes in a program text.
use Rattle.std.specs.Prelude.{ℕ, ◌==◌, ◌&&◌, ◌||◌, not, Bool, nat_le, codes}
use Rattle.std.specs.List.{list_any}

-- space, tab, LF, CR and FF
abbrev pub is_white : ℕ → Bool
is_white b = b == 32 || b == 9 || b == 10 || b == 13 || b == 12

-- neither white space nor from 0x20 to 0x7E, so that it may stand in a comment alone
abbrev pub is_bad : ℕ → Bool
is_bad b = not (is_white b) && not (nat_le 32 b && nat_le b 126)

-- ( ) { } ^ ; and the bar
abbrev pub is_special : ℕ → Bool
is_special b = list_any (λ c. b == c) (codes "(){}^;|")

-- 0x21 to 0x7E but ( ) { } ^ ; and the bar
abbrev pub is_plain : ℕ → Bool
is_plain b = nat_le 33 b && nat_le b 126 && not (is_special b)

abbrev pub is_digit : ℕ → Bool
is_digit b = nat_le 48 b && nat_le b 57

-- + and -
abbrev pub is_sign : ℕ → Bool
is_sign b = b == 43 || b == 45

abbrev pub is_bar : ℕ → Bool
is_bar b = b == 124
