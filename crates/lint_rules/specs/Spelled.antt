-- Which words look like a slip, judged by their bytes.
use Rattle.std.specs.Prelude.{ℕ, ◌-◌, List, length, drop, slice_index, Bool, not, ◌==◌, ◌&&◌, ◌||◌, nat_le, nat_lt}
use Rattle.std.specs.List.{list_any}

abbrev pub is_letter : ℕ → Bool
is_letter b = (nat_le 65 b && nat_le b 90) || (nat_le 97 b && nat_le b 122)

abbrev pub is_digit : ℕ → Bool
is_digit b = nat_le 48 b && nat_le b 57

abbrev pub begins_with : ℕ → List ℕ → Bool
begins_with byte word = not (length word == 0) && (slice_index word 0 == byte)

abbrev pub ends_with : ℕ → List ℕ → Bool
ends_with byte word = not (length word == 0) && (slice_index word (length word - 1) == byte)

abbrev pub begins_with_letter : List ℕ → Bool
begins_with_letter word = not (length word == 0) && is_letter (slice_index word 0)

-- ?x
abbrev pub is_marked : List ℕ → Bool
is_marked word = begins_with 63 word && begins_with_letter (drop 1 word)

-- ?x or $?x
abbrev pub is_clips_variable : List ℕ → Bool
is_clips_variable word = is_marked word || (begins_with 36 word && is_marked (drop 1 word))

-- ~ and more
abbrev pub is_clips_test : List ℕ → Bool
is_clips_test word = begins_with 126 word && list_any (λ b. is_letter b || is_digit b) word

-- it begins with <, > or =, or ends with >, and has a letter or a digit
abbrev pub is_joined : List ℕ → Bool
is_joined word =
    (begins_with 60 word || begins_with 62 word || begins_with 61 word || ends_with 62 word) && list_any (λ b. is_letter b || is_digit b) word

-- there is a < after its first byte
abbrev pub is_joined_variable : List ℕ → Bool
is_joined_variable word = list_any (λ b. b == 60) (drop 1 word)

-- a quote and more
abbrev pub is_string : List ℕ → Bool
is_string word = nat_lt 1 (length word) && (slice_index word 0 == 34)
