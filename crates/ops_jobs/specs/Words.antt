-- Words as bytes.
use Rattle.std.specs.Prelude.{ℕ, List, map, String, string_bytes}

abbrev pub word_bytes : {A : Type 0} → List (String A) → List (List ℕ)
word_bytes words = map string_bytes words
