-- What the objects in memory hold.
use Rattle.std.specs.Prelude.{ℕ, ◌+◌, ◌-◌, ◌^◌, min, List, [], ◌∷◌, map, Option, Some, None, String, Vec, string_bytes, bytes_eq, if◌then◌else◌}

-- files by name, the calls that fail, the names that loads were given, and how many loads have failed
pub record ShelfState : Type 0 where
  pub files : List (List ℕ × List ℕ)
  pub failing : List ℕ
  pub names : List (List ℕ)
  pub faults : ℕ

-- the bytes still to come, the most that a read gives, the calls that fail, and how many reads were made and have failed
pub record SourceState : Type 0 where
  pub left : List ℕ
  pub piece : ℕ
  pub failing : List ℕ
  pub calls : ℕ
  pub faults : ℕ

-- the bytes that were taken, how many there is room for, the most that a write takes, the calls that fail, and how many
-- writes were made and have failed
pub record SinkState : Type 0 where
  pub written : List ℕ
  pub room : ℕ
  pub piece : ℕ
  pub failing : List ℕ
  pub calls : ℕ
  pub faults : ℕ

-- The bytes of each name and of its file.
abbrev pub files_of : {A B : Type 0} → List (String A × Vec ℕ B) → List (List ℕ × List ℕ)
files_of files = map (λ f. (string_bytes f.0, f.1.items)) files

-- The bytes of the first file of a name, none where there is no such file.
abbrev pub content_of : List (List ℕ × List ℕ) → List ℕ → Option (List ℕ)
content_of [] name = None
content_of (f ∷ fs) name = if bytes_eq f.0 name then Some f.1 else content_of fs name

-- The number of the next call: calls are counted from 1, and the last number is used again.
abbrev pub next_call : ℕ → ℕ
next_call calls = min (calls + 1) (2 ^ 64 - 1)
