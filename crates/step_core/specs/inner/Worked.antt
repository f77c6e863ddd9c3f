-- Which lines have entries, given by their places among the lines.
use Rattle.std.specs.Prelude.{◌≡◌, ◌≢◌, ◌<◌, ◌≤◌, ◌==◌, ℕ, Bool, not, List, length, slice_get, Some}
use Rattle.token_line.specs.declared.line.Line.{Line}

abbrev pub has_entries : Line → Bool
has_entries l = not (length l.entries.items == 0)

-- exactly the places of the lines that have entries, each once
pub record AreWorked (ls : List Line) (worked : List ℕ) : Type 0 where
  pub within : (k i : ℕ) → slice_get worked k ≡ Some i → i < length ls
  pub busy : (k i : ℕ) (l : Line) → slice_get worked k ≡ Some i → slice_get ls i ≡ Some l → 1 ≤ length l.entries.items
  pub rest : (i : ℕ) (l : Line) → slice_get ls i ≡ Some l → ((k : ℕ) → slice_get worked k ≢ Some i) → length l.entries.items ≡ 0
  pub once : (j k i : ℕ) → slice_get worked j ≡ Some i → slice_get worked k ≡ Some i → j ≡ k
