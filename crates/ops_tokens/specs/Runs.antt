-- What the table finds in a text.
use Rattle.std.specs.Prelude.{◌≡◌, ℕ, ◌+◌, ◌==◌, true, false, List, length, slice_index, Option, Some, None, if◌then◌else◌}
use Rattle.ops_tokens.specs.Bytes.{is_plain}
use Rattle.ops_tokens.specs.Spellings.{row_of}
use Rattle.ops_tokens.specs.Tokens.{run_at}
use Rattle.ops_tokens.specs.declared.table.AtomKind.{AtomKind}
use Rattle.ops_tokens.specs.declared.table.AtomKind.TheVariants as kind
use Rattle.ops_tokens.specs.declared.table.TheConstants.{OPERATOR, WHOLE, FRACTION, VARIABLE, SYMBOL}

-- the kind of a row
abbrev pub kind_of : ℕ → Option AtomKind
kind_of row =
    if row == OPERATOR then Some kind.Operator else if row == WHOLE then Some kind.Whole else if row == FRACTION then Some kind.Fraction
    else if row == VARIABLE then Some kind.Variable else if row == SYMBOL then Some kind.Symbol else None

-- the run of plain bytes at `first` ends there and is of that kind
pub record IsRun (text : List ℕ) (first past : ℕ) (k : AtomKind) : Type 0 where
  pub plain : is_plain (slice_index text first) ≡ true
  pub end : past ≡ first + length (run_at text first)
  pub kind_is : kind_of (row_of (run_at text first)) ≡ Some k

-- where the run of plain bytes at `first` ends, and its kind, or None where no plain byte stands there
abbrev pub FindsRun : List ℕ → ℕ → Option (ℕ × AtomKind) → Type 0
FindsRun text first None = is_plain (slice_index text first) ≡ false
FindsRun text first (Some (past, k)) = IsRun text first past k
