-- A place in a file compared with that place in the joined text.
use Rattle.std.specs.Prelude.{◌≡◌, ℕ, ◌+◌, ◌≤◌, ◌==◌, List, take, count_by, true}
use Rattle.ops_grammar.specs.Places.{line_of, column_of}
use Rattle.joined_files.specs.declared.parts.Part.{Part}
use Rattle.joined_files.specs.Files.{ends_in_line}
use Rattle.lint_top.specs.Parts.{line_in, column_in}

-- how many lines come before a place
abbrev pub lines_before : List ℕ → ℕ → ℕ
lines_before text first = count_by (λ b. b == 10) (take first text)

-- the line in the file is the line in the joined text less the lines before the file
abbrev pub LinesAreLess : Type 0
LinesAreLess =
    (text : List ℕ) (part : Part) (at : ℕ) → part.first ≤ at → line_of text at ≡ lines_before text part.first + line_in text part at

-- the column is the same, if the text before the file ends in LF
abbrev pub ColumnsAreSame : Type 0
ColumnsAreSame =
    (text : List ℕ) (part : Part) (at : ℕ) → part.first ≤ at → ends_in_line (take part.first text) ≡ true
    → column_of text at ≡ column_in text part at
