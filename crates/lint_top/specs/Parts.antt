-- The position in its file of a place of a joined text.
use Rattle.std.specs.Prelude.{ℕ, ◌-◌, List, [], drop, slice_index_or}
use Rattle.ops_grammar.specs.Places.{line_of, column_of}
use Rattle.joined_files.specs.declared.parts.Part.{Part}

-- the name of a part's file
abbrev pub file_name : List (List ℕ) → Part → List ℕ
file_name names part = slice_index_or names part.file []

-- the line and the column of a place, counted only in the part
abbrev pub line_in : List ℕ → Part → ℕ → ℕ
line_in text part at = line_of (drop part.first text) (at - part.first)

abbrev pub column_in : List ℕ → Part → ℕ → ℕ
column_in text part at = column_of (drop part.first text) (at - part.first)
