-- Each file of a joined text has a range of it, which is given by its part.
use Rattle.std.specs.Prelude.{◌≡◌, ℕ, ◌+◌, ◌<◌, ◌≤◌, List, [], ◌∷◌, ◌++◌, length, drop, slice_get, true, Option, Some}
use Rattle.joined_files.specs.declared.parts.Part.{Part}
use Rattle.joined_files.specs.Files.{ends_in_line, text_of, gathered_all, Joined}
use Rattle.joined_files.specs.Parts.{part_at}

-- where the first of these parts begins, or where the text ends if there is none
abbrev pub next_place : List ℕ → List Part → ℕ
next_place text [] = length text
next_place text (part ∷ parts) = part.first

-- The part with this number is that of the file with this number, which has these bytes: the part begins where their
-- text begins, and the next part begins where that text ends. The text before it is empty or ends in LF. The places
-- of the range belong to the part.
pub record IsOfFile (text : List ℕ) (parts : List Part) (number : ℕ) (bytes : List ℕ) : Type 0 where
  pub before : List ℕ
  pub after : List ℕ
  pub range : text ≡ before ++ text_of bytes ++ after
  pub part : slice_get parts number ≡ Some (record { file = number; first = length before })
  pub past : next_place text (drop (number + 1) parts) ≡ length before + length (text_of bytes)
  pub lines : ends_in_line before ≡ true
  pub places : (at : ℕ) → length before ≤ at → at < length before + length (text_of bytes) → part_at parts at ≡ record { file = number; first = length before }

-- There are as many parts as files, and each is that of its file.
pub record HaveRanges (names : List (List ℕ)) (contents : List (Option (List ℕ))) (text : List ℕ) (parts : List Part) : Type 0 where
  pub number : length parts ≡ length names
  pub each : (k : ℕ) → k < length names → (bytes : List ℕ) × (slice_get contents k ≡ Some (Some bytes)) × IsOfFile text parts k bytes

abbrev pub PartsAreFiles : Type 0
PartsAreFiles =
    (names : List (List ℕ)) (contents : List (Option (List ℕ))) (text : List ℕ) (parts : List Part)
    → gathered_all names contents ≡ Joined text parts → HaveRanges names contents text parts
