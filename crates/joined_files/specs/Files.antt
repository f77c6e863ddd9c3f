-- The files of a text, joined in order.
use Rattle.std.specs.Prelude.{ℕ, ◌-◌, List, [], ◌∷◌, ◌++◌, length, slice_set, Bool, true, ◌==◌, nat_le, if◌then◌else◌, Option, Some, None}
use Rattle.ops_base.specs.Valid.{longest_list}
use Rattle.joined_files.specs.declared.parts.Part.{Part}

-- it ends in LF
abbrev pub ends_in_line : List ℕ → Bool
ends_in_line [] = true
ends_in_line (b ∷ []) = b == 10
ends_in_line (b ∷ c ∷ bs) = ends_in_line (c ∷ bs)

-- a file's bytes, followed by an LF if the last line lacks one
abbrev pub text_of : List ℕ → List ℕ
text_of bytes = if ends_in_line bytes then bytes else bytes ++ 10 ∷ []

-- the result of joining files: one text with the parts that the files have in it, or the name of a file that can't be
-- read, or of a file with which the text has more bytes than allowed
pub data Gathered : Type 0 where
  Joined : (text : List ℕ) (parts : List Part) → Gathered
  Unread : (name : List ℕ) → Gathered
  Overlong : (name : List ℕ) → Gathered

-- one more part, which begins where this text ends
abbrev pub with_part : List Part → List ℕ → List Part
with_part parts text = parts ++ record { file = length parts; first = length text } ∷ []

abbrev pub joined : List ℕ → List ℕ → (List ℕ → Gathered) → Gathered
joined name text rest = if nat_le (length text) longest_list then rest text else Overlong name

-- The files of these names are appended in order to this text. The contents are those of the files, none if a file
-- can't be read.
abbrev pub gathered : List ℕ → List Part → List (List ℕ) → List (Option (List ℕ)) → Gathered
gathered text parts [] contents = Joined text parts
gathered text parts (name ∷ names) (Some bytes ∷ contents) =
    joined name (text ++ text_of bytes) (λ all. gathered all (with_part parts text) names contents)
gathered text parts (name ∷ names) contents = Unread name

abbrev pub gathered_all : List (List ℕ) → List (Option (List ℕ)) → Gathered
gathered_all names contents = gathered [] [] names contents

-- the contents, except that the load with this number (counted from 1), if there is one, failed: its file can't be
-- read
abbrev pub readable : List (Option (List ℕ)) → Option ℕ → List (Option (List ℕ))
readable contents None = contents
readable contents (Some n) = slice_set contents (n - 1) None
