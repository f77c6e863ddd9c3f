-- The program's reply to its words and files.
use Rattle.std.specs.Prelude.{ℕ, List, [], ◌∷◌, ◌++◌, length, codes, Bool, true, not, ◌==◌, ◌&&◌, if◌then◌else◌, Option}
use Rattle.std.specs.List.{list_all}
use Rattle.ops_base.specs.declared.endings.Fault.TheVariants as fault
use Rattle.lint_top.specs.declared.statuses.LintStatus.TheVariants as status
use Rattle.joined_files.specs.Files.{Gathered, Joined, Unread, Overlong, gathered_all, readable}
use Rattle.lint_top.specs.Report.{Reply, line_at, error_text, report}

-- it does not begin with -
abbrev pub is_file : List ℕ → Bool
is_file [] = true
is_file (b ∷ bs) = not (b == 45)

-- there are words, and each names a file
abbrev pub are_files : List (List ℕ) → Bool
are_files words = not (length words == 0) && list_all is_file words

abbrev pub usage_line : List ℕ
usage_line = codes "usage: ops-lint FILE..\n"

abbrev pub unread_line : List ℕ → List ℕ
unread_line name = codes "ops: cannot read " ++ name ++ 10 ∷ []

abbrev pub usage : Reply
usage = record { bytes = usage_line; status = status.Usage }

abbrev pub unread : List ℕ → Reply
unread name = record { bytes = unread_line name; status = status.Unread }

-- the line for a file with which the text is too long
abbrev pub overlong_line : List ℕ → List ℕ
overlong_line name = line_at name 1 1 (error_text fault.TooLong)

abbrev pub overlong : List ℕ → Reply
overlong name = record { bytes = overlong_line name; status = status.Faulty }

abbrev pub answer_gathered : List (List ℕ) → Gathered → Reply
answer_gathered names (Joined text parts) = report names text parts
answer_gathered names (Unread name) = unread name
answer_gathered names (Overlong name) = overlong name

-- The words are those of the command line, and the contents are those of the files that they name, in order, none if
-- a file does not exist. `broken` is the number of the load that failed, counted from 1, if one did.
abbrev pub whole : List (List ℕ) → List (Option (List ℕ)) → Option ℕ → Reply
whole words contents broken =
    if are_files words then answer_gathered words (gathered_all words (readable contents broken)) else usage
