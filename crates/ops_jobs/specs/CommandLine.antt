-- What the words of the command line mean. In a word `-` is 45 and `=` is 61.
use Rattle.std.specs.Prelude.{ℕ, ◌==◌, ◌&&◌, ◌∷◌, ◌++◌, [], List, Bool, true, false, length, map, drop, codes, nat_le, bytes_eq, if◌then◌else◌, slice_get}
use Rattle.std.specs.Prelude.{Option, Some, None, option_map, option_and_then}
use Rattle.std.specs.List.{list_all, list_any, before_first, after_first}
use Rattle.std.specs.Char.{is_ascii_digit}
use Rattle.std.specs.Str.Parse.{digits_value}
use Rattle.ops_jobs.specs.declared.jobs.TheConstants.{DEFAULT_WORKERS, DEFAULT_LINES, DEFAULT_LIMIT, GREATEST_WORKERS, GREATEST_LINES, GREATEST_LIMIT, GREATEST_SEED, GREATEST_SIZE}
use Rattle.ops_jobs.specs.declared.jobs.Engine.{Engine}
use Rattle.ops_jobs.specs.declared.jobs.Engine.TheVariants.{Direct, Serial, Rounds, Free, Steal}
use Rattle.ops_jobs.specs.declared.jobs.Options.{Options}
use Rattle.ops_jobs.specs.declared.jobs.Job.{Job}
use Rattle.ops_jobs.specs.declared.jobs.Job.TheVariants.{Run, Net, Gen, Why}

abbrev pub Word : Type 0
Word = List ℕ

-- ---- what a word is

abbrev pub option_names : List Word
option_names = codes "match" ∷ codes "workers" ∷ codes "lines" ∷ codes "limit" ∷ []

abbrev pub is_option : Word → Bool
is_option name = list_any (λ option. bytes_eq option name) option_names

-- flags take no value
abbrev pub flag_names : List Word
flag_names = codes "gen" ∷ codes "net" ∷ codes "why" ∷ codes "overlap" ∷ []

abbrev pub is_flag : Word → Bool
is_flag name = list_any (λ flag. bytes_eq flag name) flag_names

-- the flags that say what is done with the names
abbrev pub mode_names : List Word
mode_names = codes "gen" ∷ codes "net" ∷ codes "why" ∷ []

abbrev pub is_mode : Word → Bool
is_mode name = list_any (λ mode. bytes_eq mode name) mode_names

-- two bytes or more, of which the first is `-`
abbrev pub is_dashed : Word → Bool
is_dashed (a ∷ b ∷ rest) = a == 45
is_dashed _ = false

-- and the second is `-` too
abbrev pub is_long : Word → Bool
is_long (a ∷ b ∷ rest) = a == 45 && b == 45
is_long _ = false

-- what stands after `--`, up to the first `=`
abbrev pub name_in : Word → Word
name_in word = before_first (λ b. b == 61) (drop 2 word)

-- what stands after the first `=`, where there is one
abbrev pub value_in : Word → Option Word
value_in word = if list_any (λ b. b == 61) (drop 2 word) then Some (after_first (λ b. b == 61) (drop 2 word)) else None

-- What a word is where no option waits for its value: the word `--`, an option with its value, an option that takes the
-- next word, a flag, none of these but like one, or a name.
pub data Sort : Type 0 where
  ends_options : Sort
  gives : (option value : Word) → Sort
  opens : (option : Word) → Sort
  raises : (flag : Word) → Sort
  unknown : Sort
  names : Sort

abbrev pub option_sort : Word → Option Word → Sort
option_sort option (Some value) = gives option value
option_sort option None = opens option

-- a flag has no `=`
abbrev pub flag_sort : Word → Option Word → Sort
flag_sort flag (Some value) = unknown
flag_sort flag None = raises flag

abbrev pub sort_of : Word → Sort
sort_of word =
    if bytes_eq word (codes "--") then ends_options
    else if is_long word && is_option (name_in word) then option_sort (name_in word) (value_in word)
    else if is_long word && is_flag (name_in word) then flag_sort (name_in word) (value_in word)
    else if is_dashed word then unknown
    else names

-- ---- how words are read, from left to right

-- an option with its value, a flag, or a file
pub data Piece : Type 0 where
  given : (option value : Word) → Piece
  flagged : (flag : Word) → Piece
  file : (name : Word) → Piece

abbrev pub with_piece : Piece → Option (List Piece) → Option (List Piece)
with_piece piece pieces = option_map (λ ps. piece ∷ ps) pieces

-- `rest` reads the words after this one, where an option waits for its value or none does
abbrev pub read_as : Sort → Word → List Word → (Option Word → Option (List Piece)) → Option (List Piece)
read_as ends_options word words rest = Some (map file words)
read_as (gives option value) word words rest = with_piece (given option value) (rest None)
read_as (opens option) word words rest = rest (Some option)
read_as (raises flag) word words rest = with_piece (flagged flag) (rest None)
read_as unknown word words rest = None
read_as names word words rest = with_piece (file word) (rest None)

-- An option that waits takes the next word. A dashed one is no value: a number has digits alone, and no engine's name
-- is dashed.
unfoldable pub pieces_from : List Word → Option Word → Option (List Piece)
pieces_from [] None = Some []
pieces_from [] (Some option) = None
pieces_from (word ∷ words) None = read_as (sort_of word) word words (pieces_from words)
pieces_from (word ∷ words) (Some option) = if is_dashed word then None else with_piece (given option word) (pieces_from words None)

abbrev pub pieces_of : List Word → Option (List Piece)
pieces_of words = pieces_from words None

-- ---- what the pieces ask for

-- the values that the option or flag of this name was given: a flag that stands is given `true`
abbrev pub values_of : Word → List Piece → List Word
values_of name [] = []
values_of name (given option value ∷ pieces) = if bytes_eq option name then value ∷ values_of name pieces else values_of name pieces
values_of name (flagged flag ∷ pieces) = if bytes_eq flag name then codes "true" ∷ values_of name pieces else values_of name pieces
values_of name (file other ∷ pieces) = values_of name pieces

abbrev pub files_of : List Piece → List Word
files_of [] = []
files_of (given option value ∷ pieces) = files_of pieces
files_of (flagged flag ∷ pieces) = files_of pieces
files_of (file name ∷ pieces) = name ∷ files_of pieces

-- each option and each flag stands at most once ..
abbrev pub is_once : List Piece → Bool
is_once pieces = list_all (λ name. nat_le (length (values_of name pieces)) 1) (option_names ++ flag_names)

-- .. and there is a file
abbrev pub is_complete : List Piece → Bool
is_complete pieces = is_once pieces && nat_le 1 (length (files_of pieces))

abbrev pub value_of : Word → List Piece → Option Word
value_of option pieces = slice_get (values_of option pieces) 0

-- one to ten decimal digits that spell a number from the least to the greatest
abbrev pub is_number : (least greatest : ℕ) → Word → Bool
is_number least greatest word =
    list_all is_ascii_digit word && nat_le 1 (length word) && nat_le (length word) 10 && nat_le least (digits_value 10 word) && nat_le (digits_value 10 word) greatest

-- the number that a word spells
abbrev pub number_of : (least greatest : ℕ) → Word → Option ℕ
number_of least greatest word = if is_number least greatest word then Some (digits_value 10 word) else None

-- the number that an option was given, or the usual one
abbrev pub number_from : (usual greatest : ℕ) → Option Word → Option ℕ
number_from usual greatest None = Some usual
number_from usual greatest (Some word) = number_of 1 greatest word

-- the engine of this name
abbrev pub engine_named : Word → Option Engine
engine_named word =
    if bytes_eq word (codes "direct") then Some Direct
    else if bytes_eq word (codes "serial") then Some Serial
    else if bytes_eq word (codes "rounds") then Some Rounds
    else if bytes_eq word (codes "free") then Some Free
    else if bytes_eq word (codes "steal") then Some Steal
    else None

-- the engine that `--match` was given, or the usual one
abbrev pub engine_from : Option Word → Option Engine
engine_from None = Some Free
engine_from (Some word) = engine_named word

-- the options, by the values that they were given, and by whether `--overlap` stands
abbrev pub options_from : Option Word → Option Word → Option Word → Option Word → Bool → Option Options
options_from matching workers lines limit overlap =
    option_and_then (λ e. option_and_then (λ w. option_and_then (λ l. option_map (λ n. record { engine = e; workers = w; lines = l; limit = n; overlap = overlap })
    (number_from DEFAULT_LIMIT GREATEST_LIMIT limit))
    (number_from DEFAULT_LINES GREATEST_LINES lines))
    (number_from DEFAULT_WORKERS GREATEST_WORKERS workers))
    (engine_from matching)

-- the flag of this name stands
abbrev pub is_raised : Word → List Piece → Bool
is_raised flag pieces = nat_le 1 (length (values_of flag pieces))

abbrev pub options_of : List Piece → Option Options
options_of pieces =
    options_from (value_of (codes "match") pieces) (value_of (codes "workers") pieces) (value_of (codes "lines") pieces) (value_of (codes "limit") pieces) (is_raised (codes "overlap") pieces)

-- a seed and a size, and nothing else
abbrev pub workload_of : Options → List Word → Option Job
workload_of options (seed ∷ size ∷ []) =
    option_and_then (λ from. option_map (Gen options from) (number_of 1 GREATEST_SIZE size)) (number_of 0 GREATEST_SEED seed)
workload_of options _ = None

-- The names are those of files, or with `--gen` a seed and a size. The options have no effect with `--net`, and two
-- modes together ask for nothing.
abbrev pub job_by : (gen net why : Bool) → Options → List Word → Option Job
job_by false false false options words = Some (Run options words)
job_by false false true options words = Some (Why options words)
job_by false true false options words = Some (Net words)
job_by true false false options words = workload_of options words
job_by gen net why options words = None

abbrev pub job_from : List Piece → Option Job
job_from pieces =
    if is_complete pieces
    then option_and_then (λ options. job_by (is_raised (codes "gen") pieces) (is_raised (codes "net") pieces) (is_raised (codes "why") pieces) options (files_of pieces)) (options_of pieces)
    else None

-- the job that the words ask for, where they fit
abbrev pub job_of : List Word → Option Job
job_of words = option_and_then job_from (pieces_of words)
