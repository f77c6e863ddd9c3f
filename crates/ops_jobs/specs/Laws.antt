-- What holds of the words of the command line, said apart from how they are read.
use Rattle.std.specs.Prelude.{◌≡◌, ◌≤◌, List, [], ◌∷◌, ◌++◌, length, map, true, false, codes, Some}
use Rattle.std.specs.Str.Parse.{digits_value}
use Rattle.ops_jobs.specs.CommandLine.{Word, Piece, given, flagged, file, files_of, is_dashed, is_flag, is_option, options_of, values_of}
use Rattle.ops_jobs.specs.declared.jobs.TheConstants.{GREATEST_WORKERS, GREATEST_LINES, GREATEST_LIMIT, GREATEST_SEED, GREATEST_SIZE}
use Rattle.ops_jobs.specs.declared.jobs.Options.{Options}
use Rattle.ops_jobs.specs.declared.jobs.Job.{Job}
use Rattle.ops_jobs.specs.declared.jobs.Job.TheVariants.{Run, Net, Gen, Why}

-- The words spell the pieces: `--OPTION=VALUE`, or `--OPTION` and `VALUE`, for an option with its value, `--FLAG` for a
-- flag, a word that is not dashed for a file, and after `--` each word for a file.
pub data Spells : List Word → List Piece → Type 0 where
  nothing : Spells [] []
  attached : (option value : Word) (words : List Word) (pieces : List Piece) → is_option option ≡ true → Spells words pieces
      → Spells ((codes "--" ++ (option ++ (codes "=" ++ value))) ∷ words) (given option value ∷ pieces)
  apart : (option value : Word) (words : List Word) (pieces : List Piece) → is_option option ≡ true → is_dashed value ≡ false → Spells words pieces
      → Spells ((codes "--" ++ option) ∷ value ∷ words) (given option value ∷ pieces)
  raised : (flag : Word) (words : List Word) (pieces : List Piece) → is_flag flag ≡ true → Spells words pieces
      → Spells ((codes "--" ++ flag) ∷ words) (flagged flag ∷ pieces)
  named : (name : Word) (words : List Word) (pieces : List Piece) → is_dashed name ≡ false → Spells words pieces → Spells (name ∷ words) (file name ∷ pieces)
  closed : (names : List Word) → Spells (codes "--" ∷ names) (map file names)

-- the pieces say the same: each option and each flag has the same values, and the files are the same in the same order
pub record SayTheSame (ps qs : List Piece) : Type 0 where
  pub values : (name : Word) → values_of name ps ≡ values_of name qs
  pub files : files_of ps ≡ files_of qs

-- each number of the options is in its range
pub record IsWithinLimits (options : Options) : Type 0 where
  pub some_workers : 1 ≤ options.workers
  pub few_workers : options.workers ≤ GREATEST_WORKERS
  pub some_lines : 1 ≤ options.lines
  pub few_lines : options.lines ≤ GREATEST_LINES
  pub some_firings : 1 ≤ options.limit
  pub few_firings : options.limit ≤ GREATEST_LIMIT

-- so are the numbers of a job, and it has a file, or an item
abbrev pub KeepsLimits : Job → Type 0
KeepsLimits (Run options files) = IsWithinLimits options × (1 ≤ length files)
KeepsLimits (Why options files) = IsWithinLimits options × (1 ≤ length files)
KeepsLimits (Net files) = 1 ≤ length files
KeepsLimits (Gen options seed size) = IsWithinLimits options × (seed ≤ GREATEST_SEED) × (1 ≤ size) × (size ≤ GREATEST_SIZE)

-- The pieces have two names, which spell a seed and a size, and the job is the workload of these, with the options of
-- the pieces.
pub record IsWorkload (pieces : List Piece) (job : Job) : Type 0 where
  pub options : Options
  pub seed : Word
  pub size : Word
  pub from : options_of pieces ≡ Some options
  pub names : files_of pieces ≡ seed ∷ size ∷ []
  pub is : job ≡ Gen options (digits_value 10 seed) (digits_value 10 size)

-- The job explains the program of the files, with the options of the pieces.
pub record IsExplanation (pieces : List Piece) (job : Job) : Type 0 where
  pub options : Options
  pub from : options_of pieces ≡ Some options
  pub is : job ≡ Why options (files_of pieces)
