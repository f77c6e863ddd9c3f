-- What `clap` finds in words, by the pieces that they are.
use Rattle.std.specs.Prelude.{◌≡◌, List, Some, option_map, true, false, codes, if◌then◌else◌}
use Rattle.clap.specs.Matches.{first_value, found_of, matched_of, one_text, raw_values}
use Rattle.clap.specs.declared.error.kind.ErrorKind.{ErrorKind}
use Rattle.clap.specs.declared.error.kind.ErrorKind.TheVariants as kind
use Rattle.clap.specs.declared.parser.matches.ArgMatches.{ArgMatches}
use Rattle.ops_jobs.specs.CommandLine.{Piece, Word, files_of, is_complete, is_flag, is_option, is_raised, pieces_of, value_of}
use Rattle.ops_words.specs.declared.faults.WordsFault.{WordsFault}
use Rattle.ops_words.specs.declared.faults.WordsFault.TheVariants.{Usage, OutOfMemory}

abbrev pub fault_of : ErrorKind → WordsFault
fault_of kind.OutOfMemory = OutOfMemory
fault_of _ = Usage

-- The words are pieces that are complete, and the matches have the value of each option, whether each flag stands, and
-- the files.
pub record Finds (words : List Word) (m : ArgMatches) : Type 0 where
  pub pieces : List Piece
  pub are : pieces_of words ≡ Some pieces
  pub complete : is_complete pieces ≡ true
  pub values : (option : Word) → is_option option ≡ true → first_value (found_of m) option ≡ value_of option pieces
  pub flags : (flag : Word) → is_flag flag ≡ true → one_text (found_of m) flag ≡ Some (if is_raised flag pieces then codes "true" else codes "false")
  pub files : option_map raw_values (matched_of (found_of m) (codes "file")) ≡ Some (files_of pieces)

-- the words are no pieces, or pieces that are not complete
abbrev pub FindsNothing : List Word → Type 0
FindsNothing words = (pieces : List Piece) → pieces_of words ≡ Some pieces → is_complete pieces ≡ false
