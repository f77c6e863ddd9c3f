-- The job that what `clap` found asks for.
use Rattle.std.proofs.Common.{◌≡◌, ◌∙◌, Bool, true, false, List, [], Option, Some, None, codes, refl, sym, ap, option_map}
use Rattle.std.specs.Prelude.{if◌then◌else◌, unwrap_or}
use Rattle.clap.specs.Matches.{first_value, found_of, matched_of, one_text, raw_values}
use Rattle.clap.specs.declared.parser.matches.ArgMatches.{ArgMatches}
use Rattle.ops_jobs.specs.declared.jobs.Options.{Options}
use Rattle.ops_jobs.specs.CommandLine.{Word, files_of, is_flag, is_raised, job_by, job_of, options_from, options_of}
use Rattle.ops_words.specs.Found.{Finds}

-- the options that `clap` found
abbrev pub options_found : ArgMatches → Bool → Option Options
options_found m overlap = options_from (first_value (found_of m) (codes "match")) (first_value (found_of m) (codes "workers"))
    (first_value (found_of m) (codes "lines")) (first_value (found_of m) (codes "limit")) overlap

-- and the files
abbrev pub files_found : ArgMatches → List Word
files_found m = unwrap_or (option_map raw_values (matched_of (found_of m) (codes "file"))) []

-- whether the flag of this name stands, as `get_flag` reads it
abbrev pub IsFlagFound : ArgMatches → Word → Bool → Type 0
IsFlagFound m name flag = (one_text (found_of m) name ≡ Some (codes "true") → flag ≡ true) × (one_text (found_of m) name ≡ Some (codes "false") → flag ≡ false)

flag-pieces : (words : List Word) (m : ArgMatches) (name : Word) (flag : Bool) (found : Finds words m) → is_flag name ≡ true → IsFlagFound m name flag
    → is_raised name found.pieces ≡ flag
flag-pieces words m name flag found known is = go (is_raised name found.pieces) (found.flags name known)
  where
    go : (t : Bool) → one_text (found_of m) name ≡ Some (if t then codes "true" else codes "false") → t ≡ flag
    go true e = sym (is.0 e)
    go false e = sym (is.1 e)

options-pieces : (words : List Word) (m : ArgMatches) (overlap : Bool) (found : Finds words m) → IsFlagFound m (codes "overlap") overlap → options_found m overlap ≡ options_of found.pieces
options-pieces words m overlap found overlapped =
    rw (found.values (codes "match") refl, found.values (codes "workers") refl, found.values (codes "lines") refl, found.values (codes "limit") refl, flag-pieces words m (codes "overlap") overlap found refl overlapped) refl

-- they are the job that the words ask for
pub job_found : (words : List Word) (m : ArgMatches) (options : Options) (overlap gen net why : Bool) (files : List Word) → Finds words m → options_found m overlap ≡ Some options
    → IsFlagFound m (codes "overlap") overlap → IsFlagFound m (codes "gen") gen → IsFlagFound m (codes "net") net → IsFlagFound m (codes "why") why → files ≡ files_found m → job_of words ≡ job_by gen net why options files
job_found words m options overlap gen net why files found from overlapped generated network explained are =
    let same : options_of found.pieces ≡ Some options = sym (options-pieces words m overlap found overlapped) ∙ from in
    let all : files_of found.pieces ≡ files = sym (are ∙ ap (λ o. unwrap_or o []) found.files) in
    rw (found.are, found.complete, same, flag-pieces words m (codes "gen") gen found refl generated, flag-pieces words m (codes "net") net found refl network, flag-pieces words m (codes "why") why found refl explained, all) refl

-- options that are not fit ask for nothing
pub no_job_found : (words : List Word) (m : ArgMatches) (overlap : Bool) → Finds words m → IsFlagFound m (codes "overlap") overlap → options_found m overlap ≡ None → job_of words ≡ None
no_job_found words m overlap found overlapped none =
    let same : options_of found.pieces ≡ None = sym (options-pieces words m overlap found overlapped) ∙ none in
    rw (found.are, found.complete, same) refl
