-- What a call of the program leaves, beside the bytes: what each answer tells of the words and of the outside.
use Rattle.std.specs.Prelude.{◌≡◌, ℕ, ◌+◌, ◌-◌, ◌≤◌, nat_lt, List, [], ◌∷◌, ◌++◌, length, take, slice_index_or, Bool, true, false, if◌then◌else◌, Option, Some, None, option_map, option_and_then, Result, Ok, Err, is_ok, ◌⊎◌}
use Rattle.std.specs.Io.KnownBytes.{prepend_known}
use Rattle.ops_io.specs.Coming.{Coming}
use Rattle.ops_meaning.specs.declared.statuses.Status.{Status}
use Rattle.ops_meaning.specs.declared.statuses.Status.TheVariants as status
use Rattle.ops_base.specs.declared.endings.Fault.TheVariants as fault
use Rattle.ops_grammar.specs.Reads.{Read, Placed, reads}
use Rattle.ops_meaning.specs.Running.{session_of}
use Rattle.ops_jobs.specs.CommandLine.{job_of}
use Rattle.ops_jobs.specs.declared.jobs.Job.{Job}
use Rattle.ops_jobs.specs.declared.jobs.Job.TheVariants.{Run, Net, Gen, Why}
use Rattle.ops_top.specs.Whole.{Gathered, Joined, gathered_for, files_of, setting_read}

-- It holds for the content that is known of a file, or for some content where none is known.
abbrev pub OfContent : Option (Option (List ℕ)) → (Option (List ℕ) → Type 0) → Type 0
OfContent (Some content) P = P content
OfContent None P = (content : Option (List ℕ)) × P content

-- It holds for contents of these files, in their order, each of which is the one that is known, or some content where
-- none is known.
abbrev pub OfContents : (List ℕ → Option (Option (List ℕ))) → List (List ℕ) → (List (Option (List ℕ)) → Type 0) → Type 0
OfContents told [] P = P []
OfContents told (name ∷ names) P = OfContent (told name) (λ content. OfContents told names (λ contents. P (content ∷ contents)))

-- Which load of a call failed, counted from 1: the last one, where the count of failures rose.
abbrev pub broken_load : (old new : List (List ℕ)) → (before now : ℕ) → Option ℕ
broken_load old new before now = if nat_lt before now then Some (length new - length old) else None

-- It holds for the input of a call: all that the source had left; or, where a read failed, the bytes that were taken
-- from it, after which it fails. Where the source does not tell its bytes it holds for some input, which fails where a
-- read did.
abbrev pub OfInput : Option (List ℕ) → Option (List ℕ) → Bool → (Coming → Type 0) → Type 0
OfInput None now failed P = (coming : Coming) × (coming.fails ≡ failed) × P coming
OfInput (Some left) now false P = P (record { bytes = left; fails = false })
OfInput (Some left) now true P = (taken : List ℕ) × (Some left ≡ prepend_known taken now) × P (record { bytes = taken; fails = true })

-- A write fault is answered exactly where a write failed, which is the last one of the call.
abbrev pub TellsFailedWrite : Status → ℕ → ℕ → Type 0
TellsFailedWrite status.WriteFault before now = now ≡ before + 1
TellsFailedWrite s before now = now ≡ before

-- A read fault is answered to a text only where a read of the input failed, and where one failed no other answer comes
-- but those of a write and of memory.
abbrev pub TellsFailedInput : Status → ℕ → ℕ → Type 0
TellsFailedInput status.ReadFault before now = now ≡ before + 1
TellsFailedInput status.WriteFault before now = (now ≡ before) ⊎ (now ≡ before + 1)
TellsFailedInput status.OutOfMemory before now = (now ≡ before) ⊎ (now ≡ before + 1)
TellsFailedInput s before now = now ≡ before

-- none of two counts is another than before, or one of them is one more
abbrev pub BothStay : (before now before2 now2 : ℕ) → Type 0
BothStay before now before2 now2 = (now ≡ before) × (now2 ≡ before2)

abbrev pub OneRises : (before now before2 now2 : ℕ) → Type 0
OneRises before now before2 now2 = ((now ≡ before + 1) × (now2 ≡ before2)) ⊎ ((now ≡ before) × (now2 ≡ before2 + 1))

-- A read fault is answered only where a load or a read of the input failed, and where one failed no other answer comes
-- but those of a write and of memory. The counts are those of the shelf and of the input.
abbrev pub TellsFailedRead : Status → (loads now reads now2 : ℕ) → Type 0
TellsFailedRead status.ReadFault loads now reads now2 = OneRises loads now reads now2
TellsFailedRead status.WriteFault loads now reads now2 = BothStay loads now reads now2 ⊎ OneRises loads now reads now2
TellsFailedRead status.OutOfMemory loads now reads now2 = BothStay loads now reads now2 ⊎ OneRises loads now reads now2
TellsFailedRead s loads now reads now2 = BothStay loads now reads now2

-- Usage is answered only where the words don't fit, and no other answer comes there but those of a write and of memory.
abbrev pub TellsWords : Status → Bool → Type 0
TellsWords status.Usage fit = fit ≡ false
TellsWords status.WriteFault fit = Unit {0}
TellsWords status.OutOfMemory fit = Unit {0}
TellsWords s fit = fit ≡ true

-- The text of all files was had. (A text that is too long is that of files which do not fit, of which the last ones may
-- not be asked for.)
abbrev pub has_text : Status → Bool
has_text status.Done = true
has_text (status.ActFault firing rule action kind) = true
has_text status.Limit = true
has_text (status.Refused fault.TooLong line column) = false
has_text (status.Refused f line column) = true
has_text _ = false

abbrev pub is_refused : Status → Bool
is_refused (status.Refused f line column) = true
is_refused _ = false

-- The first of these files were asked for, in their order, each once; all of them, where that is so.
pub record AskedFor (all : Bool) (files old new : List (List ℕ)) : Type 0 where
  pub loads : ℕ
  pub within : loads ≤ length files
  pub names : new ≡ old ++ take loads files
  pub all_of_them : all ≡ true → loads ≡ length files

-- The files that the words ask for were asked for where they fit, all where their text was had, and none was otherwise.
abbrev pub AskedForWords : Status → List (List ℕ) → Bool → List (List ℕ) → List (List ℕ) → Type 0
AskedForWords s words true old new = AskedFor (has_text s) (files_of words) old new
AskedForWords s words false old new = new ≡ old

-- the name that the last load was given
abbrev pub last_of : List (List ℕ) → List ℕ
last_of names = slice_index_or names (length names - 1) []

-- The program's session finishes, within its limit, over this input. A job that asks for its network always finishes.
abbrev pub program_runs_through : Job → Coming → List ℕ → Read → Bool
program_runs_through (Run options files) coming text p = is_ok (session_of (setting_read text p) options.limit p.commands p.names coming).outcome
program_runs_through (Why options files) coming text p = is_ok (session_of (setting_read text p) options.limit p.commands p.names coming).outcome
program_runs_through (Net files) coming text p = true
program_runs_through (Gen options seed size) coming text p = is_ok (session_of (setting_read text p) options.limit p.commands p.names coming).outcome

-- The text is such a program.
abbrev pub text_runs_through : Job → Coming → List ℕ → Result Read Placed → Bool
text_runs_through job coming text (Err p) = false
text_runs_through job coming text (Ok p) = program_runs_through job coming text p

-- So is what the text of a job comes to.
abbrev pub gathered_runs_through : Job → Coming → Gathered → Bool
gathered_runs_through job coming (Joined text) = text_runs_through job coming text (reads text)
gathered_runs_through job coming g = false

abbrev pub job_runs_over : Option Job → List (Option (List ℕ)) → List ℕ → Bool
job_runs_over None contents left = false
job_runs_over (Some job) contents left = gathered_runs_through job (record { bytes = left; fails = false }) (gathered_for job contents)

-- The words fit, and the files of these contents, or the workload, are a program whose session finishes, within its limit,
-- over an input of these bytes, or whose network is asked for.
abbrev pub runs_over : List (List ℕ) → List (Option (List ℕ)) → List ℕ → Bool
runs_over words contents left = job_runs_over (job_of words) contents left

-- the contents of these files, where those of all are known
abbrev pub all_told : (List ℕ → Option (Option (List ℕ))) → List (List ℕ) → Option (List (Option (List ℕ)))
all_told told [] = Some []
all_told told (name ∷ names) = option_and_then (λ content. option_map (λ contents. content ∷ contents) (all_told told names)) (told name)

-- The words fit, the files are there, and they are a program whose session finishes, within its limit, over the input that
-- is left, or whose network is asked for; if the source does not say that, over every input that ends.
abbrev pub RunsThrough : List (List ℕ) → Option (List (Option (List ℕ))) → Option (List ℕ) → Type 0
RunsThrough words (Some contents) (Some left) = runs_over words contents left ≡ true
RunsThrough words (Some contents) None = (left : List ℕ) → runs_over words contents left ≡ true
RunsThrough words None left = ⊥
