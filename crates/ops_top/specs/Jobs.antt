-- The program of a job, why a job has none, and what a call that runs a job leaves.
use Rattle.std.specs.Prelude.{◌≡◌, ℕ, ◌+◌, ◌<◌, List, [], Bool, true, false, nat_lt, Option, Some, None, is_some, option_map, unwrap_or, Result, Ok, Err}
use Rattle.std.specs.Io.KnownBytes.{prepend_known}
use Rattle.ops_base.specs.declared.endings.Fault.TheVariants as fault
use Rattle.ops_check.specs.declared.faults.ProgramFault.TheVariants as refusal
use Rattle.ops_io.specs.declared.stop.Stop.{Stop}
use Rattle.ops_jobs.specs.declared.jobs.Job.{Job}
use Rattle.ops_jobs.specs.declared.jobs.Job.TheVariants.{Run, Net, Gen, Why}
use Rattle.ops_meaning.specs.declared.statuses.Status.{Status}
use Rattle.ops_top.specs.Whole.{Reply, files_in, gathered_for, is_run, readable, refused_at, unread, whole_job}
use Rattle.ops_top.specs.Quiet.{gathered_asks}
use Rattle.ops_top.specs.Calls.{OfContents, OfInput, AskedFor, TellsFailedRead, broken_load, has_text, is_refused, last_of}
use Rattle.ops_top.specs.Told.{Delivers, status_after}
use Rattle.ops_top.specs.Answered.{Devices}
use Rattle.ops_top.specs.declared.engines.Plan.{Plan}
use Rattle.ops_top.specs.declared.files.FilesFault.TheVariants as unfit
use Rattle.ops_top.specs.declared.jobs.NoProgram.{NoProgram}
use Rattle.ops_top.specs.declared.jobs.NoProgram.TheVariants.{Files, Text}

-- ---- a job that has no program

-- this is answered to a job that has no program, memory aside
abbrev pub IsReplyTo : NoProgram → Reply → Type 0
IsReplyTo (Files (unfit.Unread of)) o = o ≡ unread of.now
IsReplyTo (Files unfit.TooLong) o = o ≡ refused_at fault.TooLong 1 1
IsReplyTo (Files unfit.OutOfMemory) o = Unit {0}
IsReplyTo (Text (refusal.At f line column)) o = o ≡ refused_at f line column
IsReplyTo (Text refusal.OutOfMemory) o = Unit {0}

-- the text of the job was had, and is no program
abbrev pub is_of_text : NoProgram → Bool
is_of_text (Files f) = false
is_of_text (Text e) = true

-- the text of the job was had
abbrev pub had_text : {T : Type 0} → Result T NoProgram → Bool
had_text (Ok x) = true
had_text (Err why) = is_of_text why

-- a load failed where a file can't be read
abbrev pub CountsFailed : NoProgram → ℕ → ℕ → Type 0
CountsFailed (Files (unfit.Unread of)) before now = now ≡ before + 1
CountsFailed why before now = now ≡ before

-- The count of failures rises exactly where a file can't be read.
abbrev pub CountsLoads : {T : Type 0} → Result T NoProgram → ℕ → ℕ → Type 0
CountsLoads (Ok x) before now = now ≡ before
CountsLoads (Err why) before now = CountsFailed why before now

-- the file that can't be read is that of the last load
abbrev pub IsOfLastLoad : NoProgram → List (List ℕ) → Type 0
IsOfLastLoad (Files (unfit.Unread of)) names = of.now ≡ last_of names
IsOfLastLoad why names = Unit {0}

-- ---- a job that is run

-- so is the session of a job run: with its options, explained where that is asked for, and summed up where it is a
-- workload
abbrev pub IsPlanOf : Job → Plan → Type 0
IsPlanOf (Run options files) plan = (plan.options ≡ options) × (plan.is_explained ≡ false) × (plan.is_summed ≡ false)
IsPlanOf (Why options files) plan = (plan.options ≡ options) × (plan.is_explained ≡ true) × (plan.is_summed ≡ false)
IsPlanOf (Net files) plan = ⊥
IsPlanOf (Gen options seed size) plan = (plan.options ≡ options) × (plan.is_explained ≡ false) × (plan.is_summed ≡ true)

-- The names that a shelf was asked for, and how many of its loads failed.
pub record Shelved : Type 0 where
  pub names : List (List ℕ)
  pub faults : ℕ

abbrev pub shelved : (names : List (List ℕ)) (faults : ℕ) → Shelved
shelved names faults = record { names = names; faults = faults }

-- The files of the job were asked for, all where their text was had; none, where the words ask for no job.
abbrev pub AskedForJob : Status → Option Job → List (List ℕ) → List (List ℕ) → Type 0
AskedForJob s (Some job) old new = AskedFor (has_text s) (files_in job) old new
AskedForJob s None old new = new ≡ old

abbrev pub files_asked : Option Job → List (List ℕ)
files_asked asked = unwrap_or (option_map files_in asked) []

-- an `accept` stands in the program of the job, where the files have these contents and the load of this number failed
abbrev pub job_asks : Option Job → List (Option (List ℕ)) → Option ℕ → Bool
job_asks asked contents broken = unwrap_or (option_map (λ job. gathered_asks (gathered_for job (readable contents broken))) asked) false

-- What a call leaves that answers a job, or words that ask for none: the whole was delivered, or the call gave up, and
-- the input is untouched where that holds.
pub record IsRun (asked : Option Job) (r : Result Status Stop) (told : List ℕ → Option (Option (List ℕ))) (Untouched : Type 0) (old new : Shelved) (before now : Devices) : Type 0 where
  pub quiet : OfContents told (files_asked asked) (λ contents.
      OfInput before.left now.left (nat_lt before.reads now.reads) (λ coming.
      Delivers r (whole_job asked contents (broken_load old.names new.names old.faults new.faults) coming) before.taken before.writes now.taken now.writes)
      × (job_asks asked contents (broken_load old.names new.names old.faults new.faults) ≡ false → Untouched))
  pub unread : old.faults < new.faults → Delivers r (unread (last_of new.names)) before.taken before.writes now.taken now.writes
  pub reads : TellsFailedRead (status_after r) old.faults new.faults before.reads now.reads
  pub input : (got : List ℕ) × (before.left ≡ prepend_known got now.left)
  pub untouched : unwrap_or (option_map is_run asked) false ≡ false → Untouched
  pub refused : is_refused (status_after r) ≡ true → Untouched
  pub unloaded : old.faults < new.faults → Untouched
  pub names : AskedForJob (status_after r) asked old.names new.names
  pub unasked : is_some asked ≡ false → new.faults ≡ old.faults
