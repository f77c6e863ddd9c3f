-- What the program answers to its words and files.
use Rattle.std.specs.Prelude.{◌≡◌, ℕ, ◌-◌, List, [], ◌∷◌, ◌++◌, length, slice_set, Bool, true, false, ◌==◌, nat_le, if◌then◌else◌, Option, Some, None, is_some, option_map, unwrap_or, Result, Ok, Err}
use Rattle.ops_jobs.specs.CommandLine.{job_of}
use Rattle.ops_jobs.specs.declared.jobs.Engine.{Engine}
use Rattle.ops_jobs.specs.declared.jobs.Engine.TheVariants.{Direct, Serial, Rounds, Free, Steal}
use Rattle.ops_jobs.specs.declared.jobs.Job.{Job}
use Rattle.ops_jobs.specs.declared.jobs.Job.TheVariants.{Run, Net, Gen, Why}
use Rattle.ops_base.specs.declared.rules.Rule.{Rule}
use Rattle.ops_base.specs.ConflictSet.{conflict_set}
use Rattle.ops_base.specs.Valid.{longest_list}
use Rattle.ops_base.specs.declared.endings.Ending.{Ending}
use Rattle.ops_base.specs.declared.endings.Ending.TheVariants as ending
use Rattle.ops_base.specs.declared.endings.Fault.{Fault}
use Rattle.ops_base.specs.declared.endings.Fault.TheVariants as fault
use Rattle.ops_base.specs.Names.{Spellings}
use Rattle.ops_io.specs.Coming.{Coming}
use Rattle.ops_io.specs.Outside.{GrewBy, GrewByPrefix}
use Rattle.ops_io.specs.Output.{column_after}
use Rattle.ops_meaning.specs.declared.statuses.Status.{Status}
use Rattle.ops_meaning.specs.declared.statuses.Status.TheVariants as status
use Rattle.ops_meaning.specs.Effects.{Effect}
use Rattle.ops_jobs.specs.Usage.{usage_line}
use Rattle.ops_meaning.specs.Layout.{unread_line, last_line, line_at, fault_line}
use Rattle.ops_grammar.specs.Places.{line_of, column_of}
use Rattle.ops_grammar.specs.Reads.{Read, Placed, reads}
use Rattle.ops_meaning.specs.Acting.{Setting}
use Rattle.ops_meaning.specs.Running.{Find, Session, session_by, ending_of}
use Rattle.ops_meaning.specs.Kept.{FindsConflictSets}
use Rattle.net_base.specs.Counting.{shape_of}
use Rattle.ops_gen.specs.Workload.{workload}
use Rattle.ops_top.specs.NetLines.{net_lines}
use Rattle.ops_top.specs.Summary.{summary_line}
use Rattle.why_lines.specs.Explained.{explained_if}

-- the bytes that are written, and the status
pub record Reply : Type 0 where
  pub bytes : List ℕ
  pub status : Status

-- ---- words and files

abbrev pub words_fit : List (List ℕ) → Bool
words_fit words = is_some (job_of words)

abbrev pub files_in : Job → List (List ℕ)
files_in (Run options files) = files
files_in (Why options files) = files
files_in (Net files) = files
files_in (Gen options seed size) = []

abbrev pub is_run : Job → Bool
is_run (Run options files) = true
is_run (Why options files) = true
is_run (Net files) = false
is_run (Gen options seed size) = true

-- the words fit, and ask for a session
abbrev pub ask_for_run : List (List ℕ) → Bool
ask_for_run words = unwrap_or (option_map is_run (job_of words)) false

abbrev pub may_wait : Engine → Bool
may_wait Direct = false
may_wait Serial = false
may_wait Rounds = false
may_wait Free = true
may_wait Steal = true

-- a session over the engine of free workers, or over the stealing one
abbrev pub is_waiting_run : Job → Bool
is_waiting_run (Run options files) = may_wait options.engine
is_waiting_run (Why options files) = may_wait options.engine
is_waiting_run (Net files) = false
is_waiting_run (Gen options seed size) = may_wait options.engine

-- the words fit, and ask for such a session, whose workers wait for each other
abbrev pub ask_to_wait : List (List ℕ) → Bool
ask_to_wait words = unwrap_or (option_map is_waiting_run (job_of words)) false

-- the files that are asked for, in their order, where the words fit
abbrev pub files_of : List (List ℕ) → List (List ℕ)
files_of words = unwrap_or (option_map files_in (job_of words)) []

-- it ends in LF
abbrev pub ends_in_line : List ℕ → Bool
ends_in_line [] = true
ends_in_line (b ∷ []) = b == 10
ends_in_line (b ∷ c ∷ bs) = ends_in_line (c ∷ bs)

-- a file's bytes, with an LF after them where the last line lacks it
abbrev pub text_of : List ℕ → List ℕ
text_of bytes = if ends_in_line bytes then bytes else bytes ++ 10 ∷ []

-- ---- the answer to a text

abbrev pub refused_at : Fault → ℕ → ℕ → Reply
refused_at f line column = record { bytes = fault_line f line column; status = status.Refused f line column }

-- a text is refused at the line and column of its fault
abbrev pub refused : List ℕ → Placed → Reply
refused text p = refused_at p.fault (line_of text p.at) (column_of text p.at)

abbrev pub status_of : Ending → Status
status_of (ending.Done firings elements last_tag) = status.Done
status_of (ending.Act firing rule name action kind) = status.ActFault firing rule action kind
status_of (ending.Limit firings) = status.Limit
status_of ending.ReadFault = status.ReadFault
status_of ending.WriteFault = status.WriteFault
status_of ending.OutOfMemory = status.OutOfMemory

-- The line after a session: the one that tells its ending, or, where it came to its end and is to be summed up, its
-- summary.
abbrev pub closing : Bool → Spellings → ℕ → Ending → List ℕ
closing summed names column (ending.Done firings elements last_tag) =
    if summed then line_at column (summary_line firings elements last_tag) else []
closing summed names column e = last_line names column e

-- the bytes of a session, and the line after it, with the names of the program
abbrev pub told : Bool → Spellings → Effect Ending Session → Reply
told summed names e =
    record {
      bytes = e.bytes ++ closing summed names (column_after 0 e.bytes) (ending_of e.outcome);
      status = status_of (ending_of e.outcome);
    }

-- what a session stands in at its start, where the text is read as this
abbrev pub setting_read : List ℕ → Read → Setting
setting_read text p = record { classes = p.classes; rules = p.rules; templates = p.templates; text = text; watch = 0 }

-- how large the network of these rules is
abbrev pub net_told : List Rule → Reply
net_told rules = record { bytes = net_lines (shape_of rules); status = status.Done }

-- what the session of a program tells, with at most this many firings, and with explanations where they are asked for
abbrev pub session_told : Find → (explained summed : Bool) → ℕ → Coming → List ℕ → Read → Reply
session_told find explained summed limit coming text p =
    told summed p.names (explained_if explained p.classes (session_by find (setting_read text p) limit p.commands p.names coming))

-- The answer to a program: its session, or its network. The session of a workload is summed up. Where explanations are
-- asked for, a session that came to its end is followed by the lines of `why_lines`, over the productions in force and
-- working memory at that end.
abbrev pub answer_program_by : Find → Job → Coming → List ℕ → Read → Reply
answer_program_by find (Run options files) coming text p = session_told find false false options.limit coming text p
answer_program_by find (Why options files) coming text p = session_told find true false options.limit coming text p
answer_program_by find (Net files) coming text p = net_told p.rules
answer_program_by find (Gen options seed size) coming text p = session_told find false true options.limit coming text p

abbrev pub answer_read_by : Find → Job → Coming → List ℕ → Result Read Placed → Reply
answer_read_by find job coming text (Err p) = refused text p
answer_read_by find job coming text (Ok p) = answer_program_by find job coming text p

abbrev pub answer_to_by : Find → Job → Coming → List ℕ → Reply
answer_to_by find job coming text = answer_read_by find job coming text (reads text)

-- ---- the files

-- what the files of a program come to: one text, the name of a file that can't be read, or more than a text may have
pub data Gathered : Type 0 where
  Joined : (text : List ℕ) → Gathered
  Unread : (name : List ℕ) → Gathered
  Overlong : Gathered

-- one file more, where it fits
abbrev pub joined : List ℕ → List ℕ → (List ℕ → Gathered) → Gathered
joined sofar bytes rest = let text = sofar ++ text_of bytes in if nat_le (length text) longest_list then rest text else Overlong

-- The files of these names are taken in their order, after this text. The contents are those of the files, none where
-- one can't be read.
abbrev pub gathered : List ℕ → List (List ℕ) → List (Option (List ℕ)) → Gathered
gathered sofar [] contents = Joined sofar
gathered sofar (name ∷ names) (Some bytes ∷ contents) = joined sofar bytes (λ text. gathered text names contents)
gathered sofar (name ∷ names) contents = Unread name

-- what the text of a job comes to: that of its files, with these contents, or that of a workload
abbrev pub gathered_for : Job → List (Option (List ℕ)) → Gathered
gathered_for (Run options files) contents = gathered [] files contents
gathered_for (Why options files) contents = gathered [] files contents
gathered_for (Net files) contents = gathered [] files contents
gathered_for (Gen options seed size) contents = Joined (workload seed size)

-- the contents, where the load with this number failed, counted from 1: its file can't be read
abbrev pub readable : List (Option (List ℕ)) → Option ℕ → List (Option (List ℕ))
readable contents None = contents
readable contents (Some n) = slice_set contents (n - 1) None

-- ---- the whole

abbrev pub unread : List ℕ → Reply
unread name = record { bytes = unread_line name; status = status.ReadFault }

abbrev pub usage : Reply
usage = record { bytes = usage_line; status = status.Usage }

abbrev pub answer_gathered_by : Find → Job → Coming → Gathered → Reply
answer_gathered_by find job coming (Joined text) = answer_to_by find job coming text
answer_gathered_by find job coming (Unread name) = unread name
answer_gathered_by find job coming Overlong = refused_at fault.TooLong 1 1

abbrev pub whole_job_by : Find → Option Job → List (Option (List ℕ)) → Option ℕ → Coming → Reply
whole_job_by find None contents broken coming = usage
whole_job_by find (Some job) contents broken coming = answer_gathered_by find job coming (gathered_for job (readable contents broken))

-- The words are those of the command line, the contents those of the files that they ask for, in their order, none
-- where one is not there; `broken` tells which load failed, counted from 1, if one did; and this input is to come.
abbrev pub whole_by : Find → List (List ℕ) → List (Option (List ℕ)) → Option ℕ → Coming → Reply
whole_by find words contents broken coming = whole_job_by find (job_of words) contents broken coming

-- ---- the same, by the conflict sets

abbrev pub answer_read : Job → Coming → List ℕ → Result Read Placed → Reply
answer_read job coming text r = answer_read_by conflict_set job coming text r

abbrev pub answer_to : Job → Coming → List ℕ → Reply
answer_to job coming text = answer_to_by conflict_set job coming text

abbrev pub answer_gathered : Job → Coming → Gathered → Reply
answer_gathered job coming g = answer_gathered_by conflict_set job coming g

abbrev pub whole_job : Option Job → List (Option (List ℕ)) → Option ℕ → Coming → Reply
whole_job job contents broken coming = whole_job_by conflict_set job contents broken coming

abbrev pub whole : List (List ℕ) → List (Option (List ℕ)) → Option ℕ → Coming → Reply
whole words contents broken coming = whole_by conflict_set words contents broken coming

-- The whole is the same whatever finds the instantiations, where it finds the conflict set of each working memory: all
-- instantiations of the rules, each once.
abbrev pub GoesByConflictSetsAlone : List (List ℕ) → Type 0
GoesByConflictSetsAlone words =
    (find : Find) → ((rules : List Rule) → FindsConflictSets rules (find rules)) → (contents : List (Option (List ℕ))) (broken : Option ℕ) (coming : Coming) → whole words contents broken coming ≡ whole_by find words contents broken coming

-- ---- what a call leaves

-- All bytes went out, with their status; or the output refused or memory ran out, and a prefix of them went out.
abbrev pub Answers : Status → Reply → Option (List ℕ) → Option (List ℕ) → Type 0
Answers status.OutOfMemory o old new = GrewByPrefix old new o.bytes
Answers status.WriteFault o old new = GrewByPrefix old new o.bytes
Answers s o old new = (s ≡ o.status) × GrewBy old new o.bytes
