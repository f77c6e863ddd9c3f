-- The statuses that a text can be answered with: its session asks no device but the input, and wants no memory.
use Rattle.std.proofs.Common.{◌≡◌, ℕ, List, true, false, Result, Ok, Err, Bool, MatchResult, sym, subst}
use Rattle.ops_base.specs.ConflictSet.{conflict_set}
use Rattle.ops_base.specs.declared.endings.Ending.{Ending}
use Rattle.ops_base.specs.declared.endings.Ending.TheVariants as ending
use Rattle.ops_io.specs.Coming.{Coming}
use Rattle.ops_jobs.specs.declared.jobs.Job.{Job}
use Rattle.ops_jobs.specs.declared.jobs.Job.TheVariants.{Run, Net, Gen, Why}
use Rattle.ops_meaning.specs.declared.statuses.Status.{Status}
use Rattle.ops_meaning.specs.declared.statuses.Status.TheVariants as status
use Rattle.ops_grammar.specs.Reads.{Read, Placed, reads}
use Rattle.ops_meaning.specs.Running.{Session, session_of, ending_of}
use Rattle.ops_meaning.proofs.RisingTags.{KeptSession, EndsSession, session_goes_on}
use Rattle.why_lines.proofs.Explained.{explained_ends}
use Rattle.ops_top.specs.Whole.{status_of, answer_program_by, answer_read, answer_to, session_told, setting_read}

-- a status that the text decides with its input: a read fault comes only where that fails
abbrev pub IsOfText : Bool → Status → Type 0
IsOfText fails status.Done = Unit {0}
IsOfText fails (status.Refused f line column) = Unit {0}
IsOfText fails status.Usage = ⊥
IsOfText fails (status.ActFault f r n k) = Unit {0}
IsOfText fails status.Limit = Unit {0}
IsOfText fails status.ReadFault = fails ≡ true
IsOfText fails status.WriteFault = ⊥
IsOfText fails status.OutOfMemory = ⊥

ended_of_text : (kept : Session → Type 0) (fails : Bool) (o : Result Session Ending) → MatchResult o kept (EndsSession fails) → IsOfText fails (status_of (ending_of o))
ended_of_text kept fails (Ok k) p = tt
ended_of_text kept fails (Err (ending.Done f n t)) p = tt
ended_of_text kept fails (Err (ending.Act f r name n k)) p = tt
ended_of_text kept fails (Err (ending.Limit f)) p = tt
ended_of_text kept fails (Err ending.ReadFault) p = p
ended_of_text kept fails (Err ending.WriteFault) p = absurd p
ended_of_text kept fails (Err ending.OutOfMemory) p = absurd p

session_of_text : (explained summed : Bool) (limit : ℕ) (coming : Coming) (text : List ℕ) (p : Read) → IsOfText coming.fails (session_told conflict_set explained summed limit coming text p).status
session_of_text explained summed limit coming text p =
    let P : Result Session Ending → Type 0 = λ o. IsOfText coming.fails (status_of (ending_of o)) in
    subst P (sym (explained_ends explained p.classes (session_of (setting_read text p) limit p.commands p.names coming)))
    (ended_of_text (KeptSession p.names coming.fails) coming.fails
    (session_of (setting_read text p) limit p.commands p.names coming).outcome (session_goes_on (setting_read text p) limit p.commands p.names coming))

program_of_text : (job : Job) (coming : Coming) (text : List ℕ) (p : Read) → IsOfText coming.fails (answer_program_by conflict_set job coming text p).status
program_of_text (Run options files) coming text p = session_of_text false false options.limit coming text p
program_of_text (Why options files) coming text p = session_of_text true false options.limit coming text p
program_of_text (Net files) coming text p = tt
program_of_text (Gen options seed size) coming text p = session_of_text false true options.limit coming text p

answer_read_of_text : (job : Job) (coming : Coming) (text : List ℕ) (r : Result Read Placed) → IsOfText coming.fails (answer_read job coming text r).status
answer_read_of_text job coming text (Err p) = tt
answer_read_of_text job coming text (Ok p) = program_of_text job coming text p

-- the status of a text
pub answer_to_of_text : (job : Job) (coming : Coming) (text : List ℕ) → IsOfText coming.fails (answer_to job coming text).status
answer_to_of_text job coming text = answer_read_of_text job coming text (reads text)
