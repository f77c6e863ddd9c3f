-- The whole is the same whatever finds the conflict sets.
use Rattle.std.proofs.Common.{◌≡◌, ℕ, List, Bool, true, false, Option, Some, None, Result, Ok, Err, refl, ap}
use Rattle.ops_base.specs.ConflictSet.{conflict_set}
use Rattle.ops_base.specs.declared.rules.Rule.{Rule}
use Rattle.ops_io.specs.Coming.{Coming}
use Rattle.ops_jobs.specs.CommandLine.{job_of}
use Rattle.ops_jobs.specs.declared.jobs.Job.{Job}
use Rattle.ops_jobs.specs.declared.jobs.Job.TheVariants.{Run, Net, Gen, Why}
use Rattle.ops_meaning.specs.Kept.{FindsConflictSets}
use Rattle.ops_base.specs.declared.endings.Ending.{Ending}
use Rattle.ops_meaning.specs.Effects.{Effect}
use Rattle.ops_meaning.specs.Running.{Find, Session}
use Rattle.why_lines.specs.Explained.{explained_if}
use Rattle.ops_grammar.specs.Reads.{Read, Placed, reads}
use Rattle.ops_meaning.proofs.RisingTags.{session_goes}
use Rattle.ops_top.specs.Whole.{Gathered, Joined, Unread, Overlong, gathered_for, readable, answer_program_by, answer_read, answer_read_by, answer_gathered, answer_gathered_by, whole_job, whole_job_by, session_told, told, setting_read, GoesByConflictSetsAlone}

module _ (find : Find) (finds : (rules : List Rule) → FindsConflictSets rules (find rules)) (coming : Coming) where
  session_is : (explained summed : Bool) (limit : ℕ) (text : List ℕ) (p : Read) → session_told conflict_set explained summed limit coming text p ≡ session_told find explained summed limit coming text p
  session_is explained summed limit text p =
      ap (λ (e : Effect Ending Session). told summed p.names (explained_if explained p.classes e)) (session_goes (setting_read text p) limit p.commands p.names find finds coming)

  program_is : (job : Job) (text : List ℕ) (p : Read) → answer_program_by conflict_set job coming text p ≡ answer_program_by find job coming text p
  program_is (Run options files) text p = session_is false false options.limit text p
  program_is (Why options files) text p = session_is true false options.limit text p
  program_is (Net files) text p = refl
  program_is (Gen options seed size) text p = session_is false true options.limit text p

  answer_is : (job : Job) (text : List ℕ) (r : Result Read Placed) → answer_read job coming text r ≡ answer_read_by find job coming text r
  answer_is job text (Err p) = refl
  answer_is job text (Ok p) = program_is job text p

  gathered_is : (job : Job) (g : Gathered) → answer_gathered job coming g ≡ answer_gathered_by find job coming g
  gathered_is job (Joined text) = answer_is job text (reads text)
  gathered_is job (Unread name) = refl
  gathered_is job Overlong = refl

  job_is : (job : Option Job) (contents : List (Option (List ℕ))) (broken : Option ℕ) → whole_job job contents broken coming ≡ whole_job_by find job contents broken coming
  job_is None contents broken = refl
  job_is (Some job) contents broken = gathered_is job (gathered_for job (readable contents broken))

-- the whole goes by the conflict sets alone
pub whole_goes : (words : List (List ℕ)) → GoesByConflictSetsAlone words
whole_goes words find finds contents broken coming = job_is find finds coming (job_of words) contents broken
