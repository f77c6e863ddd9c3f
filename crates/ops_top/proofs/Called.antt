-- What a call tells of its words, by what it leaves that answers their job.
use Rattle.std.proofs.Common.{◌≡◌, ℕ, ◌<◌, List, [], Bool, true, false, nat_lt, Option, Some, None, is_some, option_map, unwrap_or, Result, sym, subst, ◌⊎◌}
use Rattle.std.specs.Io.KnownBytes.{prepend_known}
use Rattle.ops_io.specs.declared.stop.Stop.{Stop}
use Rattle.ops_jobs.specs.CommandLine.{job_of}
use Rattle.ops_jobs.specs.declared.jobs.Job.{Job}
use Rattle.ops_meaning.specs.declared.statuses.Status.{Status}
use Rattle.ops_meaning.specs.declared.statuses.Status.TheVariants as status
use Rattle.ops_top.specs.Whole.{Answers, ask_for_run, files_in, files_of, unread, usage, whole, words_fit}
use Rattle.ops_top.specs.Quiet.{words_ask}
use Rattle.ops_top.specs.Calls.{OfContents, OfInput, AskedFor, AskedForWords, RunsThrough, TellsFailedRead, TellsFailedWrite, TellsWords, all_told, broken_load, has_text, is_refused, last_of}
use Rattle.ops_top.specs.Told.{status_after}
use Rattle.ops_top.specs.Answered.{Devices}
use Rattle.ops_top.specs.Jobs.{AskedForJob, IsRun, Shelved}
use Rattle.ops_top.proofs.Answering.{DeliversWhole, delivered_answers, whole_answers, whole_answers_quietly, whole_tells_write, whole_fits_words, unfit_answers, runs_to_end}
use Rattle.ops_top.proofs.Contents.{contents_map}
use Rattle.ops_top.proofs.Loads.{none_broken}

-- the clauses of a top call
pub record IsCalled (ws : List (List ℕ)) (s : Status) (told : List ℕ → Option (Option (List ℕ))) (Untouched : Type 0) (old new : Shelved) (before now : Devices) : Type 0 where
  pub answers : OfContents told (files_of ws) (λ contents. OfInput before.left now.left (nat_lt before.reads now.reads) (λ coming.
      Answers s (whole ws contents (broken_load old.names new.names old.faults new.faults) coming) before.taken now.taken))
  pub write : TellsFailedWrite s before.writes now.writes
  pub reads : TellsFailedRead s old.faults new.faults before.reads now.reads
  pub unread : old.faults < new.faults → Answers s (unread (last_of new.names)) before.taken now.taken
  pub words : TellsWords s (words_fit ws)
  pub usage : words_fit ws ≡ false → Answers s usage before.taken now.taken
  pub names : AskedForWords s ws (words_fit ws) old.names new.names
  pub unasked : words_fit ws ≡ false → new.faults ≡ old.faults
  pub input : (got : List ℕ) × (before.left ≡ prepend_known got now.left)
  pub quiet : OfContents told (files_of ws) (λ contents. OfInput before.left now.left (nat_lt before.reads now.reads) (λ coming.
      Answers s (whole ws contents (broken_load old.names new.names old.faults new.faults) coming) before.taken now.taken)
      × (words_ask ws contents (broken_load old.names new.names old.faults new.faults) ≡ false → Untouched))
  pub untouched : ask_for_run ws ≡ false → Untouched
  pub refused : is_refused s ≡ true → Untouched
  pub unloaded : old.faults < new.faults → Untouched
  pub complete : RunsThrough ws (all_told told (files_of ws)) before.left → new.faults ≡ old.faults → now.reads ≡ before.reads → now.writes ≡ before.writes
      → (s ≡ status.Done) ⊎ (s ≡ status.OutOfMemory)

-- the files were asked for where the words fit, and none was otherwise
abbrev AskedWhere : Status → List (List ℕ) → Bool → List (List ℕ) → List (List ℕ) → Type 0
AskedWhere s files true old new = AskedFor (has_text s) files old new
AskedWhere s files false old new = new ≡ old

asked_by_job : (s : Status) (asked : Option Job) (old new : List (List ℕ)) → AskedForJob s asked old new → AskedWhere s (unwrap_or (option_map files_in asked) []) (is_some asked) old new
asked_by_job s (Some job) old new p = p
asked_by_job s None old new p = p

asked_by_words : (s : Status) (ws : List (List ℕ)) (fit : Bool) (old new : List (List ℕ)) → AskedWhere s (files_of ws) fit old new → AskedForWords s ws fit old new
asked_by_words s ws true old new p = p
asked_by_words s ws false old new p = p

module _ (ws : List (List ℕ)) (r : Result Status Stop) (told : List ℕ → Option (Option (List ℕ))) (Untouched : Type 0) (old new : Shelved) (before now : Devices) (run : IsRun (job_of ws) r told Untouched old new before now) where
  abbrev broken : Option ℕ
  broken = broken_load old.names new.names old.faults new.faults

  abbrev failed : Bool
  failed = nat_lt before.reads now.reads

  delivers : DeliversWhole r ws told broken before.left now.left failed before.taken now.taken before.writes now.writes
  delivers = contents_map told (files_of ws) _ _ (λ contents p. p.0) run.quiet

  called_after : IsCalled ws (status_after r) told Untouched old new before now
  called_after =
      let answers = whole_answers r ws told broken before.left now.left failed before.taken now.taken before.writes now.writes delivers in
      let write = whole_tells_write r ws told broken before.left now.left failed before.taken now.taken before.writes now.writes delivers in
      record {
        answers = answers;
        write = write;
        reads = run.reads;
        unread = λ rose. delivered_answers r (unread (last_of new.names)) before.taken now.taken before.writes now.writes (run.unread rose);
        words = whole_fits_words r ws told broken before.left now.left failed before.taken now.taken before.writes now.writes delivers;
        usage = unfit_answers r ws told broken before.left now.left failed before.taken now.taken before.writes now.writes delivers;
        names = asked_by_words (status_after r) ws (words_fit ws) old.names new.names (asked_by_job (status_after r) (job_of ws) old.names new.names run.names);
        unasked = run.unasked;
        input = run.input;
        quiet = whole_answers_quietly r ws told broken before.left now.left failed before.taken now.taken before.writes now.writes Untouched (λ contents. words_ask ws contents broken) run.quiet;
        untouched = run.untouched;
        refused = run.refused;
        unloaded = run.unloaded;
        complete = λ through same inputs sinks. runs_to_end (status_after r) ws before.taken now.taken before.writes now.writes write sinks told broken before.left now.left before.reads now.reads (none_broken _ _ _ _ same) inputs answers through;
      }

  -- the clauses hold of the status that is answered
  pub called : (s : Status) → s ≡ status_after r → IsCalled ws s told Untouched old new before now
  called s is = let P : Status → Type 0 = λ s. IsCalled ws s told Untouched old new before now in subst P (sym is) called_after
