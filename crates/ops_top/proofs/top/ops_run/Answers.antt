use Rattle.std.proofs.Common.{◌≡◌, Err, refl, ap}
use Rattle.ops_jobs.specs.CommandLine.{job_of}
use Rattle.ops_jobs.specs.Words.{word_bytes}
use Rattle.ops_top.specs.Jobs.{shelved}
use Rattle.ops_top.proofs.Called.{called}
use Rattle.ops_top.proofs.Runs.{words_run, unfit_run}
use Rattle.ops_top.proofs.WholeGoes.{whole_goes}
use Rattle.ops_top.proofs.top.ops_run.Goals as goal

pub returns-in-Ok : goal.returns-in-Ok
returns-in-Ok g c =
    let ws = word_bytes c.args.words.now in
    let run = words_run (job_of ws) c.in-Ok.job c.run_job-answered.result (g.H.Shelf.told c.args.shelf.now) _ _ _ _ _ c.in-Ok.ensures.fits c.run_job-answered.ensures.runs in
    let p = called ws c.run_job-answered.result _ _ _ _ _ _ run c.status_after.result c.status_after.ensures in
    record {
      answers = p.answers;
      sets = whole_goes ws;
      write = p.write;
      reads = p.reads;
      unread = p.unread;
      words = p.words;
      usage = p.usage;
      names = p.names;
      unasked = p.unasked;
      told = c.run_job-answered.ensures.told;
      input = p.input;
      quiet = p.quiet;
      untouched = p.untouched;
      refused = p.refused;
      unloaded = p.unloaded;
      complete = p.complete;
    }

pub returns-in-Err : goal.returns-in-Err
returns-in-Err g c =
    let ws = word_bytes c.args.words.now in
    let run =
    unfit_run (job_of ws) c.say_unfit.result (g.H.Shelf.told c.args.shelf.now) (c.args.input.now ≡ c.args.input.now) (shelved (g.H.Shelf.names c.args.shelf.now) (g.H.Shelf.faults c.args.shelf.now)) (g.I.Source.left c.args.input.now) _ _
    (g.I.Source.faults c.args.input.now) _ _ c.in-Err.fault (λ is. c.in-Err.ensures.usage (ap Err is)) c.say_unfit.ensures.delivers refl in
    let p = called ws c.say_unfit.result _ _ _ _ _ _ run c.status_after-in-Err.result c.status_after-in-Err.ensures in
    record {
      answers = p.answers;
      sets = whole_goes ws;
      write = p.write;
      reads = p.reads;
      unread = p.unread;
      words = p.words;
      usage = p.usage;
      names = p.names;
      unasked = p.unasked;
      told = λ n. refl;
      input = p.input;
      quiet = p.quiet;
      untouched = p.untouched;
      refused = p.refused;
      unloaded = p.unloaded;
      complete = p.complete;
    }
