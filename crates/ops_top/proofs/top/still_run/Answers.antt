use Rattle.std.proofs.Common.{◌≡◌, Err, refl, sym, ap, ◌∙◌}
use Rattle.ops_jobs.specs.CommandLine.{job_of}
use Rattle.ops_jobs.specs.Words.{word_bytes}
use Rattle.ops_top.specs.Jobs.{shelved}
use Rattle.ops_top.proofs.Called.{called}
use Rattle.ops_top.proofs.Runs.{words_run, unfit_run, job_waits, unfit_waits}
use Rattle.ops_top.proofs.WholeGoes.{whole_goes}
use Rattle.ops_top.proofs.top.still_run.Goals as goal

pub returns-else-asks_to_wait : goal.returns-else-asks_to_wait
returns-else-asks_to_wait g c =
    let ws = word_bytes c.args.words.now in
    let run = words_run (job_of ws) c.in-Ok.job c.run_still-outcome.result (g.H.Shelf.told c.args.shelf.now) _ _ _ _ _ c.in-Ok.ensures.fits c.run_still-outcome.ensures.runs in
    let p = called ws c.run_still-outcome.result _ _ _ _ _ _ run c.status_after.result c.status_after.ensures in
    record {
      none = λ is. absurd (cc);
      some = λ waits. job_waits (job_of ws) c.in-Ok.job _ c.in-Ok.ensures.fits (sym c.asks_to_wait.ensures ∙ c.if-asks_to_wait.false) waits;
      nothing = λ is. absurd (cc);
      answers = p.answers;
      sets = whole_goes ws;
      write = p.write;
      reads = p.reads;
      unread = p.unread;
      words = p.words;
      usage = p.usage;
      names = p.names;
      unasked = p.unasked;
      told = c.run_still-outcome.ensures.told;
      input = p.input;
      quiet = p.quiet;
      untouched = p.untouched;
      refused = p.refused;
      unloaded = p.unloaded;
      complete = p.complete;
    }

pub returns-then-asks_to_wait-clause-sets : goal.returns-then-asks_to_wait-clause-sets
returns-then-asks_to_wait-clause-sets g c = whole_goes (word_bytes c.args.words.now)

pub returns-in-Err : goal.returns-in-Err
returns-in-Err g c =
    let ws = word_bytes c.args.words.now in
    let run =
    unfit_run (job_of ws) c.say_unfit.result (g.H.Shelf.told c.args.shelf.now) (c.args.input.now ≡ c.args.input.now) (shelved (g.H.Shelf.names c.args.shelf.now) (g.H.Shelf.faults c.args.shelf.now)) (g.I.Source.left c.args.input.now) _ _
    (g.I.Source.faults c.args.input.now) _ _ c.in-Err.fault (λ is. c.in-Err.ensures.usage (ap Err is)) c.say_unfit.ensures.delivers refl in
    let p = called ws c.say_unfit.result _ _ _ _ _ _ run c.status_after-in-Err.result c.status_after-in-Err.ensures in
    record {
      none = λ is. absurd (cc);
      some = λ waits. c.status_after-in-Err.ensures ∙ unfit_waits (job_of ws) c.say_unfit.result c.in-Err.fault (λ is. c.in-Err.ensures.usage (ap Err is)) c.say_unfit.ensures.short waits;
      nothing = λ is. absurd (cc);
      answers = p.answers;
      sets = whole_goes ws;
      write = p.write;
      reads = p.reads;
      unread = p.unread;
      words = p.words;
      usage = p.usage;
      names = p.names;
      unasked = p.unasked;
      told = λ n. refl;
      input = p.input;
      quiet = p.quiet;
      untouched = p.untouched;
      refused = p.refused;
      unloaded = p.unloaded;
      complete = p.complete;
    }
