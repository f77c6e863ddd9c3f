use Rattle.std.proofs.Common.{◌≡◌, ◌∙◌, None, sym, arith, rules}
use Rattle.std.proofs.lemmas.Grind.{common_steps}
use Rattle.ops_jobs.specs.Words.{word_bytes}
use Rattle.ops_jobs.proofs.Limits.{job_within}
use Rattle.ops_words.proofs.Jobs.{job_found, no_job_found, options_found}
use Rattle.ops_words.proofs.reading.read_words.Goals as goal

pub returns-in-Some-job_by-clause-fits : goal.returns-in-Some-job_by-clause-fits
returns-in-Some-job_by-clause-fits c =
    job_found (word_bytes c.args.words.now) c.in_ok-matches.matches c.in-Some.options c.get_flag.result c.get_flag-2.result c.get_flag-3.result c.get_flag-4.result c.in_ok-names.names c.in_ok-matches.ensures.found
    (sym c.in-Some.ensures) (c.get_flag.ensures.value, c.get_flag.ensures.other) (c.get_flag-2.ensures.value, c.get_flag-2.ensures.other) (c.get_flag-3.ensures.value, c.get_flag-3.ensures.other) (c.get_flag-4.ensures.value, c.get_flag-4.ensures.other) c.in_ok-names.ensures
    ∙ sym c.in-Some-job_by.ensures

pub returns-in-Some-job_by-clause-limits : goal.returns-in-Some-job_by-clause-limits
returns-in-Some-job_by-clause-limits c =
    job_within (word_bytes c.args.words.now) c.in-Some-job_by.job
    (job_found (word_bytes c.args.words.now) c.in_ok-matches.matches c.in-Some.options c.get_flag.result c.get_flag-2.result c.get_flag-3.result c.get_flag-4.result c.in_ok-names.names c.in_ok-matches.ensures.found
    (sym c.in-Some.ensures) (c.get_flag.ensures.value, c.get_flag.ensures.other) (c.get_flag-2.ensures.value, c.get_flag-2.ensures.other) (c.get_flag-3.ensures.value, c.get_flag-3.ensures.other) (c.get_flag-4.ensures.value, c.get_flag-4.ensures.other) c.in_ok-names.ensures
    ∙ sym c.in-Some-job_by.ensures)

pub returns-clause-usage : goal.returns-clause-usage
returns-clause-usage c = λ same.
    job_found (word_bytes c.args.words.now) c.in_ok-matches.matches c.in-Some.options c.get_flag.result c.get_flag-2.result c.get_flag-3.result c.get_flag-4.result c.in_ok-names.names c.in_ok-matches.ensures.found
    (sym c.in-Some.ensures) (c.get_flag.ensures.value, c.get_flag.ensures.other) (c.get_flag-2.ensures.value, c.get_flag-2.ensures.other) (c.get_flag-3.ensures.value, c.get_flag-3.ensures.other) (c.get_flag-4.ensures.value, c.get_flag-4.ensures.other) c.in_ok-names.ensures
    ∙ sym c.in-None.ensures

pub returns-in_default-clause-usage : goal.returns-in_default-clause-usage
returns-in_default-clause-usage c = λ same.
    let none : options_found c.in_ok-matches.matches c.get_flag.result ≡ None = first_of (search rules, grind (arith, common_steps), grind (arith, common_steps, c.in_default.ensures, c.in_default.is)) in
    no_job_found (word_bytes c.args.words.now) c.in_ok-matches.matches c.get_flag.result c.in_ok-matches.ensures.found (c.get_flag.ensures.value, c.get_flag.ensures.other) none
