use Rattle.std.proofs.Common.{refl}
use Rattle.ops_base.specs.ConflictSet.{conflict_set}
use Rattle.ops_grammar.specs.Reads.{Read}
use Rattle.ops_top.specs.Whole.{net_told, session_told}
use Rattle.ops_top.proofs.Answered.{answered_alone}
use Rattle.ops_top.proofs.Runs.{plan_replies, plan_runs, net_replies, program_run, unprogrammed_run}
use Rattle.ops_top.proofs.jobs.run_job.Goals as goal

pub returns-in-Some-clause-runs : goal.returns-in-Some-clause-runs
returns-in-Some-clause-runs g c =
    let text = c.in-Ok.program.text in
    let read : Read = record { classes = c.in-Ok.program.classes; rules = c.in-Ok.program.rules; templates = c.in-Ok.program.templates; commands = c.in-Ok.program.commands; names = c.in-Ok.names } in
    let plan = c.in-Some.plan in
    program_run c.args.job.now c.answer_program.result _ _ _ _ _ _ text read (λ z. session_told conflict_set plan.is_explained plan.is_summed plan.options.limit z text read) c.in-Ok.ensures.text c.in-Ok.ensures.read
    (λ z. plan_replies c.args.job.now plan c.in-Some.ensures.plan z text read) (plan_runs c.args.job.now plan _ c.in-Some.ensures.plan) c.in-Ok.ensures.cause c.in-Ok.ensures.names c.answer_program.ensures

pub returns-in-None-clause-runs : goal.returns-in-None-clause-runs
returns-in-None-clause-runs g c =
    let text = c.in-Ok.program.text in
    let read : Read = record { classes = c.in-Ok.program.classes; rules = c.in-Ok.program.rules; templates = c.in-Ok.program.templates; commands = c.in-Ok.program.commands; names = c.in-Ok.names } in
    let none = c.in-None.ensures.none refl in
    program_run c.args.job.now c.say_network.result _ _ _ _ _ _ text read (λ z. net_told read.rules) c.in-Ok.ensures.text c.in-Ok.ensures.read
    (λ z. net_replies c.args.job.now none z text read) (λ is. refl) c.in-Ok.ensures.cause c.in-Ok.ensures.names (answered_alone c.say_network.result _ _ _ _ _ _ _ _ _ refl c.say_network.ensures.delivers refl)

pub returns-in-Err-clause-runs : goal.returns-in-Err-clause-runs
returns-in-Err-clause-runs g c =
    unprogrammed_run c.args.job.now c.say_why.result _ _ _ _ _ _ _ _ _ _ refl c.in-Err.why c.in-Err.ensures.fault c.in-Err.ensures.last c.in-Err.ensures.cause c.in-Err.ensures.names c.say_why.ensures
