use Rattle.std.proofs.Common.{ap}
use Rattle.act_phase.specs.Outcomes.{setting_of}
use Rattle.cycle.proofs.Firings.{over_same, seen_good, told_good}
use Rattle.cycle.proofs.state.acted_by.Goals as goal

pub returns-clause-acts : goal.returns-clause-acts
returns-clause-acts g c =
    seen_good (λ r. r.0)
    (over_same (setting_of c.args.program.now c.args.watch) c.args.out.now.column c.args.inst.now c.args.names.now (g.M.Matcher.stored c.take-matcher.result.0) (g.M.Matcher.stored c.args.matcher) (ap g.M.Matcher.stored c.take-matcher.ensures)
    (told_good (λ r. r.0) c.in_ok-acted.ensures.acts))
