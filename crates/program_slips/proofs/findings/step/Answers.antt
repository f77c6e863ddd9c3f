use Rattle.std.specs.HashSet.{contains}
use Rattle.program_slips.specs.Given.{same_given}
use Rattle.program_slips.proofs.Stepping.{one_step}
use Rattle.program_slips.proofs.findings.step.Goals as goal

pub returns : goal.returns
returns c = λ rest.
    one_step (contains same_given c.args.known.now) (contains same_given c.learn.new.known) c.args.found.now.items c.note.new.found.items c.args.ask rest c.in_ok-note.ensures c.in_ok-learn.ensures
