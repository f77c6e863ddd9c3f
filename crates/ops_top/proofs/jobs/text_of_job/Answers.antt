use Rattle.std.proofs.Common.{ap, sym}
use Rattle.ops_top.specs.Whole.{Joined}
use Rattle.ops_top.proofs.jobs.text_of_job.Goals as goal

pub returns-in-Ok-clause-text : goal.returns-in-Ok-clause-text
returns-in-Ok-clause-text g c = rw c.in-Gen.is (ap Joined (sym c.in-Ok.ensures))
