use Rattle.ops_jobs.proofs.Limits.{one_mode}
use Rattle.ops_jobs.proofs.laws.flags_stand_alone.Goals as goal

pub returns : goal.returns
returns c = one_mode
