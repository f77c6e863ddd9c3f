use Rattle.ops_jobs.proofs.Limits.{no_dashed_value}
use Rattle.ops_jobs.proofs.laws.no_value_is_dashed.Goals as goal

pub returns : goal.returns
returns c = no_dashed_value
