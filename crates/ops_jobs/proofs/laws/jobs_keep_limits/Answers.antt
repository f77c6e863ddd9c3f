use Rattle.ops_jobs.proofs.Limits.{job_within}
use Rattle.ops_jobs.proofs.laws.jobs_keep_limits.Goals as goal

pub returns : goal.returns
returns c = job_within
