use Rattle.ops_jobs.proofs.Limits.{workload_of_numbers}
use Rattle.ops_jobs.proofs.laws.workloads_are_of_two_numbers.Goals as goal

pub returns : goal.returns
returns c = workload_of_numbers
