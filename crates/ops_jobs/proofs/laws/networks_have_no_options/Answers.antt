use Rattle.ops_jobs.proofs.Limits.{network_of_files}
use Rattle.ops_jobs.proofs.laws.networks_have_no_options.Goals as goal

pub returns : goal.returns
returns c = network_of_files
