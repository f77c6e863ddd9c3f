use Rattle.ops_jobs.proofs.Limits.{explanation_of_files}
use Rattle.ops_jobs.proofs.laws.explanations_are_of_files.Goals as goal

pub returns : goal.returns
returns c = explanation_of_files
