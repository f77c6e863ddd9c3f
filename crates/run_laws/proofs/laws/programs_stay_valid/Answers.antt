use Rattle.run_laws.proofs.InForce.{program_in_force}
use Rattle.run_laws.proofs.laws.programs_stay_valid.Goals as goal

pub returns : goal.returns
returns c = program_in_force
