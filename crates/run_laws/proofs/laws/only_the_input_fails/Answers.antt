use Rattle.run_laws.proofs.Endings.{only_input_fails}
use Rattle.run_laws.proofs.laws.only_the_input_fails.Goals as goal

pub returns : goal.returns
returns c = only_input_fails
