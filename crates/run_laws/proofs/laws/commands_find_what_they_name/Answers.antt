use Rattle.run_laws.proofs.Ordered.{commands_found}
use Rattle.run_laws.proofs.laws.commands_find_what_they_name.Goals as goal

pub returns : goal.returns
returns c = commands_found
