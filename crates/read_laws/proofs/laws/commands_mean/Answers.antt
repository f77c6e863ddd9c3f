use Rattle.read_laws.proofs.Computed.{commands}
use Rattle.read_laws.proofs.laws.commands_mean.Goals as goal

pub returns : goal.returns
returns c = commands
