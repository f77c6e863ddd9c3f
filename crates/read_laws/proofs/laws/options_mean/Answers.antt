use Rattle.read_laws.proofs.Computed.{options}
use Rattle.read_laws.proofs.laws.options_mean.Goals as goal

pub returns : goal.returns
returns c = options
