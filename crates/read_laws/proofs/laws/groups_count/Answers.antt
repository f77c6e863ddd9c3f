use Rattle.read_laws.proofs.Computed.{groups}
use Rattle.read_laws.proofs.laws.groups_count.Goals as goal

pub returns : goal.returns
returns c = groups
