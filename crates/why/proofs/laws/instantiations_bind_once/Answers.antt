use Rattle.why.proofs.Instantiations.{binds, once}
use Rattle.why.proofs.laws.instantiations_bind_once.Goals as goal

pub returns-clause-some : goal.returns-clause-some
returns-clause-some c = binds

pub returns-clause-once : goal.returns-clause-once
returns-clause-once c = once
