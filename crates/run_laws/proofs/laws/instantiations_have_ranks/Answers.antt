use Rattle.run_laws.proofs.Rankings.{ranks_found}
use Rattle.run_laws.proofs.laws.instantiations_have_ranks.Goals as goal

pub returns : goal.returns
returns c = ranks_found
