use Rattle.why.proofs.Instantiations.{whole}
use Rattle.why.proofs.laws.whole_matches_are_instantiations.Goals as goal

pub returns : goal.returns
returns c = whole
