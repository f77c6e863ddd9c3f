use Rattle.act_phase.proofs.Enough.{excerpt_acts}
use Rattle.act_phase.proofs.laws.an_excerpt_is_enough.Goals as goal

pub returns : goal.returns
returns c = excerpt_acts
