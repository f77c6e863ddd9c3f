use Rattle.conflict_index.proofs.Ranks.{outranks-dominates}
use Rattle.conflict_index.proofs.laws.outranking_is_dominance.Goals as goal

pub returns : goal.returns
returns c = outranks-dominates
