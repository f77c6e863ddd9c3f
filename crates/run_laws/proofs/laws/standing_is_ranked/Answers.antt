use Rattle.std.proofs.Common.{refl}
use Rattle.run_laws.proofs.Rankings.{standing_ranked, only_ranking}
use Rattle.run_laws.proofs.laws.standing_is_ranked.Goals as goal

pub returns-clause-ranked : goal.returns-clause-ranked
returns-clause-ranked c = standing_ranked

pub returns-clause-only : goal.returns-clause-only
returns-clause-only c = only_ranking

pub returns-clause-listed : goal.returns-clause-listed
returns-clause-listed c = λ s limit column k. refl
