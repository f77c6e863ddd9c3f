-- Each law is proved in `RoundLemmas`.
use Rattle.step_core.proofs.RoundLemmas.{begin_law, end_law, none_law, one_law, round_law, shard_law, steps_law}
use Rattle.step_core.proofs.laws.round_laws.Goals as goal

pub returns-clause-begin : goal.returns-clause-begin
returns-clause-begin c = begin_law

pub returns-clause-steps : goal.returns-clause-steps
returns-clause-steps c = steps_law

pub returns-clause-end : goal.returns-clause-end
returns-clause-end c = end_law

pub returns-clause-none : goal.returns-clause-none
returns-clause-none c = none_law

pub returns-clause-one : goal.returns-clause-one
returns-clause-one c = one_law

pub returns-clause-shards : goal.returns-clause-shards
returns-clause-shards c = shard_law

pub returns-clause-round : goal.returns-clause-round
returns-clause-round c = round_law
