use Rattle.steal_engine.proofs.Balanced.{log_law}
use Rattle.steal_engine.proofs.Draining.{rest_law}
use Rattle.steal_engine.proofs.laws.steal_laws.Goals as goal

pub returns-clause-rest : goal.returns-clause-rest
returns-clause-rest c = rest_law

pub returns-clause-log : goal.returns-clause-log
returns-clause-log c = log_law
