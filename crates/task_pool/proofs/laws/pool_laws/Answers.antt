-- Each law is proved in `PoolLaws`.
use Rattle.task_pool.proofs.PoolLaws.{balance_law, quiet_law, holders_law}
use Rattle.task_pool.proofs.laws.pool_laws.Goals as goal

pub returns-clause-balance : goal.returns-clause-balance
returns-clause-balance c = balance_law

pub returns-clause-quiet : goal.returns-clause-quiet
returns-clause-quiet c = quiet_law

pub returns-clause-holders : goal.returns-clause-holders
returns-clause-holders c = holders_law
