-- Each law is proved in `Draining`, `Shared` or `Ending`.
use Rattle.free_engine.proofs.Draining.{drain_law}
use Rattle.free_engine.proofs.Shared.{share_law}
use Rattle.free_engine.proofs.Ending.{set_up_law, end_law}
use Rattle.free_engine.proofs.laws.share_laws.Goals as goal

pub returns-clause-drain : goal.returns-clause-drain
returns-clause-drain c = drain_law

pub returns-clause-share : goal.returns-clause-share
returns-clause-share c = share_law

pub returns-clause-set_up : goal.returns-clause-set_up
returns-clause-set_up c = set_up_law

pub returns-clause-ends : goal.returns-clause-ends
returns-clause-ends c = end_law
