-- Each law is proved in `Finding`, `FoundSet`, `StartPlaced`, `Adding`, `Resting`, `Storing` or `Settling`.
use Rattle.step_core.proofs.Adding.{before-push}
use Rattle.step_core.proofs.Finding.{found_law}
use Rattle.step_core.proofs.FoundSet.{found_none, found_set}
use Rattle.step_core.proofs.Resting.{rest_law}
use Rattle.step_core.proofs.Settling.{settled_law}
use Rattle.step_core.proofs.StartPlaced.{child_law, is_placed}
use Rattle.step_core.proofs.Storing.{store_law}
use Rattle.step_core.proofs.laws.settle_laws.Goals as goal

pub returns-clause-found : goal.returns-clause-found
returns-clause-found c = found_law

pub returns-clause-set : goal.returns-clause-set
returns-clause-set c = found_set

pub returns-clause-none : goal.returns-clause-none
returns-clause-none c = found_none

pub returns-clause-placed : goal.returns-clause-placed
returns-clause-placed c = is_placed

pub returns-clause-children : goal.returns-clause-children
returns-clause-children c = child_law

pub returns-clause-entry_start : goal.returns-clause-entry_start
returns-clause-entry_start c = before-push

pub returns-clause-rest : goal.returns-clause-rest
returns-clause-rest c = rest_law

pub returns-clause-store : goal.returns-clause-store
returns-clause-store c = store_law

pub returns-clause-settled : goal.returns-clause-settled
returns-clause-settled c = settled_law
