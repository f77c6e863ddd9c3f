use Rattle.read_laws.proofs.Computed.{actions, terms, operations, items, builds}
use Rattle.read_laws.proofs.laws.right_sides_mean.Goals as goal

pub returns-clause-actions : goal.returns-clause-actions
returns-clause-actions c = actions

pub returns-clause-terms : goal.returns-clause-terms
returns-clause-terms c = terms

pub returns-clause-operations : goal.returns-clause-operations
returns-clause-operations c = operations

pub returns-clause-items : goal.returns-clause-items
returns-clause-items c = items

pub returns-clause-builds : goal.returns-clause-builds
returns-clause-builds c = builds
