use Rattle.run_laws.proofs.Computed.{equality, order, kind}
use Rattle.run_laws.proofs.laws.predicates_hold.Goals as goal

pub returns-clause-equality : goal.returns-clause-equality
returns-clause-equality c = equality

pub returns-clause-order : goal.returns-clause-order
returns-clause-order c = order

pub returns-clause-kind : goal.returns-clause-kind
returns-clause-kind c = kind
