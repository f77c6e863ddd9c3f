use Rattle.grow_laws.proofs.Balance.{due_law}
use Rattle.grow_laws.proofs.Rest.{more_nodes_law}
use Rattle.grow_laws.proofs.Runs.{growth_law}
use Rattle.grow_laws.proofs.laws.growth_laws.Goals as goal

pub returns-clause-more_nodes : goal.returns-clause-more_nodes
returns-clause-more_nodes c = more_nodes_law

pub returns-clause-due : goal.returns-clause-due
returns-clause-due c = due_law

pub returns-clause-growth : goal.returns-clause-growth
returns-clause-growth c = growth_law
