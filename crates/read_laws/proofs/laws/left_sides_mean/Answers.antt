use Rattle.read_laws.proofs.Computed.{operators, operands, parts}
use Rattle.read_laws.proofs.laws.left_sides_mean.Goals as goal

pub returns-clause-operators : goal.returns-clause-operators
returns-clause-operators c = operators

pub returns-clause-operands : goal.returns-clause-operands
returns-clause-operands c = operands

pub returns-clause-parts : goal.returns-clause-parts
returns-clause-parts c = parts
