use Rattle.run_laws.proofs.Computed.{sums, quotients, operands}
use Rattle.run_laws.proofs.laws.formulas_give.Goals as goal

pub returns-clause-sums : goal.returns-clause-sums
returns-clause-sums c = sums

pub returns-clause-quotients : goal.returns-clause-quotients
returns-clause-quotients c = quotients

pub returns-clause-operands : goal.returns-clause-operands
returns-clause-operands c = operands
