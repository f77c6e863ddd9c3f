use Rattle.lint_rules.proofs.Computed.{found, none}
use Rattle.lint_rules.proofs.laws.small_texts.Goals as goal

pub returns-clause-found : goal.returns-clause-found
returns-clause-found c = found

pub returns-clause-none : goal.returns-clause-none
returns-clause-none c = none
