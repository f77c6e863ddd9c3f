use Rattle.run_laws.proofs.Told.{bound_told, explained_told, lines_told}
use Rattle.run_laws.proofs.laws.bindings_are_told.Goals as goal

pub returns-clause-bound : goal.returns-clause-bound
returns-clause-bound c = bound_told

pub returns-clause-explained : goal.returns-clause-explained
returns-clause-explained c = explained_told

pub returns-clause-lines : goal.returns-clause-lines
returns-clause-lines c = lines_told
