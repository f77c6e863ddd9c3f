use Rattle.lint_top.proofs.Translating.{lines, columns}
use Rattle.lint_top.proofs.laws.places_are_translated.Goals as goal

pub returns-clause-lines : goal.returns-clause-lines
returns-clause-lines c = lines

pub returns-clause-columns : goal.returns-clause-columns
returns-clause-columns c = columns
