use Rattle.run_laws.proofs.Places.{values_stand, attribute_within}
use Rattle.run_laws.proofs.laws.values_stand_where_they_are_placed.Goals as goal

pub returns-clause-stand : goal.returns-clause-stand
returns-clause-stand c = values_stand

pub returns-clause-within : goal.returns-clause-within
returns-clause-within c = attribute_within
