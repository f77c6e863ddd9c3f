use Rattle.run_laws.proofs.Evaluating.{sees_the_same}
use Rattle.run_laws.proofs.Rooms.{one_evaluated}
use Rattle.run_laws.proofs.Sights.{right_side_finds}
use Rattle.run_laws.proofs.laws.right_sides_find_what_they_name.Goals as goal

pub returns-clause-actions : goal.returns-clause-actions
returns-clause-actions c = right_side_finds

pub returns-clause-terms : goal.returns-clause-terms
returns-clause-terms c = sees_the_same

pub returns-clause-one : goal.returns-clause-one
returns-clause-one c = one_evaluated
