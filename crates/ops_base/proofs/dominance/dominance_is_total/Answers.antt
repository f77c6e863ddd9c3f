-- Dominance compares by a total order that tells all instantiations apart.
use Rattle.ops_base.proofs.DominanceLaws.{one_dominates, dominates_itself, dominates_trans}
use Rattle.ops_base.proofs.dominance.dominance_is_total.Goals as goal

pub returns-clause-one : goal.returns-clause-one
returns-clause-one c = λ strategy rules i j differ. one_dominates strategy rules i j differ

pub returns-clause-itself : goal.returns-clause-itself
returns-clause-itself c = λ strategy rules i. dominates_itself strategy rules i

pub returns-clause-through : goal.returns-clause-through
returns-clause-through c = λ strategy rules i j k a b. dominates_trans strategy rules i j k a b
