-- Going through the list with the best so far ends with the one that dominates all others.
use Rattle.ops_base.proofs.DominanceLaws.{dominant_is, dominant_only}
use Rattle.ops_base.proofs.dominance.dominant_dominates.Goals as goal

pub returns-clause-found : goal.returns-clause-found
returns-clause-found c = λ strategy rules insts. dominant_is strategy rules insts

pub returns-clause-only : goal.returns-clause-only
returns-clause-only c = λ strategy rules insts i a. dominant_only strategy rules insts i a
