use Rattle.ops_base.proofs.LiveLaws.{conflict_set-append, conflict_set-without, dominance_stays}
use Rattle.ops_base.proofs.live.productions_come_and_go.Goals as goal

pub returns-clause-comes : goal.returns-clause-comes
returns-clause-comes c = λ rules r wm. conflict_set-append rules r wm

pub returns-clause-goes : goal.returns-clause-goes
returns-clause-goes c = λ rules k wm. conflict_set-without rules k wm

pub returns-clause-dominance : goal.returns-clause-dominance
returns-clause-dominance c = λ strategy rules k a b i j e f. dominance_stays strategy rules k a b i j e f
