-- The tests decide, and the filters keep what passes them.
use Rattle.ops_base.proofs.RefractionLaws.{is_among-Decides, member-unfired, member-still_fired}
use Rattle.ops_base.proofs.dominance.refraction_marks.Goals as goal

pub returns-clause-among : goal.returns-clause-among
returns-clause-among c = λ insts i. is_among-Decides insts i

pub returns-clause-unmarked : goal.returns-clause-unmarked
returns-clause-unmarked c = λ found fired i. member-unfired found fired i

pub returns-clause-stays : goal.returns-clause-stays
returns-clause-stays c = λ found fired i. member-still_fired found fired i
