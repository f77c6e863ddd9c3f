use Rattle.act_phase.proofs.Steps.{then_done, then_short, then_fails}
use Rattle.act_phase.proofs.right_side.make.Goals as goal

pub returns-in_err-fields-clause-does : goal.returns-in_err-fields-clause-does
returns-in_err-fields-clause-does g c = then_fails _ _ c.requires.whole _ _ c.in_err-fields.ensures.does c.from_residual.ensures.1

pub returns-in_err-make-clause-does : goal.returns-in_err-make-clause-does
returns-in_err-make-clause-does g c = then_short _ _ c.requires.whole _ _ c.in_ok-fields.ensures.does c.from_residual-in_err-make.ensures.1

pub returns-clause-does : goal.returns-clause-does
returns-clause-does g c = then_done _ _ c.requires.whole _ _ c.in_ok-fields.ensures.does (λ d. c.in_ok-make.ensures.does _ d)
