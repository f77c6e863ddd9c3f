use Rattle.act_phase.proofs.Steps.{then_done, then_short, then_fails}
use Rattle.act_phase.proofs.right_side.modify.Goals as goal

pub returns-in_err-fields-clause-does : goal.returns-in_err-fields-clause-does
returns-in_err-fields-clause-does g c = then_fails _ _ c.requires.whole _ _ c.in_err-fields.ensures.does c.from_residual.ensures.1

pub returns-in_err-modify-clause-does : goal.returns-in_err-modify-clause-does
returns-in_err-modify-clause-does g c = then_short _ _ c.requires.whole _ _ c.in_ok-fields.ensures.does c.from_residual-in_err-modify.ensures.1

pub returns-clause-does : goal.returns-clause-does
returns-clause-does g c = then_done _ _ c.requires.whole _ _ c.in_ok-fields.ensures.does (λ d. c.in_ok-modify.ensures.does _ d)
