use Rattle.act_phase.proofs.Steps.{numbered_ok, numbered_err}
use Rattle.act_phase.proofs.right_side.act_at.Goals as goal

pub returns-in-Ok-clause-does : goal.returns-in-Ok-clause-does
returns-in-Ok-clause-does g c = numbered_ok c.args.number c.in-Ok.ensures.does

pub returns-in-Err-clause-does : goal.returns-in-Err-clause-does
returns-in-Err-clause-does g c = numbered_err c.args.number c.in_action.result c.in_action.ensures.failure c.in_action.ensures.read c.in-Err.ensures.does
