use Rattle.program_slips.proofs.Walking.{one_stands, none_stands}
use Rattle.program_slips.proofs.words.token_from.Goals as goal

pub returns-in-Ok : goal.returns-in-Ok
returns-in-Ok c = one_stands c.args.text.now c.args.from c.in-Ok.found c.requires c.in-Ok.ensures.token

pub returns-in-Err : goal.returns-in-Err
returns-in-Err c = none_stands c.args.text.now c.args.from _ c.in-Err.ensures.token
