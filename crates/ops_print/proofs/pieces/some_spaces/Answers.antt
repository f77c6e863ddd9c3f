use Rattle.ops_print.proofs.Split.{take_spaces}
use Rattle.ops_print.proofs.pieces.some_spaces.Goals as goal

pub returns : goal.returns
returns c = take_spaces c.args.count c.requires
