use Rattle.ops_base.proofs.FilledValid.{rule_valid}
use Rattle.ops_base.proofs.live.filled_productions_are_valid.Goals as goal

pub returns : goal.returns
returns c = λ fs classes text r. rule_valid fs classes text r
