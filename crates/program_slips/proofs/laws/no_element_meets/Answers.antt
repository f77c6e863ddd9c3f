use Rattle.program_slips.proofs.Excluding.{none_meets}
use Rattle.program_slips.proofs.laws.no_element_meets.Goals as goal

pub returns : goal.returns
returns c = none_meets
