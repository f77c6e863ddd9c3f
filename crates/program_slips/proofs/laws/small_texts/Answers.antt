use Rattle.program_slips.proofs.Computed.{lone_are_found}
use Rattle.program_slips.proofs.laws.small_texts.Goals as goal

pub returns : goal.returns
returns c = lone_are_found
