use Rattle.joined_files.proofs.Ranging.{are_files}
use Rattle.joined_files.proofs.laws.parts_are_files.Goals as goal

pub returns : goal.returns
returns c = are_files
