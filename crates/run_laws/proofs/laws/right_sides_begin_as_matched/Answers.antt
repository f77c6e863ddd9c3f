use Rattle.run_laws.proofs.Beginnings.{begins_as_matched}
use Rattle.run_laws.proofs.laws.right_sides_begin_as_matched.Goals as goal

pub returns : goal.returns
returns c = begins_as_matched
