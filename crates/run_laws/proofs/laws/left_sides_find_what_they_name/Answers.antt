use Rattle.run_laws.proofs.Sights.{left_side_finds}
use Rattle.run_laws.proofs.laws.left_sides_find_what_they_name.Goals as goal

pub returns : goal.returns
returns c = left_side_finds
