use Rattle.run_laws.proofs.Added.{built_late, firing_filled, place_found, place_gone}
use Rattle.run_laws.proofs.laws.what_is_built_is_in_force.Goals as goal

pub returns-clause-filled : goal.returns-clause-filled
returns-clause-filled c = firing_filled

pub returns-clause-late : goal.returns-clause-late
returns-clause-late c = built_late

pub returns-clause-place : goal.returns-clause-place
returns-clause-place c = place_found

pub returns-clause-gone : goal.returns-clause-gone
returns-clause-gone c = place_gone
