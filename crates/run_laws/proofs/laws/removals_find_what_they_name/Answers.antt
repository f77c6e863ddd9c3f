use Rattle.run_laws.proofs.Removed.{action_removes, removals_find, clearing_finds}
use Rattle.run_laws.proofs.laws.removals_find_what_they_name.Goals as goal

pub returns-clause-actions : goal.returns-clause-actions
returns-clause-actions c = action_removes

pub returns-clause-commands : goal.returns-clause-commands
returns-clause-commands c = removals_find

pub returns-clause-all : goal.returns-clause-all
returns-clause-all c = clearing_finds
