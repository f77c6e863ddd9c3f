use Rattle.read_laws.proofs.Computed.{forms_fail, groups_fail, right_sides_fail, functions_fail, builds_fail, commands_fail}
use Rattle.read_laws.proofs.laws.faults_stand.Goals as goal

pub returns-clause-forms : goal.returns-clause-forms
returns-clause-forms c = forms_fail

pub returns-clause-groups : goal.returns-clause-groups
returns-clause-groups c = groups_fail

pub returns-clause-right_sides : goal.returns-clause-right_sides
returns-clause-right_sides c = right_sides_fail

pub returns-clause-functions : goal.returns-clause-functions
returns-clause-functions c = functions_fail

pub returns-clause-builds : goal.returns-clause-builds
returns-clause-builds c = builds_fail

pub returns-clause-commands : goal.returns-clause-commands
returns-clause-commands c = commands_fail
