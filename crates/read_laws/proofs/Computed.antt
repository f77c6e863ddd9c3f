-- What small texts mean, as the definitions of reading and of the command line compute it.
use Rattle.std.proofs.Common.{refl}
use Rattle.ops_jobs.specs.CommandLine.{pieces_from}
use Rattle.ops_tokens.specs.Tokens.{token_at}
use Rattle.ops_tokens.specs.Spellings.{is_operator, is_whole, is_fraction, is_variable}
use Rattle.ops_tokens.specs.Numbers.{decimal}
use Rattle.ops_grammar.specs.Grammar.{step, ends, goes}
use Rattle.ops_grammar.specs.Reads.{reads}
use Rattle.read_laws.specs.LeftSides.{OperatorsMean, OperandsMean, PartsMean}
use Rattle.read_laws.specs.RightSides.{ActionsMean, TermsMean, OperationsMean, ItemsMean, BuildsMean}
use Rattle.read_laws.specs.Commands.{CommandsMean}
use Rattle.read_laws.specs.Options.{OptionsMean}
use Rattle.read_laws.specs.Groups.{GroupsCount}
use Rattle.read_laws.specs.Faults.{FormsFail, GroupsFail, RightSidesFail, FunctionsFail, BuildsFail, CommandsFail}

pub operators : OperatorsMean
unfolding reads token_at is_operator is_whole is_fraction is_variable decimal step ends goes
operators = (refl, refl, refl, refl, refl, refl, refl, refl)

pub operands : OperandsMean
unfolding reads token_at is_operator is_whole is_fraction is_variable decimal step ends goes
operands = (refl, refl, refl, refl, refl)

pub parts : PartsMean
unfolding reads token_at is_operator is_whole is_fraction is_variable decimal step ends goes
parts = (refl, refl, refl, refl)

pub actions : ActionsMean
unfolding reads token_at is_operator is_whole is_fraction is_variable decimal step ends goes
actions = (refl, refl, refl, refl, refl, refl, refl, refl, refl, refl)

pub terms : TermsMean
unfolding reads token_at is_operator is_whole is_fraction is_variable decimal step ends goes
terms = (refl, refl, refl, refl, refl, refl, refl)

pub operations : OperationsMean
unfolding reads token_at is_operator is_whole is_fraction is_variable decimal step ends goes
operations = (refl, refl, refl, refl, refl, refl, refl)

pub items : ItemsMean
unfolding reads token_at is_operator is_whole is_fraction is_variable decimal step ends goes
items = (refl, refl, refl)

pub builds : BuildsMean
unfolding reads token_at is_operator is_whole is_fraction is_variable decimal step ends goes
builds = (refl, refl, refl, refl, refl, refl, refl, refl)

pub commands : CommandsMean
unfolding reads token_at is_operator is_whole is_fraction is_variable decimal step ends goes
commands = (refl, refl, refl, refl, refl, refl, refl, refl, refl, refl, refl, refl, refl, refl, refl, refl, refl, refl, refl, refl, refl, refl, refl, refl, refl, refl)

pub options : OptionsMean
unfolding pieces_from
options = (refl, refl, refl, refl, refl, refl, refl, refl, refl, refl, refl, refl, refl, refl, refl, refl, refl)

pub groups : GroupsCount
unfolding reads token_at is_operator is_whole is_fraction is_variable decimal step ends goes
groups = (refl, refl, refl, refl, refl)

pub forms_fail : FormsFail
unfolding reads token_at is_operator is_whole is_fraction is_variable decimal step ends goes
forms_fail = (refl, refl, refl, refl, refl, refl, refl, refl, refl, refl, refl, refl, refl, refl, refl, refl, refl, refl, refl, refl, refl, refl, refl, refl, refl, refl, refl, refl, refl, refl, refl, refl, refl, refl, refl, refl, refl, refl, refl, refl, refl, refl, refl, refl, refl, refl, refl, refl, refl, refl, refl, refl, refl, refl)

pub groups_fail : GroupsFail
unfolding reads token_at is_operator is_whole is_fraction is_variable decimal step ends goes
groups_fail = (refl, refl, refl, refl, refl, refl, refl, refl, refl, refl, refl, refl, refl, refl, refl, refl, refl, refl, refl, refl, refl, refl, refl, refl, refl)

pub right_sides_fail : RightSidesFail
unfolding reads token_at is_operator is_whole is_fraction is_variable decimal step ends goes
right_sides_fail = (refl, refl, refl, refl, refl, refl, refl, refl, refl, refl, refl, refl, refl, refl, refl, refl, refl, refl, refl, refl, refl, refl, refl, refl, refl, refl, refl, refl, refl, refl)

pub functions_fail : FunctionsFail
unfolding reads token_at is_operator is_whole is_fraction is_variable decimal step ends goes
functions_fail = (refl, refl, refl, refl, refl, refl, refl, refl, refl, refl)

pub builds_fail : BuildsFail
unfolding reads token_at is_operator is_whole is_fraction is_variable decimal step ends goes
builds_fail = (refl, refl, refl, refl, refl, refl, refl, refl, refl, refl, refl, refl, refl, refl, refl, refl, refl, refl, refl, refl, refl, refl, refl, refl, refl, refl, refl, refl, refl, refl, refl, refl, refl, refl, refl, refl, refl, refl, refl, refl, refl)

pub commands_fail : CommandsFail
unfolding reads token_at is_operator is_whole is_fraction is_variable decimal step ends goes
commands_fail = (refl, refl, refl, refl, refl, refl, refl, refl, refl, refl, refl, refl, refl, refl, refl, refl, refl, refl, refl, refl, refl, refl, refl, refl, refl, refl, refl, refl)
