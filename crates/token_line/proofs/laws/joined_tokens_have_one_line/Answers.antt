-- What a node can join has one line.
use Rattle.token_line.proofs.Joined.{one_line, joined_on_one_line}
use Rattle.token_line.proofs.laws.joined_tokens_have_one_line.Goals as goal

pub returns-clause-equal : goal.returns-clause-equal
returns-clause-equal c = one_line

pub returns-clause-joined : goal.returns-clause-joined
returns-clause-joined c = joined_on_one_line
