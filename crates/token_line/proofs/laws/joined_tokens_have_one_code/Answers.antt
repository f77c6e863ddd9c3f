-- What a node can join has one code.
use Rattle.token_line.proofs.Joined.{joined_with_one_code}
use Rattle.token_line.proofs.laws.joined_tokens_have_one_code.Goals as goal

pub returns : goal.returns
returns c = joined_with_one_code
