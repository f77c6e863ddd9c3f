-- No token that is kept has the sum 0.
use Rattle.token_line.specs.inner.TokenRooms.{tokens_in}
use Rattle.token_line.proofs.PairLemmas.{some_at}
use Rattle.token_line.proofs.tokens.Tokens.pair.Goals as goal

pub returns-clause-some : goal.returns-clause-some
returns-clause-some c = some_at (tokens_in c.self.inside.room) c.self.invariant c.args.place c.pair.result.0.now c.pair.result.1 c.pair.ensures
