-- No tokens are pairs.
use Rattle.token_line.specs.inner.TokenRooms.{tokens_in}
use Rattle.token_line.proofs.PairLemmas.{no_pairs}
use Rattle.token_line.proofs.tokens.Tokens.new.Goals as goal

pub invariant_of-result : goal.invariant_of-result
invariant_of-result c = no_pairs (tokens_in c.new.result) c.new.ensures
