-- A new token joins those that were there, or nothing has changed.
use Rattle.std.proofs.Common.{◌∙◌, ap}
use Rattle.token_line.specs.inner.Pairs.{cell_of}
use Rattle.token_line.specs.inner.TokenRooms.{tokens_in}
use Rattle.token_line.proofs.PairLemmas.{pushed_or_not}
use Rattle.token_line.proofs.tokens.Tokens.push.Goals as goal

pub invariant_of-self : goal.invariant_of-self
invariant_of-self c =
    pushed_or_not c.push.result (tokens_in c.self.inside.room) (tokens_in c.push.new.self) c.args.token.now c.args.cell c.self.invariant
    (ap (λ k. cell_of k c.args.token.now) c.self.view_is ∙ c.requires.absent) c.requires.some c.push.ensures.ok c.push.ensures.err
