-- The tokens that stay are as they were.
use Rattle.std.proofs.Common.{◌<◌, length, subst, sym}
use Rattle.token_line.specs.inner.TokenRooms.{tokens_in}
use Rattle.token_line.proofs.PairLemmas.{removed_are}
use Rattle.token_line.proofs.tokens.Tokens.remove.Goals as goal

pub invariant_of-self : goal.invariant_of-self
invariant_of-self c =
    removed_are (tokens_in c.self.inside.room) c.self.invariant c.args.place (subst (λ k. c.args.place < length k) (sym c.self.view_is) c.requires) (tokens_in c.remove.new.self) c.remove.ensures
