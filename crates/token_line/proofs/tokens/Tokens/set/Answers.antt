-- The other tokens are as they were.
use Rattle.std.proofs.Common.{◌<◌, length, subst, sym}
use Rattle.token_line.specs.inner.TokenRooms.{tokens_in}
use Rattle.token_line.proofs.PairLemmas.{set_are}
use Rattle.token_line.proofs.tokens.Tokens.set.Goals as goal

pub invariant_of-self : goal.invariant_of-self
invariant_of-self c =
    set_are (tokens_in c.self.inside.room) c.self.invariant c.args.place c.args.cell (subst (λ k. c.args.place < length k) (sym c.self.view_is) c.requires.within) c.requires.some
    (tokens_in c.set.new.self) c.set.ensures
