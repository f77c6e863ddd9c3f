-- A tag is taken out as its token is.
use Rattle.std.proofs.Common.{IfSome, ◌≡◌, slice_get, subst, sym}
use Rattle.std.specs.List.{swap_remove}
use Rattle.token_line.specs.inner.TokenRooms.{as_tokens, tokens_in}
use Rattle.token_line.proofs.TokenRoomLemmas.{removed_tags}
use Rattle.token_line.proofs.token_room.TokenRoom.remove.Goals as goal

pub returns-in-Elements : goal.returns-in-Elements
returns-in-Elements c =
    subst (λ r. IfSome (slice_get (tokens_in r) c.args.place) (λ e. as_tokens c.remove.new.self ≡ swap_remove (tokens_in r) c.args.place e)) (sym c.in-Elements.is)
    (removed_tags c.in-Elements.tags c.remove.new.self c.args.place c.remove.ensures.pairs)
