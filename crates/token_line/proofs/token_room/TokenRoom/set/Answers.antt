-- A cell is written among the tags as it is among the tokens.
use Rattle.std.proofs.Common.{sym, ◌∙◌, ap}
use Rattle.indexmap.specs.IndexMap.{set_value_at}
use Rattle.token_line.specs.inner.TokenRooms.{tokens_in}
use Rattle.token_line.proofs.TokenRoomLemmas.{set_tags}
use Rattle.token_line.proofs.token_room.TokenRoom.set.Goals as goal

pub returns-in-Elements : goal.returns-in-Elements
returns-in-Elements c =
    set_tags c.in-Elements.tags c.args.place c.args.new ∙ ap (λ r. set_value_at (tokens_in r) c.args.place c.args.new) (sym c.in-Elements.is)
