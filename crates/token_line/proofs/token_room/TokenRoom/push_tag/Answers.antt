-- A tag is not there where its token is not.
use Rattle.std.proofs.Common.{sym, ◌∙◌, ap, ◌∷◌, []}
use Rattle.token_line.specs.inner.Pairs.{cell_of}
use Rattle.token_line.specs.inner.TokenRooms.{tokens_in}
use Rattle.token_line.proofs.TokenRoomLemmas.{lookup_tags}
use Rattle.token_line.proofs.token_room.TokenRoom.push_tag.Goals as goal

pub push_within-requires : goal.push_within-requires
push_within-requires c =
    sym (lookup_tags c.in-Elements.tags c.args.tag)
    ∙ (ap (λ r. cell_of (tokens_in r) (c.args.tag ∷ [])) (sym c.in-Elements.is) ∙ c.requires)
