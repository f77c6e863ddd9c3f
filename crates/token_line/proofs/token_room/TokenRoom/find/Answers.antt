-- A token of one tag is found by its tag, and no other is there.
use Rattle.std.proofs.Common.{sym, ◌∙◌, ap}
use Rattle.token_line.specs.inner.TokenRooms.{only_tag}
use Rattle.token_line.proofs.TokenRoomLemmas.{found_by_tag, longer_missing}
use Rattle.token_line.proofs.token_room.TokenRoom.find.Goals as goal

pub returns-in-Some : goal.returns-in-Some
returns-in-Some c =
    found_by_tag c.args.self.now c.in-Elements.tags c.args.token.now c.in-Some.tag c.find.result c.in-Elements.is
    (ap only_tag (sym c.as_slice-in-Elements.ensures) ∙ (sym c.only_tag.ensures ∙ c.in-Some.is)) c.find.ensures

pub returns-in-None : goal.returns-in-None
returns-in-None c =
    longer_missing c.args.self.now c.in-Elements.tags c.args.token.now c.in-Elements.is
    (ap only_tag (sym c.as_slice-in-Elements.ensures) ∙ (sym c.only_tag.ensures ∙ c.in-None.is))
