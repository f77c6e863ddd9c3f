-- One line more is looked over.
use Rattle.std.proofs.Common.{◌∙◌, get_or, subst, sym}
use Rattle.activation.specs.Acting.{TellsOfLasts}
use Rattle.step_core.proofs.WorkedMoves.{moved_more}
use Rattle.step_core.proofs.gathering.look_over_places.Goals as goal

pub look_over-requires : goal.look_over-requires
look_over-requires c =
    let k = c.loop-place.place-index in
    let line = c.index-lines-place.result in
    subst (TellsOfLasts c.args.net.now.nodes) (sym c.index-lines-place.is)
    (c.requires.told (get_or c.args.places.now k 0) line (c.requires.within k 0 c.loop-place-test.true))

pub loop-place-preserved : goal.loop-place-preserved
loop-place-preserved c =
    let k = c.loop-place.place-index in
    let low = c.loop-place-test.true in
    c.in_ok-look_over.ensures
    ∙ moved_more c.args.net.now.nodes c.args.lines.now c.args.places.now k c.index-lines-place.result low (c.requires.within k 0 low) c.index-lines-place.is c.loop-place.moved.items c.loop-place.invariant
