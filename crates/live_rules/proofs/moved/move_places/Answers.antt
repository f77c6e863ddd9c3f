use Rattle.std.proofs.Common.{◌<◌, length, get_or, set, ap, ◌∙◌, arith, None}
use Rattle.std.specs.Prelude.{option_and_then}
use Rattle.std.proofs.lemmas.List.{get_or_default}
use Rattle.std.proofs.lemmas.List.Edits.{map_over_more}
use Rattle.ops_base.specs.Live.{moved}
use Rattle.live_rules.proofs.moved.move_places.Goals as goal

pub loop-place-preserved : goal.loop-place-preserved
loop-place-preserved c =
    let i = c.loop-place.place-index in
    let within : c.loop-place.place-index < length c.loop-place.places = omega (arith, c.loop-place-test.true, c.loop-place.auto.places) in
    ap (set c.loop-place.places i) c.place_moved.ensures
    ∙ map_over_more (λ place. option_and_then (moved c.args.gone) place) c.args.places.now c.loop-place.places i (get_or c.loop-place.places i None) (omega (arith, c.loop-place-test.true, c.loop-place.auto.places)) c.loop-place.invariant (get_or_default c.loop-place.places i None _ within)
