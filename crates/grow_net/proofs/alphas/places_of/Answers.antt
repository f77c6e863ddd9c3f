use Rattle.grow_net.proofs.PlaceLemmas.{placed_next}
use Rattle.grow_net.proofs.alphas.places_of.Goals as goal

pub loop-alpha-preserved : goal.loop-alpha-preserved
loop-alpha-preserved c =
    placed_next c.args.known.now c.loop-alpha.more.items c.place_of.new.more.items c.args.added.now c.loop-alpha.places.items c.push.new.self.items c.loop-alpha.alpha-index c.in_ok-place.place c.alpha-item.result
    c.loop-alpha-test.true c.alpha-item.is c.in_ok-push.ensures.items c.in_ok-place.ensures c.loop-alpha.invariant
