use Rattle.grow_net.proofs.PlaceLemmas.{place_found}
use Rattle.grow_net.proofs.alphas.place_of.Goals as goal

pub returns-in-Some : goal.returns-in-Some
returns-in-Some c = place_found c.args.known.now c.args.more.now.items c.args.alpha.now c.in-Some.place c.in-Some.ensures.found
