use Rattle.std.proofs.Common.{◌∷◌, [], ◌∙◌, subst, take, arith}
use Rattle.beta_net.proofs.Lists.{get_at}
use Rattle.net_base.specs.Network.{NetOf}
use Rattle.grow_net.proofs.Fronts.{front_length, front_more}
use Rattle.grow_net.proofs.growth_for.Goals as goal

pub growth_of-requires-clause-below : goal.growth_of-requires-clause-below
growth_of-requires-clause-below c = λ n k x at e.
    let low = c.requires.before.only n k x at e in
    let count = front_length c.args.number c.args.program.now.rules c.requires.within in omega (arith, low, count)

pub growth_of-requires-clause-room : goal.growth_of-requires-clause-room
growth_of-requires-clause-room c = λ n k x at e.
    let r = get_at c.args.program.now.rules c.args.number c.requires.within in
    let low = (c.in_ok-added.ensures r.0 r.1).only n k x at e in
    omega (arith, low, c.ranges.number.fits)

pub returns-clause-network : goal.returns-clause-network
returns-clause-network c = λ grown g.
    let rules = c.args.program.now.rules in
    let r = get_at rules c.args.number c.requires.within in
    subst (NetOf grown) (front_more c.args.number rules r.0 r.1)
    (c.in_ok-growth.ensures.network grown (take c.args.number rules) (r.0 ∷ []) g (front_length c.args.number rules c.requires.within) c.requires.before (c.in_ok-added.ensures r.0 r.1))
