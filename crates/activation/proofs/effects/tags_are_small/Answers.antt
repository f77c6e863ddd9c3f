-- Each tag that is held is at most the last one.
use Rattle.std.proofs.Common.{arith}
use Rattle.activation.proofs.AtNode.{held_below}
use Rattle.activation.proofs.effects.tags_are_small.Goals as goal

pub returns : goal.returns
returns c = λ tag held. omega (arith, held_below c.args.store.now c.last-last.ensures.stored tag held, c.last-last.ensures.last)
