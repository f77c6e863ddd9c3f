use Rattle.std.proofs.Common.{nat_eq}
use Rattle.std.specs.HashMap.{get}
use Rattle.beta_net.proofs.ChainLemmas.{earlier_is}
use Rattle.beta_net.proofs.chains.Chains.earlier.Goals as goal

pub returns : goal.returns
returns c = earlier_is c.self.inside.entries.items (get nat_eq c.self.inside.newest) c.args.self.now c.args.n c.index.result.now c.self.invariant c.self.view_is c.requires c.index.ensures
