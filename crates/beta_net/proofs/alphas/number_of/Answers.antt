use Rattle.std.proofs.Common.{subst, List}
use Rattle.ops_base.specs.declared.conditions.Test.{Test}
use Rattle.net_base.specs.declared.nodes.Alpha.{Alpha}
use Rattle.beta_net.specs.Built.{IsNewAlpha}
use Rattle.beta_net.proofs.alphas.number_of.Goals as goal

pub add-requires-clause-fresh : goal.add-requires-clause-fresh
add-requires-clause-fresh c =
    subst (λ (z : List Alpha). IsNewAlpha z c.args.class c.args.tests) c.as_slice.ensures.value
    (subst (λ (ts : List Test). IsNewAlpha c.as_slice.result.now c.args.class ts) c.as_slice-2.ensures c.in-None.ensures.none)
