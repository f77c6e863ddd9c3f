use Rattle.std.proofs.Common.{subst, List}
use Rattle.beta_net.specs.declared.links.Link.{Link}
use Rattle.beta_net.specs.Linked.{IsNew}
use Rattle.beta_net.proofs.links.number_of.Goals as goal

pub add-requires-clause-fresh : goal.add-requires-clause-fresh
add-requires-clause-fresh c = subst (λ (z : List Link). IsNew z c.args.link.parent c.args.link.part) c.as_slice.ensures.value c.in-None.ensures.none
