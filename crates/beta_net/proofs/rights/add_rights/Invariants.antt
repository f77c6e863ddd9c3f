use Rattle.beta_net.specs.Rights.{AreGiven}
use Rattle.beta_net.proofs.rights.add_rights.Given as goal

abbrev pub invariant-loop-n : goal.invariant-loop-n
invariant-loop-n l = AreGiven l.initial.nodes.items l.nodes.items l.n
