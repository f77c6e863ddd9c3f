use Rattle.std.proofs.Common.{◌∷◌, [], ℕ, ◌+◌, List, Some, slice_get, slice_range, subst, arith}
use Rattle.ops_base.specs.declared.rules.Rule.{Rule}
use Rattle.net_base.specs.declared.net.Net.{Net}
use Rattle.net_base.specs.Network.{NetOf}
use Rattle.beta_net.proofs.WholeLemmas.{one_range, if_ok}
use Rattle.beta_net.proofs.compile_one.Goals as goal

pub overflow_add-number : goal.overflow_add-number
overflow_add-number c = omega (arith, c.requires, c.len-count.ensures, c.len-count.type_inv)

pub returns : goal.returns
returns c =
    if_ok c.net_of.result (λ (net : Net). NetOf net (slice_range c.args.program.now.rules c.args.number (c.args.number + 1))) _
    (λ net of r at. subst (NetOf net) (one_range c.args.program.now.rules c.args.number r at) of) c.net_of.ensures.network
