use Rattle.std.proofs.Common.{List, length, slice_range, subst, ap, ◌∙◌}
use Rattle.std.specs.Prelude.{IfOk}
use Rattle.ops_base.specs.declared.rules.Rule.{Rule}
use Rattle.net_base.specs.declared.net.Net.{Net}
use Rattle.net_base.specs.Network.{NetOf}
use Rattle.net_base.specs.Shape.{IsShape, counts_of}
use Rattle.beta_net.specs.Built.{IsCompiled}
use Rattle.beta_net.proofs.WholeLemmas.{whole_range}
use Rattle.beta_net.proofs.compile.Goals as goal

pub returns-clause-network : goal.returns-clause-network
returns-clause-network c =
    let rules = c.args.program.now.rules in
    subst (λ (z : List Rule). IfOk c.net_of.result (λ (net : Net). NetOf net z)) (ap (λ n. slice_range rules 0 n) c.len.ensures ∙ whole_range rules) c.net_of.ensures.network

pub returns-clause-shape : goal.returns-clause-shape
returns-clause-shape c =
    let rules = c.args.program.now.rules in
    subst (λ (z : List Rule). IfOk c.net_of.result (λ (net : Net). IsShape z (counts_of net.alphas net.nodes))) (ap (λ n. slice_range rules 0 n) c.len.ensures ∙ whole_range rules) c.net_of.ensures.shape

pub returns-clause-built : goal.returns-clause-built
returns-clause-built c =
    let rules = c.args.program.now.rules in
    subst (λ (z : List Rule). IfOk c.net_of.result (λ (net : Net). IsCompiled z net.alphas net.nodes)) (ap (λ n. slice_range rules 0 n) c.len.ensures ∙ whole_range rules) c.net_of.ensures.built
