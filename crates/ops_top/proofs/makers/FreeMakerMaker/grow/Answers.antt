-- The engine stands for the productions with the new one.
use Rattle.std.proofs.Common.{sym, subst}
use Rattle.net_base.specs.declared.net.Net.{Net}
use Rattle.grow_net.specs.Behind.{IsGrown}
use Rattle.beta_net.proofs.WholeLemmas.{if_ok}
use Rattle.ops_top.proofs.makers.FreeMakerMaker.grow.Goals as goal

pub returns-clause-stands : goal.returns-clause-stands
returns-clause-stands g c =
    let alphas = c.in_ok-growth.growth.alphas.items in
    let nodes = c.in_ok-growth.growth.nodes.items in
    if_ok c.grow.result (λ s. IsGrown c.args.matcher.net s.matcher.net alphas nodes) _
    (λ s grown. c.in_ok-growth.ensures.network s.matcher.net (subst (λ (n : Net). IsGrown n s.matcher.net alphas nodes) (sym c.net.ensures) grown))
    c.grow.ensures.grown
