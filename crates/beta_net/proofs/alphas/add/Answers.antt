use Rattle.std.proofs.Common.{ap, ◌∙◌, length}
use Rattle.beta_net.specs.declared.alphas.Alphas.{Alphas}
use Rattle.beta_net.specs.Codes.{alpha_code}
use Rattle.beta_net.proofs.AlphaLemmas.{alpha_new}
use Rattle.beta_net.proofs.alphas.add.Goals as goal

pub returns : goal.returns
returns c =
    let new : Alphas = record { list = c.push.new.self; chains = c.add.new.self } in
    alpha_new c.args.alphas.now new c.args.alpha (length c.as_slice-n.result.now) c.alpha_code.result c.requires.alphas c.in_ok-push.ensures.items c.in_ok-add.ensures (c.alpha_code.ensures ∙ ap (alpha_code c.args.alpha.class) c.as_slice.ensures)
    (ap length c.as_slice-n.ensures.value) c.requires.fresh
