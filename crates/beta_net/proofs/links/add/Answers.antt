use Rattle.std.proofs.Common.{ap, length}
use Rattle.beta_net.specs.declared.links.Links.{Links}
use Rattle.beta_net.proofs.LinkLemmas.{adds_new}
use Rattle.beta_net.proofs.links.add.Goals as goal

pub returns : goal.returns
returns c =
    let new : Links = record { list = c.push.new.self; chains = c.add.new.self } in
    adds_new c.args.links.now new c.args.link (length c.as_slice-n.result.now) c.part_code.result c.requires.linked c.in_ok-push.ensures.items c.in_ok-add.ensures c.part_code.ensures (ap length c.as_slice-n.ensures.value)
    c.requires.fit c.requires.fresh
